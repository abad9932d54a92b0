use Rattle.fl_turn_laws.proofs.OneTurn.{script_one}
use Rattle.fl_turn_laws.proofs.laws.law_output.Goals as goal

pub returns : goal.returns
returns g c = λ maker lines a b m n certain.
    script_one c.law_one_packet.ensures.one c.law_one_packet.ensures.whole _ certain lines a b m n
