use Rattle.fl_turns.specs.Over.{begun_over}
use Rattle.fl_turn_laws.proofs.Beginnings.{run_begins}
use Rattle.fl_turn_laws.proofs.OneTurn.{same_first}
use Rattle.fl_turn_laws.proofs.laws.law_first_lines.Goals as goal

pub returns-clause-begins : goal.returns-clause-begins
returns-clause-begins g c = λ maker first later outputs end. run_begins _ 1 (begun_over maker) first later outputs end

pub returns-clause-same : goal.returns-clause-same
returns-clause-same g c = λ maker first later other a b m n certain.
    same_first c.law_one_packet.ensures.one c.law_one_packet.ensures.whole _ certain first later other a b m n
