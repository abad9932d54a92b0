use Rattle.fl_history_laws.specs.laws.Pids.{reached_tidy}
use Rattle.fl_history_laws.specs.laws.Changing.{retuned}
use Rattle.fl_history_laws.specs.laws.Living.{altered}
use Rattle.fl_history_laws.proofs.laws.law_endpoints.Goals as goal

pub returns : goal.returns
returns c = λ w after move reply pid old new reached moves lives still.
    retuned (altered (reached_tidy w reached) moves pid old new lives still)
