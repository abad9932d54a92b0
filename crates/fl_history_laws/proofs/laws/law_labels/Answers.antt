use Rattle.fl_history_laws.specs.laws.Pids.{reached_tidy}
use Rattle.fl_history_laws.specs.laws.Changing.{relabelled}
use Rattle.fl_history_laws.specs.laws.Living.{altered}
use Rattle.fl_history_laws.proofs.laws.law_labels.Goals as goal

pub returns : goal.returns
returns c = λ w after move reply pid old new reached moves lives still.
    relabelled (altered (reached_tidy w reached) moves pid old new lives still)
