use Rattle.std.proofs.Common.{refl}
use Rattle.fl_crew_model.proofs.Example.{nothing, before, after, deeds, old, new, queues, last}
use Rattle.fl_crew_model.proofs.Example.{opened_here, example}
use Rattle.fl_crew_model.proofs.laws.law_batches.Goals as goal

pub returns : goal.returns
returns c =
    (nothing, before, after, deeds, old, new, queues, (λ w. 0), last, opened_here, example, refl)
