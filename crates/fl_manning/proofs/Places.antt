-- What is so of a worker at its place among the others.
use Rattle.std.proofs.Common.{◌≡◌, ℕ, List, slice_index_or}
use Rattle.fl_worker.specs.declared.worker.Worker.{Worker}
use Rattle.fl_worker.specs.Done.{IsReady}
use Rattle.fl_dealing.specs.declared.dealing.Queue.{Queue}
use Rattle.fl_manning.specs.Changes.{IsStill}

-- it has the tasks of the queue there
pub record IsGiven (queues : List Queue) (k : ℕ) (old new : Worker) : Type 0 where
  pub ready : IsReady new
  pub tasks : (queue : Queue) → new.tasks.items ≡ (slice_index_or queues k queue).tasks.items
  pub still : IsStill old new
