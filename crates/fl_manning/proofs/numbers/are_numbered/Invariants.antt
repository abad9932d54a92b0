use Rattle.std.proofs.Common.{◌≡◌, ◌+◌, ◌<◌, ℕ, slice_index_or}
use Rattle.fl_worker.specs.declared.worker.Worker.{Worker}
use Rattle.fl_manning.proofs.numbers.are_numbered.Given as goal

abbrev pub invariant-loop-index : goal.invariant-loop-index
invariant-loop-index l = (k : ℕ) (d : Worker) → k < l.index → (slice_index_or l.workers k d).number ≡ k + 1
