use Rattle.std.proofs.Common.{◌≡◌, ◌≤◌, ◌<◌, ℕ, length, slice_index_or}
use Rattle.fl_worker.specs.declared.worker.Worker.{Worker}
use Rattle.fl_manning.proofs.Places.{IsGiven}
use Rattle.fl_manning.proofs.giving.give_out.Given as goal

abbrev pub invariant-loop-queue : goal.invariant-loop-queue
invariant-loop-queue l = record {
  index : l.index ≡ length l.yielded;
  given : (k : ℕ) (d : Worker) → k < l.index
      → IsGiven l.fn.queues.items k (slice_index_or l.fn.workers k d) (slice_index_or l.workers k d);
  rest : (k : ℕ) (d : Worker) → l.index ≤ k → slice_index_or l.workers k d ≡ slice_index_or l.fn.workers k d;
  count : length l.workers ≡ length l.fn.workers;
}
