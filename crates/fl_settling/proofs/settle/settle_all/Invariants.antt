use Rattle.std.proofs.Common.{◌≡◌, ◌↔◌, ◌≤◌, ◌<◌, ℕ, IsTrue, slice_index_or}
use Rattle.fl_worker.specs.declared.worker.Worker.{Worker}
use Rattle.fl_settling.specs.Settled.{IsSettled, IsFine}
use Rattle.fl_settling.proofs.settle.settle_all.Given as goal

abbrev pub invariant-loop-worker : goal.invariant-loop-worker
invariant-loop-worker l = record {
  settled : (k : ℕ) (d : Worker) → k < l.worker-index
      → IsSettled l.first l.press.list l.deeds l.failed (slice_index_or l.fn.workers k d)
      (slice_index_or l.workers k d);
  fine : IsTrue l.fine ↔ ((k : ℕ) (d : Worker) → k < l.worker-index
      → IsFine l.first l.press.list l.deeds l.failed (slice_index_or l.fn.workers k d)
      (slice_index_or l.workers k d));
  rest : (k : ℕ) (d : Worker) → l.worker-index ≤ k
      → slice_index_or l.workers k d ≡ slice_index_or l.fn.workers k d;
}
