use Rattle.std.proofs.Common.{◌≡◌, ◌↔◌, ◌≤◌, ◌<◌, ℕ, IsTrue, slice_index_or}
use Rattle.fl_worker.specs.declared.worker.Worker.{Worker}
use Rattle.fl_manning.specs.Changes.{IsCaughtUp}
use Rattle.fl_manning.proofs.catching_up.catch_up_all.Given as goal

abbrev pub invariant-loop-worker : goal.invariant-loop-worker
invariant-loop-worker l = record {
  caught_up : (k : ℕ) (d : Worker) → k < l.worker-index
      → IsCaughtUp l.press.list (slice_index_or l.fn.workers k d) (slice_index_or l.workers k d);
  all : IsTrue l.all
      ↔ ((k : ℕ) (d : Worker) → k < l.worker-index → (slice_index_or l.workers k d).desk.list ≡ l.press.list);
  rest : (k : ℕ) (d : Worker) → l.worker-index ≤ k → slice_index_or l.workers k d ≡ slice_index_or l.fn.workers k d;
}
