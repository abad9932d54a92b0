use Rattle.std.proofs.Common.{◌≡◌, ◌≤◌, ◌<◌, ℕ, length, slice_index_or, vec_capacity}
use Rattle.fl_worker.specs.declared.worker.Worker.{Worker}
use Rattle.fl_dealing.specs.declared.gathering.Lane.{Lane}
use Rattle.fl_manning.specs.Changes.{IsEmptied}
use Rattle.fl_manning.proofs.lanes.lanes_of.Given as goal

abbrev pub invariant-loop-worker : goal.invariant-loop-worker
invariant-loop-worker l = record {
  count : length l.lanes.items ≡ l.worker-index;
  room : length l.fn.workers ≤ vec_capacity l.lanes;
  entries : (k : ℕ) (worker : Worker) (lane : Lane) → k < l.worker-index
      → (slice_index_or l.lanes.items k lane).entries.items ≡ (slice_index_or l.fn.workers k worker).entries.items;
  emptied : (k : ℕ) (d : Worker) → k < l.worker-index
      → IsEmptied (slice_index_or l.fn.workers k d) (slice_index_or l.workers k d);
  rest : (k : ℕ) (d : Worker) → l.worker-index ≤ k → slice_index_or l.workers k d ≡ slice_index_or l.fn.workers k d;
}
