use Rattle.std.proofs.Common.{◌≡◌, ◌≤◌, ◌+◌, All, map, length, vec_capacity}
use Rattle.fl_bench.specs.Bench.{new_bench}
use Rattle.fl_replica.specs.Boards.{Front}
use Rattle.fl_settling.specs.Numbers.{AreNumbered}
use Rattle.fl_system.specs.Numbered.{items_to}
use Rattle.fl_workers.specs.Seats.{bench_of_worker, IsAtBoard}
use Rattle.fl_workers.proofs.seating.workers_for.Given as goal

abbrev pub invariant-loop-index : goal.invariant-loop-index
invariant-loop-index l = record {
  desks : length l.desks.items + l.index ≡ l.size;
  ends : length l.ends.items + l.index ≡ l.size;
  count : length l.workers.items ≡ l.index;
  room : l.size ≤ vec_capacity l.workers;
  numbered : AreNumbered l.workers.items;
  benches : map bench_of_worker l.workers.items
      ≡ items_to l.index (λ index. new_bench l.number l.boot index l.size);
  left : (front : Front) → All (λ d. d ≡ front) l.fn.desks.items → All (λ d. d ≡ front) l.desks.items;
  boards : (front : Front) → All (λ d. d ≡ front) l.fn.desks.items
      → All (IsAtBoard front.board) l.workers.items;
}
