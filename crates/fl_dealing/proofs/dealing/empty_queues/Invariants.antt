use Rattle.std.proofs.Common.{◌≡◌, ◌<◌, ℕ, [], length, slice_index_or}
use Rattle.fl_dealing.specs.declared.dealing.Queue.{Queue}
use Rattle.fl_dealing.proofs.dealing.empty_queues.Given as goal

abbrev pub invariant-loop : goal.invariant-loop
invariant-loop l = record {
  count : length l.queues.items ≡ l.counter;
  empty : (i : ℕ) (q : Queue) → i < l.counter
      → (slice_index_or l.queues.items i q).tasks.items ≡ [];
}
