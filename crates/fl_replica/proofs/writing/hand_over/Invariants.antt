use Rattle.std.proofs.Common.{◌≡◌, ◌++◌, drop}
use Rattle.std.specs.VecDeque.{deque_len}
use Rattle.fl_replica.proofs.writing.hand_over.Given as goal

abbrev pub invariant-loop-entry : goal.invariant-loop-entry
invariant-loop-entry l = (l.writer.desk ≡ l.initial.writer.desk) × (drop l.writer.behind l.writer.log.items ++ l.row.items ≡ drop l.initial.writer.behind l.initial.writer.log.items ++ l.initial.row.items)

abbrev pub decreases-loop-entry : goal.decreases-loop-entry
decreases-loop-entry l = deque_len l.row
