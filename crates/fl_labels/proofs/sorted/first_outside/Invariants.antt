use Rattle.std.proofs.Common.{◌+◌, ◌-◌, length}
use Rattle.fl_labels.proofs.Walk.{Passed}
use Rattle.fl_labels.proofs.sorted.first_outside.Given as goal

abbrev pub invariant-loop-i : goal.invariant-loop-i
invariant-loop-i g l = Passed g.T.Ord.cmp l.these l.those l.i l.j

abbrev pub decreases-loop-i : goal.decreases-loop-i
decreases-loop-i g l = (length l.these - l.i) + (length l.those - l.j)
