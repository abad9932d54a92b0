use Rattle.std.proofs.Common.{◌≡◌, ◌+◌, ◌-◌, ◌≤◌, ◌++◌, true, length, drop}
use Rattle.std.specs.Set.{sorted_merge}
use Rattle.fl_ops.specs.OpOrder.{op_cmp}
use Rattle.fl_opset.proofs.merging.merged.Given as goal

-- what is merged, and what is still to be merged, is the whole
abbrev pub invariant-loop-i : goal.invariant-loop-i
invariant-loop-i l =
    (l.i ≤ length l.left) × (l.j ≤ length l.right)
    × (l.ops.items ++ sorted_merge op_cmp true (drop l.i l.left) (drop l.j l.right) ≡ sorted_merge op_cmp true l.left l.right)

abbrev pub decreases-loop-i : goal.decreases-loop-i
decreases-loop-i l = (length l.left - l.i) + (length l.right - l.j)
