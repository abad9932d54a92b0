use Rattle.std.proofs.Common.{◌≡◌, ◌≤◌, ◌<◌, ◌+◌, ℕ, get_or}
use Rattle.fl_ops.specs.declared.op.Op.{Op}
use Rattle.fl_opset.proofs.search.has_other.Given as goal

-- those of the name so far are the operation itself
abbrev pub invariant-loop-other : goal.invariant-loop-other
invariant-loop-other l = (k : ℕ) (d : Op) → l.first ≤ k → k < l.first + l.other-index → get_or l.ops k d ≡ l.op
