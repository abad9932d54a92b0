use Rattle.std.proofs.Common.{◌<◌, ◌-◌, length}
use Rattle.fl_opset.proofs.lacking.bound.Given as goal

abbrev pub invariant-loop-bound : goal.invariant-loop-bound
invariant-loop-bound l = 0 < l.bound

abbrev pub decreases-loop-bound : goal.decreases-loop-bound
decreases-loop-bound l = length l.ops - l.bound
