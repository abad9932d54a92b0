use Rattle.std.proofs.Common.{◌-◌, length}
use Rattle.fl_gossip.proofs.ahead.bound.Given as goal

abbrev pub decreases-loop-bound : goal.decreases-loop-bound
decreases-loop-bound l = length l.ops - l.bound
