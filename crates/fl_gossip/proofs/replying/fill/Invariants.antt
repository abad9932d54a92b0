use Rattle.std.proofs.Common.{◌++◌, length}
use Rattle.fl_gossip.specs.parts.Filling.{filled}
use Rattle.fl_gossip.proofs.Deltas.{FilledTo}
use Rattle.fl_gossip.proofs.replying.fill.Given as goal

abbrev pub invariant-loop-rest : goal.invariant-loop-rest
invariant-loop-rest l = FilledTo (filled l.fn.deltas.items l.fn.waiting.items ++ l.ops) l.deltas.items l.waiting.items l.rest

abbrev pub decreases-loop-rest : goal.decreases-loop-rest
decreases-loop-rest l = length l.rest
