use Rattle.std.proofs.Common.{length}
use Rattle.fl_opset.proofs.SplitNodes.{IsSplit}
use Rattle.fl_opset.proofs.joining.by_node_of.Given as goal

abbrev pub invariant-loop-first : goal.invariant-loop-first
invariant-loop-first l = IsSplit l.fn.ops l.nodes.items l.rest

abbrev pub decreases-loop-first : goal.decreases-loop-first
decreases-loop-first l = length l.rest
