use Rattle.std.proofs.Common.{take, []}
use Rattle.fl_opset.specs.ByNode.{all_ops}
use Rattle.fl_opset.specs.parts.Kept.{AddNames}
use Rattle.fl_opset.proofs.walks.spans_of.Given as goal

-- the names of the nodes so far were added
abbrev pub invariant-loop-it : goal.invariant-loop-it
invariant-loop-it l = AddNames (all_ops (take l.it-index l.nodes)) [] l.spans.items
