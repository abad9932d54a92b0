use Rattle.std.proofs.Common.{take}
use Rattle.fl_labels.specs.Found.{Within}
use Rattle.fl_ops.specs.Registry.{Listed}
use Rattle.fl_opset.specs.ByNode.{all_ops}
use Rattle.fl_opset.proofs.walks.has_each.Given as goal

-- each of those so far is one of these
abbrev pub invariant-loop-other : goal.invariant-loop-other
invariant-loop-other l = Within (Listed (all_ops (take l.other-index l.others))) (Listed (all_ops l.nodes))
