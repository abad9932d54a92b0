use Rattle.std.proofs.Common.{take}
use Rattle.fl_labels.specs.Found.{Within}
use Rattle.fl_labels.specs.SetBy.{In}
use Rattle.fl_ops.specs.Registry.{Listed}
use Rattle.fl_opset.proofs.set.OpSet.has_all.Given as goal

-- those so far are members
abbrev pub invariant-loop-op : goal.invariant-loop-op
invariant-loop-op l = Within (Listed (take l.op-index l.ops)) (In l.self)
