use Rattle.std.proofs.Common.{◌≡◌, take}
use Rattle.fl_opset.specs.Without.{without}
use Rattle.fl_node.proofs.keeping.remove_all.Given as goal

abbrev pub invariant-loop-op : goal.invariant-loop-op
invariant-loop-op l = l.saved ≡ without l.fn.saved (take l.op-index l.ops)
