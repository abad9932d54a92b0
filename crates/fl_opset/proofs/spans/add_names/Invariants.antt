use Rattle.std.proofs.Common.{take}
use Rattle.fl_opset.specs.parts.Kept.{AddNames}
use Rattle.fl_opset.proofs.spans.add_names.Given as goal

-- the names so far were added
abbrev pub invariant-loop-op : goal.invariant-loop-op
invariant-loop-op l = AddNames (take l.op-index l.ops) l.initial.spans.items l.spans.items
