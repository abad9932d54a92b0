use Rattle.std.specs.Prelude.{take}
use Rattle.fl_labels.specs.Found.{Within}
use Rattle.fl_ops.specs.Registry.{Listed}
use Rattle.fl_closure.specs.parts.Knowing.{IsKnown}
use Rattle.fl_closure.proofs.index.knows_all.Given as goal

-- all that follows from those so far is there
abbrev pub invariant-loop-op : goal.invariant-loop-op
invariant-loop-op l = Within (Listed (take l.op-index l.ops)) (IsKnown l.closure l.logins)
