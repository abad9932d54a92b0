use Rattle.std.specs.Prelude.{take}
use Rattle.fl_labels.specs.SetBy.{In}
use Rattle.fl_chains.specs.parts.Legs.{AreParts}
use Rattle.fl_chains.proofs.legs.split.Given as goal

-- those so far are parted
abbrev pub invariant-loop-op : goal.invariant-loop-op
invariant-loop-op l = AreParts (take l.op-index l.ops) (In l.near) l.taken.items l.rest.items
