use Rattle.std.specs.Prelude.{take}
use Rattle.std.specs.List.{Contains}
use Rattle.fl_chains.proofs.Rooting.{Begin}
use Rattle.fl_chains.proofs.roots.with_gifts.Given as goal

-- what is owned, and given by the operations so far
abbrev pub invariant-loop-op : goal.invariant-loop-op
invariant-loop-op l = Begin (Contains l.owned) (take l.op-index l.ops) l.made.items
