use Rattle.std.specs.Prelude.{take}
use Rattle.fl_chains.proofs.Ways.{AddsGroups}
use Rattle.fl_chains.proofs.groups.add_groups.Given as goal

-- those of the steps so far are added
abbrev pub invariant-loop-leg : goal.invariant-loop-leg
invariant-loop-leg l = AddsGroups l.initial.groups.items (take l.leg-index l.legs) l.groups.items
