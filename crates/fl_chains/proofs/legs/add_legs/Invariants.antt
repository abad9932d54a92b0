use Rattle.std.specs.Prelude.{take}
use Rattle.fl_chains.proofs.Parting.{Adds}
use Rattle.fl_chains.proofs.legs.add_legs.Given as goal

-- the steps so far are added
abbrev pub invariant-loop-step : goal.invariant-loop-step
invariant-loop-step l = Adds l.initial.legs.items (take l.step-index l.steps) l.left l.legs.items
