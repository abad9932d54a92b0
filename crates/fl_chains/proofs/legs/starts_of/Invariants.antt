use Rattle.std.specs.Prelude.{take}
use Rattle.fl_chains.proofs.Parting.{Starts}
use Rattle.fl_chains.proofs.legs.starts_of.Given as goal

-- those of the steps so far
abbrev pub invariant-loop-step : goal.invariant-loop-step
invariant-loop-step l = Starts (take l.step-index l.steps) l.caps.items
