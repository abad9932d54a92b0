use Rattle.std.specs.Prelude.{take}
use Rattle.fl_chains.specs.Step.{step_cmp}
use Rattle.fl_chains.specs.Least.{FindsLeast}
use Rattle.fl_chains.specs.parts.Legs.{LeadsOn}
use Rattle.fl_chains.proofs.legs.least_leg.Given as goal

-- the least of those so far
abbrev pub invariant-loop-leg : goal.invariant-loop-leg
invariant-loop-leg l = FindsLeast step_cmp (LeadsOn (take l.leg-index l.legs) l.at l.left) l.best
