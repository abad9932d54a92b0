use Rattle.std.specs.Prelude.{take}
use Rattle.fl_labels.specs.Cap.{cap_cmp}
use Rattle.fl_chains.specs.Least.{FindsLeast}
use Rattle.fl_chains.proofs.Leasts.{OneOf, Itself}
use Rattle.fl_labels.specs.SetBy.{In}
use Rattle.fl_chains.proofs.legs.least_near.Given as goal

-- the least of those so far
abbrev pub invariant-loop-cap : goal.invariant-loop-cap
invariant-loop-cap l = FindsLeast cap_cmp (OneOf (Itself (In l.near)) (take l.cap-index l.caps))
    l.best
