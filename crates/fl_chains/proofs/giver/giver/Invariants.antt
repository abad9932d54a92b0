use Rattle.std.specs.Prelude.{take}
use Rattle.fl_labels.specs.Name.{name_cmp}
use Rattle.fl_chains.specs.Giver.{Gives}
use Rattle.fl_chains.specs.Least.{FindsLeast}
use Rattle.fl_chains.proofs.Leasts.{OneOf}
use Rattle.fl_chains.proofs.giver.giver.Given as goal

-- the least of those so far
abbrev pub invariant-loop-op : goal.invariant-loop-op
invariant-loop-op l = FindsLeast name_cmp (OneOf (Gives l.cap) (take l.op-index l.ops)) l.best
