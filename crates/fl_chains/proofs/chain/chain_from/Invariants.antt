use Rattle.std.specs.List.{Contains}
use Rattle.fl_ops.specs.Registry.{Listed}
use Rattle.fl_chains.proofs.Walking.{IsWalk}
use Rattle.fl_chains.proofs.chain.chain_from.Given as goal

-- so far from the root
abbrev pub invariant-loop-left : goal.invariant-loop-left
invariant-loop-left l = IsWalk (Listed l.ops) (Contains l.roots) l.fn.cap l.root
    l.walk.away l.at l.left l.steps.items

abbrev pub decreases-loop-left : goal.decreases-loop-left
decreases-loop-left l = l.left
