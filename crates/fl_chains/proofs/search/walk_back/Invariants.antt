use Rattle.std.specs.Prelude.{◌+◌, ◌≤◌, length}
use Rattle.std.specs.List.{Contains}
use Rattle.fl_labels.specs.SetBy.{In}
use Rattle.fl_ops.specs.Registry.{Listed}
use Rattle.fl_chains.proofs.Searching.{IsSearched}
use Rattle.fl_chains.proofs.search.walk_back.Given as goal

-- searched so far, and for each step an operation is gone
abbrev pub invariant-loop-root : goal.invariant-loop-root
invariant-loop-root l =
    IsSearched (Listed l.ops) (Contains l.roots) l.fn.cap l.away l.legs.items l.rest.items
    (In l.near) × (l.away + length l.rest.items ≤ length l.ops)

-- how many operations are left
abbrev pub decreases-loop-root : goal.decreases-loop-root
decreases-loop-root l = length l.rest.items
