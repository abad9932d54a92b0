use Rattle.std.proofs.Common.{◌≡◌, ℕ, Some}
use Rattle.std.specs.FinMap as map
use Rattle.fl_store.specs.Kept.{Kept}
use Rattle.fl_calls.specs.Closing.{MayBeLeft}
use Rattle.fl_calls.proofs.cluster.Cluster.close.Given as goal

-- nodes that are left stood there, and what the maker finds may be left
abbrev pub invariant-loop-number : goal.invariant-loop-number
invariant-loop-number g l = record {
  left : (number : ℕ) → (n : _) → map.get l.keepers number ≡ Some n
      → map.get l.fn.self.world.nodes number ≡ Some n;
  found : (number : ℕ) (k : Kept) → g.M.MakesKeepers.making.finds l.maker number k
      → MayBeLeft g.M.K.Keeper.custody g.M.MakesKeepers.making l.fn.self number k;
}

abbrev pub decreases-loop-number : goal.decreases-loop-number
decreases-loop-number g l = map.len l.keepers
