use Rattle.std.proofs.Common.{◌≡◌, ℕ, Option, Some, nat_cmp}
use Rattle.std.specs.BTreeMap.{btree_map_len, is_at}
use Rattle.std.specs.FinMap as map
use Rattle.std.specs.Map.{lookup}
use Rattle.fl_store.specs.Kept.{Kept}
use Rattle.fl_workers.specs.Over.{CrewOver}
use Rattle.fl_crew_calls.specs.Closing.{MayBeLeft}
use Rattle.fl_crew_calls.proofs.crews.Crews.close.Given as goal

-- crews that are left were there, and what the maker finds may be left
abbrev pub invariant-loop-number : goal.invariant-loop-number
invariant-loop-number g l = record {
  left : (number : ℕ) (place : Option (CrewOver g.row.M-K.Denot))
      → lookup (is_at (nat_cmp number)) l.all.entries ≡ Some place
      → map.get l.fn.self.crews number ≡ Some place;
  found : (number : ℕ) (k : Kept) → g.M.MakesKeepers.making.finds l.maker number k
      → MayBeLeft g.M.K.Keeper.custody g.M.MakesKeepers.making l.fn.self number k;
}

abbrev pub decreases-loop-number : goal.decreases-loop-number
decreases-loop-number g l = btree_map_len l.all
