-- The rule of the two copies, and what a look at one of them tells.
use Rattle.std.specs.Prelude.{◌≡◌, ℕ, List, Option, Some}
use mathlib.Core.Option as maybe
use lib.ListN.{get_elem?}
use Rattle.logbook.specs.Pages.{Book}
use Rattle.fl_replica.specs.parts.Shown.{shown_by, board_of, IsWhole}
use Rattle.fl_replica.specs.declared.published.Published.{Published}
use Rattle.fl_replica.specs.declared.published.Shown.{Shown}

-- the published list is all that its history has, and whoever looked saw lists of that history
abbrev pub Keeps : Published → List (Option Shown) → Type 0
Keeps x views = IsWhole (shown_by x)
    × ((seat : ℕ) (v : Option Shown) (b : Book) → get_elem? views seat ≡ maybe.some v
    → board_of v ≡ Some b → x.known.book ≡ b)

-- what is published is seen, which is of the board that was seen before
abbrev pub Sees : Option Shown → Published → Published → Option Shown → Type 0
Sees v x y w = (w ≡ Some (shown_by y)) × IsWhole (shown_by y)
    × ((b : Book) → board_of v ≡ Some b → y.known.book ≡ b)
