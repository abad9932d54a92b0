-- The steps of the two copies keep their rule.
use Rattle.std.proofs.Common.{◌≡◌, ℕ, ◌≢◌, List, [], ◌∷◌, ◌++◌, set, refl, sym, ◌∙◌, subst, ⊎_elim, Option, Some, None}
use mathlib.Core.Option as maybe
use lib.ListN.{get_elem?}
use Rattle.logbook.specs.Pages.{Book}
use Rattle.crossbeam_utils.specs.Register.{Admits, TurnsAt, Forks, Merges}
use Rattle.atomic_table.proofs.Lists.{at_set, at_snoc}
use Rattle.fl_replica.specs.parts.Shown.{shown_by, board_of, IsWhole}
use Rattle.fl_replica.specs.parts.Rules.{Keeps, Sees}
use Rattle.fl_replica.specs.declared.published.Published.{Published}
use Rattle.fl_replica.specs.declared.published.Shown.{Shown}

abbrev IsOf : Published → Option Shown → Type 0
IsOf x v = (b : Book) → board_of v ≡ Some b → x.known.book ≡ b

none_of : (x : Published) → IsOf x None
none_of x b e = absurd (cc)

some_of : (x : Published) (s : Shown) → s.known.book ≡ x.known.book → IsOf x (Some s)
some_of x s same b e = sym same ∙ cc (e)

-- one view is replaced
of_set : (x : Published) (views : List (Option Shown)) (seat : ℕ) (v : Option Shown) → ((j : ℕ) (u : Option Shown) → get_elem? views j ≡ maybe.some u → IsOf x u) → IsOf x v
    → (j : ℕ) (u : Option Shown) → get_elem? (set views seat v) j ≡ maybe.some u → IsOf x u
of_set x views seat v all one j u e = ⊎_elim
    (λ (t : (j ≡ seat) × (v ≡ u)). subst (IsOf x) t.1 one)
    (λ (t : (j ≢ seat) × (get_elem? views j ≡ maybe.some u)). all j u t.1)
    (at_set views seat j v u e)

-- one view comes behind
of_snoc : (x : Published) (views : List (Option Shown)) (v : Option Shown) → ((j : ℕ) (u : Option Shown) → get_elem? views j ≡ maybe.some u → IsOf x u) → IsOf x v
    → (j : ℕ) (u : Option Shown) → get_elem? (views ++ v ∷ []) j ≡ maybe.some u → IsOf x u
of_snoc x views v all one j u e = ⊎_elim (all j u) (λ (same : v ≡ u). subst (IsOf x) same one) (at_snoc views v u j e)

pub admits : Admits Keeps None
admits x views h = (h.0, λ seat v b at. of_snoc x views None (λ j u e b. h.1 j u b e) (none_of x) seat v at b)

-- who begins saw nothing
pub keeps_first : (x : Published) → IsWhole (shown_by x) → Keeps x (None ∷ [])
keeps_first x whole = admits x [] (whole, λ seat v b at. absurd (cc (at)))

-- what is published goes on by the same history
pub turns : (seat : ℕ) (v : Option Shown) (x y : Published) → IsWhole (shown_by y) → y.known.book ≡ x.known.book → TurnsAt Keeps seat v x y Sees
turns seat v x y whole same views h at = (
  Some (shown_by y),
  (whole, λ j u b e. of_set y views seat (Some (shown_by y)) (λ j u e b is. same ∙ h.1 j u b e is) (some_of y (shown_by y) refl) j u e b),
  (refl, whole, λ b is. same ∙ h.1 seat v b at is),
)

pub forks : (seat : ℕ) (v : Option Shown) → Forks Keeps seat v v v
forks seat v x views h at = (
  h.0,
  λ j u b e.
      of_snoc x (set views seat v) v (of_set x views seat v (λ j u e b. h.1 j u b e) (λ b. h.1 seat v b at)) (λ b. h.1 seat v b at) j u e b,
)

pub merges : (seat : ℕ) (v : Option Shown) (other : ℕ) (w : Option Shown) → Merges Keeps seat v other w w None
merges seat v other w x views h at apart there =
    let told : IsOf x w = ⊎_elim
    (λ (t : (other ≡ seat) × (w ≡ w)). absurd (apart t.0))
    (λ (t : (other ≢ seat) × (get_elem? views other ≡ maybe.some w)). λ b. h.1 other w b t.1)
    (at_set views seat other w w there) in
    (h.0, λ j u b e. of_set x (set views seat w) other None (of_set x views seat w (λ j u e b. h.1 j u b e) told) (none_of x) j u e b)
