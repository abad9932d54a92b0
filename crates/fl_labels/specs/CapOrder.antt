-- Capabilities are totally ordered, and only equal ones tie.
use Rattle.std.specs.Prelude.{◌≡◌, false, refl}
use Rattle.std.proofs.Common.{sym, ap, ◌∙◌}
use Rattle.std.specs.declared.cmp.Ordering.{Ordering}
use Rattle.std.specs.declared.cmp.Ordering.TheVariants.{Less, Equal, Greater}
use Rattle.std.specs.Coded.{Coded}
use Rattle.fl_labels.specs.contracts.cap.Cap as caps_row
use Rattle.fl_labels.specs.contracts.cap.CapPartialEq.TheImpl as caps
use Rattle.fl_labels.specs.contracts.name.NamePartialEq.TheImpl as names
use Rattle.fl_labels.specs.declared.cap.Cap.TheVariants.{Plus, Minus, Use, Grow}
use Rattle.std.specs.Cmp.{IsTotalOrder, nat_cmp_total, IsPartialOrder, po}
use Rattle.std.specs.FinSet.{IsAntisymmetric}
use Rattle.std.specs.Ordering.{nat_cmp, ordering_then, eq_by_cmp, is_eq, as_partial_cmp}
use Rattle.std.proofs.lemmas.Cmp.{then_total, on_total}
use Rattle.fl_labels.specs.declared.cap.Cap.{Cap}
use Rattle.fl_labels.specs.Cap.{cap_name, cap_rank, cap_cmp}
use Rattle.fl_labels.specs.declared.name.Name.{Name}
use Rattle.fl_labels.specs.Name.{name_cmp}
use Rattle.fl_labels.specs.NameOrder.{name_total, name_exact, name_tied}

abbrev pub coded_cap : Coded Cap
coded_cap = (caps_row.the_row).coded

pub cap_total : IsTotalOrder cap_cmp
cap_total = then_total (on_total cap_name name_total) (on_total cap_rank nat_cmp_total)

-- equal names of one kind tie, by the names' own `==`
alike : (a b : Name) → names.ghosts.eq a b ≡ is_eq (ordering_then (name_cmp a b) Equal)
alike a b = name_tied a b ∙ then_level (name_cmp a b)
  where
    then_level : (o : Ordering) → is_eq o ≡ is_eq (ordering_then o Equal)
    then_level Less = refl
    then_level Equal = refl
    then_level Greater = refl

-- two kinds never tie
apart : (o p : Ordering) → is_eq p ≡ false → false ≡ is_eq (ordering_then o p)
apart Less p e = refl
apart Equal p e = sym e
apart Greater p e = refl

-- the derived `==` holds of what the order does not tell apart
pub cap_tied : (a b : Cap) → caps.ghosts.eq a b ≡ eq_by_cmp cap_cmp a b
cap_tied (Plus a) (Plus b) = alike a b
cap_tied (Minus a) (Minus b) = alike a b
cap_tied (Use a) (Use b) = alike a b
cap_tied (Grow a) (Grow b) = alike a b
cap_tied a b = apart (name_cmp (cap_name a) (cap_name b)) (nat_cmp (cap_rank a) (cap_rank b)) refl

level : (o p : Ordering) → ordering_then o p ≡ Equal → (o ≡ Equal) × (p ≡ Equal)
level Less p e = absurd (cc)
level Equal p e = (refl, e)
level Greater p e = absurd (cc)

exact_by : (a b : Cap) → cap_name a ≡ cap_name b → nat_cmp (cap_rank a) (cap_rank b) ≡ Equal → a ≡ b
exact_by (Plus a) (Plus b) e k = ap Plus e
exact_by (Minus a) (Minus b) e k = ap Minus e
exact_by (Use a) (Use b) e k = ap Use e
exact_by (Grow a) (Grow b) e k = ap Grow e
exact_by a b e k = absurd (cc)

-- only equal capabilities tie
pub cap_exact : IsAntisymmetric cap_cmp
cap_exact a b h =
    let parts = level _ _ h in
    exact_by a b (name_exact _ _ parts.0) parts.1

pub cap_partial : IsPartialOrder caps.ghosts.eq (as_partial_cmp cap_cmp)
cap_partial = po cap_total cap_tied
