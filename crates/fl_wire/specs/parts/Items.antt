-- Items that rise, read one after another.
use Rattle.std.specs.Prelude.{◌≡◌, ℕ, ◌+◌, ◌*◌, Bool, true, List, [], ◌∷◌, ◌++◌, length, drop, Option, Some, None}
use Rattle.std.specs.declared.cmp.Ordering.{Ordering}
use Rattle.std.specs.Ordering.{is_lt}
use Rattle.std.specs.List.{flat_map, AllByRecursion}
use Rattle.std.specs.List.Sorted.{IsStrictlySortedBy}
use Rattle.fl_labels.specs.declared.name.Name.{Name}
use Rattle.fl_labels.specs.declared.cap.Cap.{Cap}
use Rattle.fl_labels.specs.Cap.{cap_name, cap_rank}
use Rattle.fl_ops.specs.Grammar.{first_fault}
use Rattle.fl_wire.specs.Fields.{is_next}

-- what tags are ordered by
abbrev pub name_key : Name → List ℕ
name_key n = n.node ∷ n.seq ∷ []

-- what capabilities are ordered by
abbrev pub key_of_cap : Cap → List ℕ
key_of_cap c = (cap_name c).node ∷ (cap_name c).seq ∷ cap_rank c ∷ []

-- the key of the item before, and none before the first
abbrev pub key_before : {K : Type 0} → (K → List ℕ) → Option K → List ℕ
key_before key None = []
key_before key (Some x) = key x

-- x is above the item before it, where there is one
abbrev pub is_above : {K : Type 0} → (K → K → Ordering) → Option K → K → Bool
is_above R None x = true
is_above R (Some before) x = is_lt (R before x)

-- x is the item at the place, above the one before, and one of the format
pub record IsNext {K : Type 0} (R : K → K → Ordering) (Has : K → Type 0) (spell : K → List ℕ) (key_of : K → List ℕ)
    (there : ℕ → Bool) (key : ℕ → List ℕ) (size : ℕ) (bytes : List ℕ) (at : ℕ) (before : Option K) (x : K)
    : Type 0 where
  pub has : Has x
  pub next : is_next there key at (key_before key_of before) ≡ true
  pub above : is_above R before x ≡ true
  pub keyed : key at ≡ key_of x
  pub spelled : drop at bytes ≡ spell x ++ drop (at + size) bytes

-- xs are the items that stand in these fields, so many from a place on
pub record AreRead {K : Type 0} (R : K → K → Ordering) (Has : K → Type 0) (spell : K → List ℕ) (fields : List (ℕ × Bool))
    (size : ℕ) (bytes : List ℕ) (at count : ℕ) (xs : List K) : Type 0 where
  pub has : AllByRecursion Has xs
  pub whole : first_fault fields ≡ None
  pub rises : IsStrictlySortedBy R xs
  pub counted : length xs ≡ count
  pub spelled : drop at bytes ≡ flat_map spell xs ++ drop (at + size * count) bytes
