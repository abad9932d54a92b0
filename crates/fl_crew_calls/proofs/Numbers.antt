-- Packets by their numbers, which are counted from 1.
use Rattle.std.proofs.Common.{arith, ◌≡◌, ◌-◌, ◌<◌, ◌≤◌, ℕ, zero, suc, List, [], ◌∷◌, Option, Some}
use Rattle.std.proofs.Common.{None, HoldsAt, MatchOption, slice_index_or, length, refl, sym, ap}
use Rattle.std.proofs.Common.{subst}
use Rattle.fl_system.specs.Numbered.{item_at}

-- no item has the number 0, nor one beyond the last
pub none_unnumbered : {A : Type 0} (xs : List A) (number : ℕ) → (1 ≤ number → ⊥)
    → item_at xs number ≡ None
none_unnumbered [] number zeroth = refl
none_unnumbered (x ∷ xs) zero zeroth = refl
none_unnumbered (x ∷ xs) (suc before) zeroth = absurd (zeroth (omega arith))

none_beyond : {A : Type 0} (xs : List A) (number : ℕ) → length xs < number
    → item_at xs number ≡ None
none_beyond [] number beyond = refl
none_beyond (x ∷ xs) zero beyond = refl
none_beyond (x ∷ xs) (suc zero) beyond = absurd (omega (arith, beyond))
none_beyond (x ∷ xs) (suc (suc before)) beyond = none_beyond xs (suc before) (omega (arith, beyond))

item_behind : {A : Type 0} (xs : List A) (before : ℕ) (x : A) → before < length xs
    → x ≡ slice_index_or xs before x → item_at xs (suc before) ≡ Some x
item_behind [] before x less here = absurd (omega (arith, less))
item_behind (y ∷ ys) zero x less here = ap Some (sym here)
item_behind (y ∷ ys) (suc before) x less here = item_behind ys before x (omega (arith, less)) here

-- the item behind so many is the one of the next number
pub numbered : {A B : Type 0} (now : B → A) (xs : List A) (number before : ℕ) (r : Option B)
    → 1 ≤ number → before ≡ number - 1
    → MatchOption r (length xs ≤ before)
    (λ x. (before < length xs) × HoldsAt (λ y. now x ≡ y) xs before)
    → MatchOption r (item_at xs number ≡ None) (λ x. item_at xs number ≡ Some (now x))
numbered now xs number before None some is beyond =
    none_beyond xs number (omega (arith, some, is, beyond))
numbered now xs number before (Some x) some is here =
    subst (λ n. item_at xs n ≡ Some (now x)) (omega (arith, some, is))
    (item_behind xs before (now x) here.0 (here.1 (now x)))
