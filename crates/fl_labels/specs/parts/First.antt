-- What a search along a list finds, and which of two finds is the lesser.
use Rattle.std.specs.Prelude.{◌≡◌, ◌⊎◌, List, [], ◌∷◌, cond}
use Rattle.std.specs.declared.cmp.Ordering.{Ordering}
use Rattle.std.specs.declared.option.Option.{Option}
use Rattle.std.specs.declared.option.Option.TheVariants.{None, Some}
use Rattle.std.specs.Ordering.{is_lt}

-- the first of these items that has P and lacks Q
abbrev pub IsFirst : {K : Type 0} → (K → Type 0) → (K → Type 0) → List K → Option K → Type 0
IsFirst P Q [] r = r ≡ None
IsFirst P Q (x ∷ xs) r = ((r ≡ Some x) × (P x × (¬ Q x))) ⊎ ((P x → Q x) × IsFirst P Q xs r)

-- the lesser of two, where they are there
abbrev pub lesser_of : {K : Type 0} → (K → K → Ordering) → Option K → Option K → Option K
lesser_of R None b = b
lesser_of R (Some a) None = Some a
lesser_of R (Some a) (Some b) = cond (is_lt (R b a)) (Some b) (Some a)
