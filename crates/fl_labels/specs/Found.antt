-- What is asked of one set against another, and what a reader finds.
use Rattle.std.specs.Prelude.{◌≡◌, Bool, true, false, MatchOption}
use Rattle.std.specs.declared.cmp.Ordering.{Ordering}
use Rattle.std.specs.declared.option.Option.{Option}
use Rattle.std.specs.declared.option.Option.TheVariants.{None, Some}
use Rattle.std.specs.Ordering.{is_gt}

-- each member of P is one of Q
abbrev pub Within : {K : Type 0} → (K → Type 0) → (K → Type 0) → Type 0
Within {K} P Q = (x : K) → P x → Q x

-- x is the least member of P that Q lacks
pub record IsLeastOutside {K : Type 0} (R : K → K → Ordering) (P Q : K → Type 0) (x : K) : Type 0 where
  pub member : P x
  pub lacking : ¬ Q x
  pub least : (y : K) → P y → ¬ Q y → is_gt (R x y) ≡ false

-- None where P is within Q, and else the least member of P that Q lacks
abbrev pub FoundAs : {K : Type 0} → (K → K → Ordering) → (K → Type 0) → (K → Type 0) → Option K → Type 0
FoundAs R P Q None = Within P Q
FoundAs R P Q (Some x) = IsLeastOutside R P Q x

pub record Found {K : Type 0} (R : K → K → Ordering) (P Q : K → Type 0) (r : Option K) : Type 0 where
  pub is : FoundAs R P Q r

-- the answer b is whether P holds
pub record Tells (b : Bool) (P : Type 0) : Type 0 where
  pub holds : b ≡ true → P
  pub fails : b ≡ false → ¬ P

-- the value that meets P, or none where no value does
abbrev pub Finds : {T : Type 0} → Option T → (T → Type 0) → Type 0
Finds {T} r P = MatchOption r ((v : T) → P v → ⊥) P
