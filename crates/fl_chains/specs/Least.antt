-- The least of what meets a condition.
use Rattle.std.specs.Prelude.{◌≡◌, false, Option, MatchOption}
use Rattle.std.specs.declared.cmp.Ordering.{Ordering}
use Rattle.std.specs.Ordering.{is_gt}

-- x meets P, and nothing that is less does
pub record IsLeast {K : Type 0} (R : K → K → Ordering) (P : K → Type 0) (x : K) : Type 0 where
  pub member : P x
  pub least : (y : K) → P y → is_gt (R x y) ≡ false

-- the least that meets P, or none where nothing does
abbrev pub FindsLeast : {K : Type 0} → (K → K → Ordering) → (K → Type 0) → Option K → Type 0
FindsLeast {K} R P r = MatchOption r ((x : K) → ¬ P x) (IsLeast R P)
