-- Two lists, item by item.
use Rattle.std.specs.Prelude.{◌≡◌, ℕ, ◌<◌, List, length, slice_index_or}

-- as many items, and each stands so to the one at its place
pub record Each {A : Type 0} (R : A → A → Type 0) (old new : List A) : Type 0 where
  pub count : length new ≡ length old
  pub at : (k : ℕ) (d : A) → k < length old → R (slice_index_or old k d) (slice_index_or new k d)
