-- Whose turn it is.
use Rattle.std.specs.Prelude.{◌<◌, ◌≤◌, ℕ}

-- there are few benches, and where there are some one of them makes the next process
pub record AreBenches (next count : ℕ) : Type 0 where
  pub few : count ≤ 255
  pub turn : 0 < count → next < count
