-- A value of what an option holds, or of none.
use Rattle.std.specs.Prelude.{Option, Some, None}

abbrev pub folded : {A : Type 0} {B : Type 0} → B → (A → B) → Option A → B
folded none some None = none
folded none some (Some a) = some a
