-- Numbers at the head of bytes.
use Rattle.std.specs.Prelude.{◌≡◌, ◌<◌, ◌^◌, ◌++◌, ◌∷◌, ℕ, List, [], Option, Some, None}
use Rattle.std.specs.Borrow.{Bor}
use Rattle.std.specs.Fmt.{decimal}
use Rattle.std.specs.Int.{IsOutOfRange}

-- the first byte, if there is one, is no digit
abbrev pub NoDigitFirst : List ℕ → Type 0
NoDigitFirst [] = Unit {0}
NoDigitFirst (b ∷ bytes) = IsOutOfRange 48 57 b

-- the bytes are a number from 1 to 4294967295, and others behind its last digit
pub record IsNumberThen (bytes : List ℕ) (n : ℕ) (rest : List ℕ) : Type 0 where
  pub above : 0 < n
  pub in_range : n < 2 ^ 32
  pub written : bytes ≡ decimal n ++ rest
  pub ended : NoDigitFirst rest

-- the number and the others, or none where the bytes begin with no such number
abbrev pub FindsNumber : List ℕ → Option (ℕ × Bor (List ℕ)) → Type 0
FindsNumber bytes None = (n : ℕ) (rest : List ℕ) → IsNumberThen bytes n rest → ⊥
FindsNumber bytes (Some found) = IsNumberThen bytes found.0 found.1.now

-- the number, and the others behind the dot after it, or none where the bytes do not begin so
abbrev pub FindsDotted : List ℕ → Option (ℕ × Bor (List ℕ)) → Type 0
FindsDotted bytes None = (n : ℕ) (rest : List ℕ) → IsNumberThen bytes n (46 ∷ rest) → ⊥
FindsDotted bytes (Some found) = IsNumberThen bytes found.0 (46 ∷ found.1.now)
