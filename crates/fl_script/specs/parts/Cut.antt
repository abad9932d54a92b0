-- Where lines are cut.
use Rattle.std.specs.Prelude.{◌≡◌, ◌==◌, ℕ, List, false}
use Rattle.std.specs.List.{All}

-- no byte is a space
abbrev pub NoSpace : List ℕ → Type 0
NoSpace text = All (λ b. (b == 32) ≡ false) text
