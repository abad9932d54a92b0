-- What an alias is: some letters, which stand behind a `$` in a line.
use Rattle.std.specs.Prelude.{◌≡◌, ℕ, ◌<◌, ◌≤◌, ◌-◌, Bool, true, ◌||◌, ◌==◌, List, ◌∷◌, ◌++◌, length, replicate}
use Rattle.std.specs.Int.{is_in_range}
use Rattle.std.specs.List.{All}

-- the letters are a-z, 0-9 and `_`
abbrev pub is_letter : ℕ → Bool
is_letter b = is_in_range 97 122 b || is_in_range 48 57 b || b == 95

abbrev pub AllLetters : List ℕ → Type 0
AllLetters bytes = All (λ b. is_letter b ≡ true) bytes

-- the bytes are 1 to 32 letters
pub record IsAlias (bytes : List ℕ) : Type 0 where
  pub some : 0 < length bytes
  pub short : length bytes ≤ 32
  pub letters : AllLetters bytes

-- `$x`
abbrev pub alias_text : List ℕ → List ℕ
alias_text letters = 36 ∷ letters

-- the word is the text of this alias
pub record IsAliasWord (letters word : List ℕ) : Type 0 where
  pub alias : IsAlias letters
  pub spelled : word ≡ alias_text letters

-- the letters, and zeros up to 32 bytes
abbrev pub padded : List ℕ → List ℕ
padded letters = letters ++ replicate (32 - length letters) 0
