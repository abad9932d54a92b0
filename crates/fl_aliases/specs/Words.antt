-- Lines are cut into words at spaces.
use Rattle.std.specs.Prelude.{◌≢◌, ℕ, List, length, filter, not, ◌==◌}
use Rattle.std.specs.List.{All, slice_split}

-- the bytes of a word
abbrev pub Word : Type 0
Word = List ℕ

-- the pieces that are not empty
abbrev pub full_pieces : List Word → List Word
full_pieces pieces = filter (λ piece. not (length piece == 0)) pieces

-- the words of a line: what stands between its spaces, and is not empty
abbrev pub words_of : List ℕ → List Word
words_of line = full_pieces (slice_split (λ b. b == 32) line)

-- no space and no `$` stands in these bytes
abbrev pub InWord : List ℕ → Type 0
InWord bytes = All (λ b. (b ≢ 32) × (b ≢ 36)) bytes
