-- What words become, one behind the other in one text.
use Rattle.std.specs.Prelude.{ℕ, List, [], ◌∷◌, take, drop}
use Rattle.std.specs.List.{AllZip}
use Rattle.std.specs.Str.{IsCharBoundary}
use Rattle.fl_aliases.specs.Expansion.{Expands}
use Rattle.fl_aliases.specs.Table.{Table}
use Rattle.fl_aliases.specs.Words.{Word}

-- the parts of the text that are so long
abbrev pub parts_of : List ℕ → List ℕ → List Word
parts_of [] text = []
parts_of (n ∷ lengths) text = take n text ∷ parts_of lengths (drop n text)

-- no part ends inside of a character
abbrev pub CanPart : List ℕ → List ℕ → Type 0
CanPart [] text = Unit {0}
CanPart (n ∷ lengths) text = IsCharBoundary text n × CanPart lengths (drop n text)

-- the parts of the text are what the words become
pub record BuiltOf (table : Table) (words : List Word) (lengths : List ℕ) (text : List ℕ) : Type 0 where
  pub each : AllZip (Expands table) words (parts_of lengths text)
  pub can_part : CanPart lengths text
