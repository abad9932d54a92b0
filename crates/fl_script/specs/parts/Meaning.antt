-- What the words of a line say, where aliases in them are replaced.
use Rattle.std.specs.Prelude.{◌≡◌, ◌<◌, ◌⊎◌, true, List, length}
use Rattle.std.specs.List.{All}
use Rattle.fl_aliases.specs.Expansion.{NoDollar}
use Rattle.fl_aliases.specs.Table.{Table}
use Rattle.fl_aliases.specs.Words.{Word}
use Rattle.fl_script.specs.Grammar.{HoldsBlock}
use Rattle.fl_script.specs.Reading.{makes, SpellsReplaced}
use Rattle.fl_script.specs.declared.line.Line.{Line}

-- the words spell a line, and one more alias can be set for what it makes
pub record CanBeNamed (table : Table) (line : Line) (words : List Word) : Type 0 where
  pub made : makes line ≡ true
  pub room : length table < 1024
  pub spelled : SpellsReplaced table line words

-- replacing the aliases in the words, and reading what comes of it, may want memory
pub record WantsMemory (words : List Word) : Type 0 where
  pub is : (¬ All NoDollar words) ⊎ HoldsBlock words
