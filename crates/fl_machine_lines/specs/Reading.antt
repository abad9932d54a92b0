-- What the bytes of a line say to one machine.
use Rattle.std.specs.Prelude.{◌≡◌, ◌≤◌, ℕ, List, length}
use Rattle.std.specs.Str.{IsAscii}
use Rattle.fl_aliases.specs.Expansion.{NoDollar}
use Rattle.fl_aliases.specs.Words.{words_of}
use Rattle.fl_script.specs.Reading.{IsQuiet}
use Rattle.fl_machine_lines.specs.Grammar.{Spells, TakesBlock}
use Rattle.fl_machine_lines.specs.declared.line.MachineLine.{MachineLine}
use Rattle.fl_machine_lines.specs.declared.line.MachineLine.TheVariants.{Quiet, Bad, Echo, Audit, Asks}

-- the bytes are a text of ASCII that is not too long, and name no alias
pub record IsPlain (bytes : List ℕ) : Type 0 where
  pub short : length bytes ≤ 20000
  pub ascii : IsAscii bytes
  pub no_dollar : NoDollar bytes

-- the bytes spell the line
pub record SaysLine (number : ℕ) (bytes : List ℕ) (line : MachineLine) : Type 0 where
  pub loud : ¬ IsQuiet bytes
  pub plain : IsPlain bytes
  pub spelled : Spells number line (words_of bytes)

-- the bytes ask for an answer, and spell no line of the machine
pub record SaysNone (number : ℕ) (bytes : List ℕ) : Type 0 where
  pub loud : ¬ IsQuiet bytes
  pub none : IsPlain bytes → (line : MachineLine) → ¬ Spells number line (words_of bytes)

-- the bytes say this to the machine of this number
abbrev pub IsReading : ℕ → List ℕ → MachineLine → Type 0
IsReading number bytes Quiet = IsQuiet bytes
IsReading number bytes Bad = SaysNone number bytes
IsReading number bytes (Echo word) = SaysLine number bytes (Echo word)
IsReading number bytes Audit = SaysLine number bytes Audit
IsReading number bytes (Asks asked) = SaysLine number bytes (Asks asked)

-- reading the line takes memory: it asks for an answer, and what its words hold takes a block
pub record ReadingTakesMemory (bytes : List ℕ) : Type 0 where
  pub loud : ¬ IsQuiet bytes
  pub plain : IsPlain bytes
  pub takes : TakesBlock (words_of bytes)

-- the lines are one: of a word that is to come back its bytes count, and not where they stand
abbrev pub AreAlike : MachineLine → MachineLine → Type 0
AreAlike (Echo word) (Echo other) = word.now ≡ other.now
AreAlike line other = line ≡ other
