-- What the words of the program say, as clap reads them.
use Rattle.std.specs.Prelude.{ℕ, List, [], ◌≡◌, Option, Some, None, true, codes}
use Rattle.std.specs.Str.Parse.{digits_value, without_leading_plus}
use Rattle.clap.specs.Words.{App, IsUnsignedIn, Rule, Text, first_of, matches_of, new_app, new_rule, with_rule}
use Rattle.clap.specs.Simple.{on_top}
use Rattle.clap.specs.Faults.{fault_of}
use Rattle.clap.specs.declared.builder.action.ArgAction.TheVariants.{Set}
use Rattle.clap.specs.declared.builder.value_parser.ValueParser.TheVariants.{NonEmptyString, Unsigned}
use Rattle.fl_words.specs.declared.words.Place.{Place}
use Rattle.fl_words.specs.declared.words.Place.TheVariants.{Memory, Directory}

-- `--workers W`, of a number from 0 to 16
abbrev pub workers_option : Rule
workers_option = record (new_rule (codes "workers")) {
  long = Some (codes "workers");
  action = Some Set;
  value_names = 1;
  parser = Some (Unsigned 0 16);
}

-- `--dir PATH`, of a path that is not empty
abbrev pub dir_option : Rule
dir_option = record (new_rule (codes "dir")) {
  long = Some (codes "dir");
  action = Some Set;
  value_names = 1;
  parser = Some NonEmptyString;
}

-- the program with no option of its own, but with a version
abbrev pub start : App
start = on_top (λ s. record s { has_version = true }) (new_app (codes "flume-tags"))

-- the program
abbrev pub program : App
program = with_rule (with_rule start workers_option) dir_option

-- the words are the program's, ask for neither help nor version, name no empty path, and no number of
-- workers but 0 to 16
abbrev pub AreRight : List Text → Type 0
AreRight words = fault_of program words ≡ []

-- the path that the words name, if they do
abbrev pub named_path : List Text → Option Text
named_path words = first_of (codes "dir") (matches_of program words)

-- the path of a place
abbrev pub path_of : Place → Option Text
path_of Memory = None
path_of (Directory path) = Some path.now

-- the text that the words have for the number of workers, if they do
abbrev pub named_workers : List Text → Option Text
named_workers words = first_of (codes "workers") (matches_of program words)

-- such a text says so many: the number that it spells, and without a text none
abbrev pub SaysWorkers : Option Text → ℕ → Type 0
SaysWorkers None workers = workers ≡ 0
SaysWorkers (Some text) workers =
    IsUnsignedIn 0 16 text → workers ≡ digits_value 10 (without_leading_plus text)
