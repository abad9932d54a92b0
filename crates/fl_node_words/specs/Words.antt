-- What the words of the program say, as clap reads them.
use Rattle.std.specs.Prelude.{ℕ, List, [], length, ◌≡◌, ◌<◌, ◌⊎◌, Option, Some, None, IsSomeAnd}
use Rattle.std.specs.Prelude.{true, codes, unwrap_or}
use Rattle.std.specs.List.{All}
use Rattle.std.specs.Str.Parse.{digits_value, without_leading_plus}
use Rattle.clap.specs.Words.{App, IsAmong, IsUnsignedIn, Row, Rule, Text, all_of, first_of, matches_of}
use Rattle.clap.specs.Words.{new_app, new_rule, with_rule}
use Rattle.clap.specs.Simple.{on_top}
use Rattle.clap.specs.Faults.{fault_of}
use Rattle.clap.specs.declared.builder.action.ArgAction.TheVariants.{Append, Set, SetTrue}
use Rattle.clap.specs.declared.builder.value_parser.ValueParser.TheVariants.{NonEmptyString, Unsigned}
use Rattle.clap.specs.declared.error.kind.ErrorKind.{ErrorKind}
use Rattle.clap.specs.declared.error.kind.ErrorKind.TheVariants.{DisplayHelp, DisplayVersion, OutOfMemory}
use Rattle.fl_node_words.specs.declared.words.WordsFault.{WordsFault}
use Rattle.fl_node_words.specs.declared.words.WordsFault.TheVariants.{Memory, Refused, Shown}

-- `--node N`, which has to be there, of a number from 1 to 4294967295
abbrev pub node_option : Rule
node_option = record (new_rule (codes "node")) {
  long = Some (codes "node");
  action = Some Set;
  value_names = 1;
  parser = Some (Unsigned 1 4294967295);
  required = true;
}

-- `--dir PATH`, which has to be there, of a path that is not empty
abbrev pub dir_option : Rule
dir_option = record (new_rule (codes "dir")) {
  long = Some (codes "dir");
  action = Some Set;
  value_names = 1;
  parser = Some NonEmptyString;
  required = true;
}

-- `--key FILE`, any number of times, of a path that is not empty
abbrev pub key_option : Rule
key_option = record (new_rule (codes "key")) {
  long = Some (codes "key");
  action = Some Append;
  value_names = 1;
  parser = Some NonEmptyString;
}

-- a flag of this name
abbrev pub flag_named : Text → Rule
flag_named name = record (new_rule name) { long = Some name; action = Some SetTrue }

-- the program with no option of its own, but with a version
abbrev pub start : App
start = on_top (λ s. record s { has_version = true }) (new_app (codes "flume-node"))

-- the program with the options that take a value
abbrev pub with_options : App
with_options = with_rule (with_rule (with_rule start node_option) dir_option) key_option

-- the program
abbrev pub program : App
program = with_rule (with_rule with_options (flag_named (codes "unguarded-orders")))
    (flag_named (codes "new"))

-- the words are the program's, ask for neither help nor version, name one node by a number from 1
-- to 4294967295 and one directory, and name no empty path
abbrev pub AreRight : List Text → Type 0
AreRight words = fault_of program words ≡ []

-- the words ask for help or the version, and no fault stands before
abbrev pub AskForText : List Text → Type 0
AskForText words =
    IsAmong DisplayHelp (fault_of program words) ⊎ IsAmong DisplayVersion (fault_of program words)

-- what an error of such a kind is told as
abbrev pub fault_by : ErrorKind → WordsFault
fault_by OutOfMemory = Memory
fault_by DisplayHelp = Shown
fault_by DisplayVersion = Shown
fault_by _ = Refused

-- the text is a path, since it is not empty
abbrev pub IsPath : Text → Type 0
IsPath text = 0 < length text

-- there is such a text, and it spells this number, which is one from 1 to 4294967295
abbrev pub SaysNode : Option Text → ℕ → Type 0
SaysNode None node = ⊥
SaysNode (Some text) node =
    IsUnsignedIn 1 4294967295 text × (node ≡ digits_value 10 (without_leading_plus text))

-- the values of `--key`, in their order
abbrev pub keys_of : List Row → List Text
keys_of rows = unwrap_or (all_of (codes "key") rows) []

-- the flag was given: its value is then `true`, and else `false`
abbrev pub HasFlag : Text → List Row → Type 0
HasFlag flag rows = first_of flag rows ≡ Some (codes "true")

-- what the options ask is there: the number of a node, the path of a directory, and paths of keys
abbrev pub IsWhole : List Row → Type 0
IsWhole rows = IsSomeAnd (first_of (codes "node") rows) (IsUnsignedIn 1 4294967295)
    × IsSomeAnd (first_of (codes "dir") rows) IsPath × All IsPath (keys_of rows)

-- the text that the words have for the number of the node, if they do
abbrev pub named_node : List Text → Option Text
named_node words = first_of (codes "node") (matches_of program words)

-- the directory that the words name, if they do
abbrev pub named_path : List Text → Option Text
named_path words = first_of (codes "dir") (matches_of program words)

-- the files of keys that the words name, in their order
abbrev pub named_keys : List Text → List Text
named_keys words = keys_of (matches_of program words)

-- the words have `--new`
abbrev pub WantNew : List Text → Type 0
WantNew words = HasFlag (codes "new") (matches_of program words)

-- the words have `--unguarded-orders`
abbrev pub UnguardOrders : List Text → Type 0
UnguardOrders words = HasFlag (codes "unguarded-orders") (matches_of program words)
