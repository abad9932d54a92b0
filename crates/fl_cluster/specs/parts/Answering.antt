-- What is responded to a line that was read.
use Rattle.std.specs.Prelude.{◌≡◌, ◌⊎◌, ℕ, List}
use Rattle.std.specs.declared.option.Option.{Option}
use Rattle.std.specs.declared.option.Option.TheVariants.{None, Some}
use Rattle.fl_aliases.specs.Table.{Table, target_of}
use Rattle.fl_store.specs.Custody.{Custody}
use Rattle.fl_makers.specs.Making.{Making}
use Rattle.fl_script.specs.declared.line.Line.{Line}
use Rattle.fl_calls.specs.Over.{ClusterOver, GoesOn}
use Rattle.fl_turns.specs.Answer.{starved_line}
use Rattle.fl_turns.specs.Over.{SessionOver}
use Rattle.fl_turns.specs.Turn.{AnswersLine, AnswersNamed}
use Rattle.fl_cluster.specs.Shown.{shown}
use Rattle.fl_cluster.specs.declared.response.Response.{Response}

-- the response answers the line, whatever the aliases are
abbrev pub RespondsTo : {K M : Type 0} → Custody K → Making M K → ClusterOver K M → Line → Response → ClusterOver K M → Type 0
RespondsTo custody making old line response new =
    GoesOn custody making old new (λ openings w w'. (aliases : Table)
    → AnswersLine openings (record { world = w; aliases = aliases }) line
    (shown (record { cluster = new; aliases = aliases }) response) w')

-- the response answers the line, and its alias stands for what it made
abbrev pub Names : {K M : Type 0} → Custody K → Making M K → SessionOver K M → Line → Option (List ℕ) → Response
    → SessionOver K M → Type 0
Names custody making old line alias response new =
    GoesOn custody making old.cluster new.cluster (λ openings w w'.
    AnswersNamed openings (record { world = w; aliases = old.aliases }) line alias
    (shown new response) (record { world = w'; aliases = new.aliases }))

-- the alias is not set
abbrev pub IsUnset : Table → Option (List ℕ) → Type 0
IsUnset table None = ⊥
IsUnset table (Some alias) = target_of table alias ≡ None

-- the same, or there was no memory for the alias, which is a new one, and nothing changed
abbrev pub NamesOrStarves : {K M : Type 0} → Custody K → Making M K → SessionOver K M → Line → Option (List ℕ) → Response
    → SessionOver K M → Type 0
NamesOrStarves custody making old line alias response new =
    Names custody making old line alias response new
    ⊎ ((shown new response ≡ starved_line) × (new ≡ old) × IsUnset old.aliases alias)
