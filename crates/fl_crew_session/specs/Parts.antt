-- What joins the private functions of a session.
use Rattle.std.specs.Prelude.{◌+◌, ◌<◌, ◌≤◌, All, length, refl}
use Rattle.std.specs.Coded.{Coded, code_by, coded×, coded_ℕ, coded_list}
use Rattle.std.specs.declared.option.Option.{Option}
use Rattle.std.specs.declared.option.Option.TheVariants.{Some}
use Rattle.fl_aliases.specs.Table.{Table}
use Rattle.fl_aliases.specs.contracts.target.Target as target_row
use Rattle.fl_script.specs.Grammar.{nodes_of}
use Rattle.fl_script.specs.declared.line.Line.{Line}
use Rattle.fl_script.specs.declared.line.Line.TheVariants.{Node}
use Rattle.fl_script.specs.declared.reading.Reading.{Reading}
use Rattle.fl_script.specs.declared.reading.Reading.TheVariants.{Means}
use Rattle.fl_script.specs.declared.request.Request.TheVariants.{Job}
use Rattle.fl_crew_turns.specs.Held.{HeldJobs, coded_held, count_set}
use Rattle.fl_crew_turns.specs.Session.{CrewSession}
use Rattle.fl_crew_session.specs.declared.session.Task.{Task}

-- Between two lines the aliases that the batch is to set fit beside those that are set, and it can
-- take one job more.
pub record IsBetweenLines (aliases : Table) (held : HeldJobs) : Type 0 where
  pub room : length aliases + count_set held.aliases ≤ 1024
  pub few : length held.jobs < 256

-- the session of these parts
abbrev pub session_of : {C : Type 0} → C → Table → HeldJobs → CrewSession C
session_of crews aliases held = record { crews = crews; aliases = aliases; held = held }

-- a session is stored as the tuple of its fields
abbrev pub coded_session : {C : Type 0} → Coded C → Coded (CrewSession C)
coded_session {C} crews =
    code_by (C × (Table × HeldJobs))
    (coded× crews (coded× (coded_list (coded× (coded_list coded_ℕ) (target_row.the_row).coded))
    coded_held))
    (λ s. (s.crews, (s.aliases, s.held)))
    (λ t. record { crews = t.0; aliases = t.1.0; held = t.1.1 })
    (λ _. refl)

-- the line of a task
abbrev pub line_of : Task → Line
line_of task = Node task.node (Job task.job)

-- the line names no node 0
abbrev pub NamesNodes : Line → Type 0
NamesNodes line = All (λ node. 0 < node) (nodes_of line)

-- what was heard is no line that names a node 0
abbrev pub HearsNodes : Option Reading → Type 0
HearsNodes (Some (Means line alias)) = NamesNodes line
HearsNodes heard = Unit {0}
