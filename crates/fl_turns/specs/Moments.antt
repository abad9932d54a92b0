-- The moments of worlds that a script's lines are, and what these are told of them.
use Rattle.std.specs.Prelude.{◌≡◌, ◌⊎◌, ℕ, List, [], ◌∷◌, Option, None, Some}
use Rattle.std.specs.Prelude.{flat_map, length, take}
use Rattle.fl_aliases.specs.Table.{Table}
use Rattle.fl_jobs.specs.declared.job.Act.TheVariants.{Order as Orders}
use Rattle.fl_jobs.specs.declared.job.Job.TheVariants.{By}
use Rattle.fl_script.specs.declared.line.Line.{Line}
use Rattle.fl_script.specs.declared.line.Line.TheVariants as line
use Rattle.fl_script.specs.declared.reading.Reading.{Reading}
use Rattle.fl_script.specs.declared.reading.Reading.TheVariants as reading
use Rattle.fl_script.specs.declared.request.Request.{Request}
use Rattle.fl_script.specs.declared.request.Request.TheVariants as request
use Rattle.fl_script.specs.Reading.{IsReading}
use Rattle.fl_system.specs.declared.event.Event.{Event}
use Rattle.fl_system.specs.declared.event.Event.TheVariants as event
use Rattle.fl_system.specs.declared.reply.Reply.{Reply}
use Rattle.fl_system.specs.declared.reply.Reply.TheVariants as replies
use Rattle.fl_system.specs.Runs.{Move, Happens, Comes, Returns, Moment, IsRun, end}
use Rattle.fl_calls.specs.Answer.{Answer as Said, replied}
use Rattle.fl_calls.specs.Entering.{Openings}
use Rattle.fl_turns.specs.Answer.{Answer, silence, said, listed, starved_line}
use Rattle.fl_turns.specs.Leading.{ArePlain}
use Rattle.fl_turns.specs.Session.{Session}
use Rattle.fl_turns.specs.Turn.{Turn, job_at}

-- ---- what lines ask for

-- the event that is asked for of the node of this number, if one is
abbrev pub event_asked : ℕ → Request → Option Event
event_asked number (request.Job job) = Some (job_at number job)
event_asked number (request.Begin pid order) = Some (job_at number (By pid (Orders order)))
event_asked number (request.Deliver packet) = Some (event.Deliver packet number)
event_asked number (request.BeginDeliver packet) = Some (event.Deliver packet number)
event_asked number request.Tell = Some (event.Tell number)
event_asked number request.Save = Some (event.Save number)
event_asked number request.Publish = Some (event.Publish number)
event_asked number request.Cancel = Some (event.Cancel number)
event_asked number (request.Restart kept) = Some (event.Restart number kept)
event_asked number request.Text = None
event_asked number (request.Check bytes) = None

-- the one that a line asks for
abbrev pub asked_by_line : Line → Option Event
asked_by_line (line.Node number request) = event_asked number request
asked_by_line (line.Union first second) = None
asked_by_line line.Audit = None
asked_by_line line.Aliases = None

-- the one that bytes ask for which are read so
abbrev pub asked_by : Reading → Option Event
asked_by reading.Quiet = None
asked_by reading.Bad = None
asked_by (reading.Means line alias) = asked_by_line line

-- where these aliases are set, the bytes ask for this event, or for none
pub record Asks (aliases : Table) (bytes : List ℕ) (asked : Option Event) : Type 0 where
  pub reading : Reading
  pub says : IsReading aliases bytes reading
  pub is : asked ≡ asked_by reading

-- ---- what is told of events

-- An event with its reply, where that is what a job, or a message that came, is answered, or that
-- packets were sent; else nothing.
abbrev pub told : Event → Reply → List (Event × Reply)
told event (replies.Job reply) = (event, replies.Job reply) ∷ []
told event (replies.Sent first count) = (event, replies.Sent first count) ∷ []
told event reply = []

-- of a moment
abbrev pub told_at : Move → Reply → List (Event × Reply)
told_at (Happens event) reply = told event reply
told_at (Comes number kept) reply = []
told_at (Returns number kept) reply = []

-- of moments, one after another
abbrev pub told_in : List Moment → List (Event × Reply)
told_in ms = flat_map (λ (m : Moment). told_at m.move m.reply) ms

-- by a line that asks for this event, or for none, and is answered so
abbrev pub told_said : Option Event → Said → List (Event × Reply)
told_said (Some event) (replied reply) = told event reply
told_said asked what = []

abbrev pub told_by : Option Event → Answer → List (Event × Reply)
told_by asked silence = []
told_by asked (said what) = told_said asked what
told_by asked (listed table) = []

-- ---- turns

-- a line that was answered: the sessions before and after it, and the moments in between
pub record Turned : Type 0 where
  pub before : Session
  pub line : List ℕ
  pub answer : Answer
  pub moments : List Moment
  pub after : Session

-- It is a turn. Its moments are a run of worlds, from the one before it to the one after it, of
-- events and joinings alone. What is told at these moments is what its answer tells of the event
-- that it asks for.
pub record IsTurn (openings : Openings) (t : Turned) : Type 0 where
  pub turn : Turn openings t.before t.line t.answer t.after
  pub is_run : IsRun t.before.world t.moments
  pub plain : ArePlain t.moments
  pub leads : end t.before.world t.moments ≡ t.after.world
  pub asked : Option Event
  pub asks : Asks t.before.aliases t.line asked ⊎ (t.answer ≡ starved_line)
  pub tells : told_in t.moments ≡ told_by asked t.answer

-- they are turns, one after another, which lead from one session to the other
abbrev pub AreTurns : Openings → Session → List Turned → Session → Type 0
AreTurns openings old [] new = new ≡ old
AreTurns openings old (t ∷ ts) new =
    (t.before ≡ old) × IsTurn openings t × AreTurns openings t.after ts new

-- all of their moments
abbrev pub moments_of : List Turned → List Moment
moments_of ts = flat_map (λ (t : Turned). t.moments) ts

-- how many of these come before the turn of this place, counted from 0
abbrev pub moments_before : List Turned → ℕ → ℕ
moments_before ts k = length (moments_of (take k ts))
