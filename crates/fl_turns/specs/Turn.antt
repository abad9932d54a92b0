-- What one line of a script does.
use Rattle.std.specs.Prelude.{◌≡◌, ◌⊎◌, ℕ, List, Option}
use Rattle.fl_jobs.specs.declared.job.Act.TheVariants.{Order as Orders}
use Rattle.fl_jobs.specs.declared.job.Job.{Job}
use Rattle.fl_jobs.specs.declared.job.Job.TheVariants.{By}
use Rattle.fl_system.specs.declared.event.Event.{Event}
use Rattle.fl_system.specs.declared.event.Event.TheVariants as event
use Rattle.fl_system.specs.World.{World}
use Rattle.fl_script.specs.declared.line.Line.{Line}
use Rattle.fl_script.specs.declared.line.Line.TheVariants as line
use Rattle.fl_script.specs.declared.request.Request.{Request}
use Rattle.fl_script.specs.declared.request.Request.TheVariants as request
use Rattle.fl_script.specs.declared.reading.Reading.{Reading}
use Rattle.fl_script.specs.declared.reading.Reading.TheVariants as reading
use Rattle.fl_script.specs.Reading.{IsReading, ReadingTakesMemory, SettingTakesMemory}
use Rattle.fl_calls.specs.Answer.{Answer as Said}
use Rattle.fl_calls.specs.Entering.{Openings}
use Rattle.fl_calls.specs.Calls.{Asks, AsksToBegin, Delivers, BeginsToTake}
use Rattle.fl_calls.specs.Calls.{AsksForText, AsksForUnion, AsksToCheck, AsksForAudit}
use Rattle.fl_turns.specs.Answer.{Answer, silence, said, listed, bad_line, starved_line}
use Rattle.fl_turns.specs.Naming.{made_by, renamed}
use Rattle.fl_turns.specs.Session.{Session}

-- the job at the node's only desk, which looks at all that is published
abbrev pub job_at : ℕ → Job → Event
job_at number job = event.Job number 1 18446744073709551615 job

-- What is asked of the node of this number is answered so, and leaves the world so.
abbrev pub AsksNode : Openings → World → ℕ → Request → Said → World → Type 0
AsksNode openings w number (request.Job job) = Asks openings w (job_at number job)
AsksNode openings w number (request.Begin pid order) =
    AsksToBegin openings w (job_at number (By pid (Orders order)))
AsksNode openings w number (request.Deliver packet) = Delivers openings w number packet
AsksNode openings w number (request.BeginDeliver packet) = BeginsToTake openings w number packet
AsksNode openings w number request.Tell = Asks openings w (event.Tell number)
AsksNode openings w number request.Save = Asks openings w (event.Save number)
AsksNode openings w number request.Publish = Asks openings w (event.Publish number)
AsksNode openings w number request.Cancel = Asks openings w (event.Cancel number)
AsksNode openings w number (request.Restart kept) = Asks openings w (event.Restart number kept)
AsksNode openings w number request.Text = AsksForText openings w number
AsksNode openings w number (request.Check bytes) = AsksToCheck openings w number bytes

-- The line is answered so in the session, and leaves its world so.
pub data AnswersLine (openings : Openings) (old : Session) : Line → Answer → World → Type 0 where
  asks : {number : ℕ} {request : Request} {what : Said} {w' : World}
      → AsksNode openings old.world number request what w'
      → AnswersLine openings old (line.Node number request) (said what) w'
  unites : {first second : ℕ} {what : Said} {w' : World}
      → AsksForUnion openings old.world first second what w'
      → AnswersLine openings old (line.Union first second) (said what) w'
  counts : {what : Said} {w' : World} → AsksForAudit old.world what w'
      → AnswersLine openings old line.Audit (said what) w'
  lists : AnswersLine openings old line.Aliases (listed old.aliases) old.world

-- the line is answered so, and what it made, if it made something, is what its alias stands for, if it has one
pub record AnswersNamed (openings : Openings) (old : Session) (line : Line)
    (alias : Option (List ℕ)) (answer : Answer) (new : Session) : Type 0 where
  pub answered : AnswersLine openings old line answer new.world
  pub named : new.aliases ≡ renamed old.aliases alias (made_by answer)

-- what says this is answered so
abbrev pub AnswersReading : Openings → Session → Reading → Answer → Session → Type 0
AnswersReading openings old reading.Quiet answer new = (answer ≡ silence) × (new ≡ old)
AnswersReading openings old reading.Bad answer new = (answer ≡ bad_line) × (new ≡ old)
AnswersReading openings old (reading.Means line alias) answer new =
    AnswersNamed openings old line alias answer new

-- the line says this where the session's aliases are set, and is answered so
pub record Understood (openings : Openings) (old : Session) (bytes : List ℕ) (answer : Answer)
    (new : Session) : Type 0 where
  pub reading : Reading
  pub says : IsReading old.aliases bytes reading
  pub answered : AnswersReading openings old reading answer new

-- reading the line, or setting its alias, takes memory, and there was not enough, and nothing changed
pub record Starved (old : Session) (bytes : List ℕ) (answer : Answer) (new : Session)
    : Type 0 where
  pub takes : ReadingTakesMemory bytes ⊎ SettingTakesMemory old.aliases bytes
  pub answered : answer ≡ starved_line
  pub unchanged : new ≡ old

-- the line is answered so
abbrev pub Turn : Openings → Session → List ℕ → Answer → Session → Type 0
Turn openings old bytes answer new =
    Understood openings old bytes answer new ⊎ Starved old bytes answer new
