-- What one line of a script over crews does.
use Rattle.std.specs.Prelude.{◌≡◌, ◌≢◌, ◌⊎◌, ◌+◌, ◌<◌, ◌++◌, [], ℕ, Bool, List, false, length, max, true}
use Rattle.std.specs.declared.option.Option.{Option}
use Rattle.std.specs.declared.option.Option.TheVariants.{None, Some}
use Rattle.std.specs.declared.result.Result.TheVariants.{Ok, Err}
use Rattle.fl_aliases.specs.Table.{Table}
use Rattle.fl_jobs.specs.declared.job.Job.{Job as AnyJob}
use Rattle.fl_stream.specs.Turns.{LineOutput}
use Rattle.fl_system.specs.declared.answer.Fault.{Fault}
use Rattle.fl_system.specs.declared.reply.Reply.{Reply}
use Rattle.fl_system.specs.declared.reply.Reply.TheVariants.{Refused}
use Rattle.fl_script.specs.Reading.{IsReading, ReadingTakesMemory}
use Rattle.fl_script.specs.declared.line.Line.{Line}
use Rattle.fl_script.specs.declared.line.Line.TheVariants.{Aliases, Audit, Node, Union}
use Rattle.fl_script.specs.declared.reading.Reading.{Reading}
use Rattle.fl_script.specs.declared.reading.Reading.TheVariants.{Bad, Means, Quiet}
use Rattle.fl_script.specs.declared.request.Request.TheVariants.{Job}
use Rattle.fl_calls.specs.Answer.{Answer as Said, replied}
use Rattle.fl_turns.specs.Answer.{Answer, bad_line, listed, said, silence, starved_line, status_of}
use Rattle.fl_turns.specs.AnswerText.{text_of}
use Rattle.fl_crew_turns.specs.Batch.{EndsBatch, replies_text, worst_reply}
use Rattle.fl_crew_turns.specs.Held.{HeldJobs, count_set, none_held, with_job}
use Rattle.fl_crew_turns.specs.Naming.{NamesHeld}
use Rattle.fl_crew_turns.specs.Session.{CrewCalls, CrewSession}

-- what the line says where these aliases are set, or nothing where there was no memory to read it
abbrev pub IsHeard : Table → List ℕ → Option Reading → Type 0
IsHeard table bytes None = ReadingTakesMemory bytes
IsHeard table bytes (Some reading) = IsReading table bytes reading

-- one alias more, if it is one, may be set beside these and those that are to be set
abbrev pub HasRoomFor : Table → HeldJobs → Option (List ℕ) → Type 0
HasRoomFor table held alias =
    (alias ≡ None) ⊎ (length table + count_set held.aliases < 1024)

-- The batch that is held goes on with a job: it is of its node, and there is room for its alias
-- whatever the lines before it set.
pub record GoesOn {C : Type 0} (session : CrewSession C) (node : ℕ) (alias : Option (List ℕ))
    : Type 0 where
  pub some : session.held.jobs ≢ []
  pub own : session.held.node ≡ node
  pub room : HasRoomFor session.aliases session.held alias

-- it goes on with what was heard
abbrev pub GoesOnWith : {C : Type 0} → CrewSession C → Option Reading → Type 0
GoesOnWith session (Some (Means (Node node (Job job)) alias)) = GoesOn session node alias
GoesOnWith session heard = ⊥

-- The batch that was held has ended before the line: the line names an alias that it was to set, and
-- was read only then; or what it says is no job with which the batch goes on.
pub data EndsBefore {C : Type 0} (calls : CrewCalls C) (old : CrewSession C) (bytes : List ℕ)
    : Option Reading → List Reply → CrewSession C → Type 0 where
  named : {heard : Option Reading} {replies : List Reply} {new : CrewSession C}
      → NamesHeld old.held bytes → EndsBatch calls old replies new
      → IsHeard new.aliases bytes heard → EndsBefore calls old bytes heard replies new
  other : {heard : Option Reading} {replies : List Reply} {new : CrewSession C}
      → ¬ NamesHeld old.held bytes → IsHeard old.aliases bytes heard
      → ¬ GoesOnWith old heard → EndsBatch calls old replies new
      → EndsBefore calls old bytes heard replies new

-- the line is neither a job nor asks for the aliases
abbrev pub is_other : Line → Bool
is_other (Node node (Job job)) = false
is_other (Node node request) = true
is_other (Union first second) = true
is_other Audit = true
is_other Aliases = false

-- What was heard is answered so, while no batch is held. A job is held, and not answered yet, once its
-- node is open, which is not opened for a line that is none of the script, since it sets an alias and
-- as many are set as may be.
pub data AnswersNow {C : Type 0} (calls : CrewCalls C) (old : CrewSession C)
    : Option Reading → Answer → CrewSession C → Type 0 where
  quiet : AnswersNow calls old (Some Quiet) silence old
  bad : AnswersNow calls old (Some Bad) bad_line old
  unread : AnswersNow calls old None starved_line old
  lists : {alias : Option (List ℕ)}
      → AnswersNow calls old (Some (Means Aliases alias)) (listed old.aliases) old
  asks : {line : Line} {alias : Option (List ℕ)} {what : Said} {crews : C}
      → is_other line ≡ true → calls.responds old.crews line what crews
      → AnswersNow calls old (Some (Means line alias)) (said what) (record old { crews = crews })
  full : {node : ℕ} {job : AnyJob} {alias : Option (List ℕ)} → ¬ HasRoomFor old.aliases old.held alias
      → AnswersNow calls old (Some (Means (Node node (Job job)) alias)) bad_line old
  shut : {node : ℕ} {job : AnyJob} {alias : Option (List ℕ)} {fault : Fault} {crews : C}
      → HasRoomFor old.aliases old.held alias → calls.opens old.crews node (Err fault) crews
      → AnswersNow calls old (Some (Means (Node node (Job job)) alias))
      (said (replied (Refused fault))) (record old { crews = crews })
  holds : {node : ℕ} {job : AnyJob} {alias : Option (List ℕ)} {crews : C}
      → HasRoomFor old.aliases old.held alias → calls.opens old.crews node (Ok tt) crews
      → AnswersNow calls old (Some (Means (Node node (Job job)) alias)) silence
      (record old { crews = crews; held = with_job none_held node job alias })
  no_room : {node : ℕ} {job : AnyJob} {alias : Option (List ℕ)} {crews : C}
      → HasRoomFor old.aliases old.held alias → calls.opens old.crews node (Ok tt) crews
      → AnswersNow calls old (Some (Means (Node node (Job job)) alias)) starved_line
      (record old { crews = crews })

-- The line has its batch go on, and end behind it as the 256th, or it is answered once the batch
-- before it has ended. The replies are of the lines of the batch that ends.
pub data CrewTurn {C : Type 0} (calls : CrewCalls C) (old : CrewSession C) (bytes : List ℕ)
    : List Reply → Answer → CrewSession C → Type 0 where
  waits : {node : ℕ} {job : AnyJob} {alias : Option (List ℕ)} → ¬ NamesHeld old.held bytes
      → IsReading old.aliases bytes (Means (Node node (Job job)) alias) → GoesOn old node alias
      → length old.held.jobs + 1 < 256
      → CrewTurn calls old bytes [] silence (record old { held = with_job old.held node job alias })
  ends_behind : {node : ℕ} {job : AnyJob} {alias : Option (List ℕ)} {replies : List Reply}
      {new : CrewSession C} → ¬ NamesHeld old.held bytes
      → IsReading old.aliases bytes (Means (Node node (Job job)) alias) → GoesOn old node alias
      → length old.held.jobs + 1 ≡ 256
      → EndsBatch calls (record old { held = with_job old.held node job alias }) replies new
      → CrewTurn calls old bytes replies silence new
  ends_before : {heard : Option Reading} {replies : List Reply} {answer : Answer}
      {between new : CrewSession C} → EndsBefore calls old bytes heard replies between
      → AnswersNow calls between heard answer new → CrewTurn calls old bytes replies answer new

-- the line of this number does so, and this is written: the replies, and then its own answer
pub record CrewTurns {C : Type 0} (calls : CrewCalls C) (number : ℕ) (old : CrewSession C)
    (bytes : List ℕ) (output : LineOutput) (new : CrewSession C) : Type 0 where
  pub replies : List Reply
  pub answer : Answer
  pub turn : CrewTurn calls old bytes replies answer new
  pub text_is : output.text ≡ replies_text replies ++ text_of number answer
  pub status_is : output.status ≡ max (worst_reply replies) (status_of answer)
