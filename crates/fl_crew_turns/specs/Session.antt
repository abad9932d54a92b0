-- What is kept between two lines of a script over crews, and what the crews may do.
use Rattle.std.specs.Prelude.{[], ℕ, List}
use Rattle.std.specs.declared.result.Result.{Result}
use Rattle.fl_aliases.specs.Table.{Table}
use Rattle.fl_jobs.specs.declared.job.Job.{Job}
use Rattle.fl_system.specs.declared.answer.Fault.{Fault}
use Rattle.fl_system.specs.declared.reply.Reply.{Reply}
use Rattle.fl_script.specs.declared.line.Line.{Line}
use Rattle.fl_calls.specs.Answer.{Answer as Said}
use Rattle.fl_crew_turns.specs.Held.{HeldJobs, none_held}

-- What the calls of crews may do: the node of a number is opened where it is not open, or not; jobs
-- are done as one batch of a node, each with its reply, or none is begun; and a line that is no job
-- is answered.
pub record CrewCalls (C : Type 0) : Type 1 where
  pub opens : C → ℕ → Result (Unit {0}) Fault → C → Type 0
  pub serves : C → ℕ → List Job → Result (List Reply) Fault → C → Type 0
  pub responds : C → Line → Said → C → Type 0

-- the crews, the aliases that are set, and the lines whose batch has not ended
pub record CrewSession (C : Type 0) : Type 0 where
  pub crews : C
  pub aliases : Table
  pub held : HeldJobs

-- before the first line
abbrev pub begun_session : {C : Type 0} → C → CrewSession C
begun_session crews = record { crews = crews; aliases = []; held = none_held }
