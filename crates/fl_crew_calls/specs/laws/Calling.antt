-- What each call does is what calls of crews may do.
use Rattle.std.specs.Prelude.{[], ℕ, List}
use Rattle.std.specs.declared.result.Result.{Result}
use Rattle.fl_jobs.specs.declared.job.Job.{Job}
use Rattle.fl_makers.specs.Making.{Making}
use Rattle.fl_store.specs.Custody.{Custody}
use Rattle.fl_system.specs.declared.answer.Fault.{Fault}
use Rattle.fl_system.specs.declared.reply.Reply.{Reply}
use Rattle.fl_script.specs.declared.line.Line.{Line}
use Rattle.fl_calls.specs.Answer.{Answer}
use Rattle.fl_crew_calls.specs.Asking.{Opens}
use Rattle.fl_crew_calls.specs.Batches.{ServesBatch}
use Rattle.fl_crew_calls.specs.Calls.{RespondsTo, crews_calls}
use Rattle.fl_crew_calls.specs.Over.{CrewsOver}

module _ {K M : Type 0} (custody : Custody K) (making : Making M K) (old new : CrewsOver K M) where
  pub call_opens : (number : ℕ) (result : Result (Unit {0}) Fault)
      → Opens custody making old number result new
      → (crews_calls custody making).opens old number result new
  unfolding crews_calls
  call_opens number result opens = opens

  pub call_serves : (number : ℕ) (jobs : List Job) (result : Result (List Reply) Fault)
      → ServesBatch custody old number jobs [] result new
      → (crews_calls custody making).serves old number jobs result new
  unfolding crews_calls
  call_serves number jobs result serves = serves

  pub call_responds : (line : Line) (answer : Answer) → RespondsTo custody making old line answer new
      → (crews_calls custody making).responds old line answer new
  unfolding crews_calls
  call_responds line answer responds = responds
