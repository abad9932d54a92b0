-- How much is noted of a job, without what.
use Rattle.std.specs.Prelude.{◌≡◌, ℕ, Bool, true, false, length}
use Rattle.std.specs.declared.result.Result.TheVariants.{Ok}
use Rattle.fl_jobs.specs.declared.answer.Reply.TheVariants.{NotYet}
use Rattle.fl_jobs.specs.declared.job.Job.{Job}
use Rattle.fl_system.specs.declared.answer.Answer.{Answer}
use Rattle.fl_system.specs.declared.answer.Answer.TheVariants.{Reply}
use Rattle.fl_system.specs.Audit.{entries}
use Rattle.fl_system.specs.Jobs.{Jobs}
use Rattle.fl_system.specs.State.{NodeState}

-- with this answer, of a job that is noted, or not
abbrev pub counted : Bool → Answer → ℕ
counted false answer = 0
counted true (Reply NotYet) = 0
counted true answer = 1

-- wherever the job is admitted, so much is noted of it
pub record IsNotedSo (job : Job) (is_noted : Bool) : Type 0 where
  pub each : (n n' : NodeState) (desk upto : ℕ) (answer : Answer)
      → Jobs n desk upto job (Ok answer) n'
      → length (entries n job answer) ≡ counted is_noted answer
