-- Orders that are guarded: each is done only where an emission by its process is admitted.
use Rattle.std.specs.Prelude.{ℕ, []}
use Rattle.std.specs.declared.result.Result.TheVariants.{Ok}
use Rattle.fl_labels.specs.declared.pid.Pid.{Pid}
use Rattle.fl_jobs.specs.declared.answer.Reply.TheVariants.{Emitted}
use Rattle.fl_jobs.specs.declared.job.Act.TheVariants.{Order, Emit}
use Rattle.fl_jobs.specs.declared.job.Job.{Job}
use Rattle.fl_jobs.specs.declared.job.Job.TheVariants.{By}
use Rattle.fl_system.specs.declared.answer.Answer.TheVariants as answer
use Rattle.fl_system.specs.Jobs.{Jobs}
use Rattle.fl_system.specs.State.{NodeState}

-- at the node an emission without a byte by this process is admitted
pub record MayEmit (n : NodeState) (pid : Pid) : Type 0 where
  pub desk : ℕ
  pub upto : ℕ
  pub after : NodeState
  pub emits : Jobs n desk upto (By pid (Emit [])) (Ok (answer.Reply (Emitted []))) after

-- where the job is an order
abbrev pub IsGuardedJob : NodeState → Job → Type 0
IsGuardedJob n (By pid (Order order)) = MayEmit n pid
IsGuardedJob n job = Unit {0}
