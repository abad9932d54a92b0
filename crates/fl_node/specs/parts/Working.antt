-- What comes of a job under what a desk sees.
use Rattle.std.specs.Prelude.{ℕ}
use Rattle.std.specs.declared.option.Option.TheVariants.{Some}
use Rattle.std.specs.declared.result.Result.{Result}
use Rattle.std.specs.declared.result.Result.TheVariants.{Ok, Err}
use Rattle.fl_labels.specs.declared.pid.Pid.{Pid}
use Rattle.fl_labels.specs.declared.name.Name.{Name}
use Rattle.fl_ops.specs.declared.op.Body.{Body}
use Rattle.fl_message.specs.declared.message.Data.{Data}
use Rattle.fl_jobs.specs.declared.job.Job.{Job}
use Rattle.fl_jobs.specs.declared.answer.Reply.{Reply}
use Rattle.fl_jobs.specs.declared.answer.Refusal.{Refusal}
use Rattle.fl_jobs.specs.declared.answer.Outcome.TheVariants as outcome
use Rattle.fl_bench.specs.Bench.{BenchState}
use Rattle.fl_system.specs.declared.answer.Answer.{Answer}
use Rattle.fl_system.specs.declared.answer.Answer.TheVariants as answer
use Rattle.fl_system.specs.declared.answer.Fault.{Fault}
use Rattle.fl_system.specs.declared.answer.Fault.TheVariants.{Refused}
use Rattle.fl_system.specs.State.{NodeState}
use Rattle.fl_system.specs.Begins.{Begins}
use Rattle.fl_system.specs.Jobs.{Decides, worked}

-- The job is done at its bench under the first v operations, which the desk has seen.
pub data WorksAt (n : NodeState) (desk v : ℕ) (job : Job) : Result Answer Fault → NodeState → Type 0 where
  refused : {refusal : Refusal} {left : BenchState} → Decides n v job (Err refusal) left
      → WorksAt n desk v job (Err (Refused refusal)) (worked n desk v job left)
  replied : {reply : Reply} {left : BenchState} → Decides n v job (Ok (outcome.Reply reply)) left
      → WorksAt n desk v job (Ok (answer.Reply reply)) (worked n desk v job left)
  sent : {packet : Data} {left : BenchState} → Decides n v job (Ok (outcome.Out packet)) left
      → WorksAt n desk v job (Ok (answer.Out packet)) (worked n desk v job left)
  begun : {body : Body} {pid : Pid} {left : BenchState} {name : Name} {n' : NodeState}
      → Decides n v job (Ok (outcome.Order body pid)) left
      → Begins (worked n desk v job left) body (Some pid) (Some desk) (Ok name) n'
      → WorksAt n desk v job (Ok (answer.Begun name)) n'
  not_begun : {body : Body} {pid : Pid} {left : BenchState} {fault : Fault} {n' : NodeState}
      → Decides n v job (Ok (outcome.Order body pid)) left
      → Begins (worked n desk v job left) body (Some pid) (Some desk) (Err fault) n'
      → WorksAt n desk v job (Err fault) n
