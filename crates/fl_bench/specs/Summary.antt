-- What comes of a job, whatever it was: the laws of benches go by these cases.
use Rattle.std.specs.Prelude.{◌≡◌, true, false}
use Rattle.std.specs.declared.option.Option.TheVariants.{None, Some}
use Rattle.std.specs.declared.result.Result.{Result}
use Rattle.std.specs.declared.result.Result.TheVariants.{Ok, Err}
use Rattle.std.specs.FinMap as map
use Rattle.fl_labels.specs.SetBy.{In}
use Rattle.fl_labels.specs.Found.{Within}
use Rattle.fl_labels.specs.declared.pid.Pid.{Pid}
use Rattle.fl_ops.specs.declared.op.Body.{Body}
use Rattle.fl_jobs.specs.declared.job.Order as order
use Rattle.fl_jobs.specs.declared.job.Act.TheVariants.{Order, Exit, Mail}
use Rattle.fl_jobs.specs.declared.job.Job.{Job}
use Rattle.fl_jobs.specs.declared.job.Job.TheVariants.{By}
use Rattle.fl_jobs.specs.declared.job.Mail.TheVariants.{Send}
use Rattle.fl_jobs.specs.declared.answer.Refusal.{Refusal}
use Rattle.fl_jobs.specs.declared.answer.Reply.{Reply}
use Rattle.fl_jobs.specs.declared.answer.Outcome.{Outcome}
use Rattle.fl_rules.specs.Endpoint.{writes}
use Rattle.fl_message.specs.declared.message.Data.{Data}
use Rattle.fl_mailbox.specs.declared.endpoints.OpenEndpoint.{OpenEndpoint}
use Rattle.fl_bench.specs.Process.{is_busy, ordering, effective, body_of}
use Rattle.fl_bench.specs.Bench.{BenchState, has_at, gone, born}
use Rattle.fl_bench.specs.Jobs.{order_checks}
use Rattle.fl_bench.specs.Following.{Follows}
use Rattle.fl_bench.specs.Births.{IsBirth}
use Rattle.fl_bench.specs.declared.process.Process.{Process}
use Rattle.fl_ops.specs.Registry.{Registry}

-- the bench has its processes still, of which one may have changed
pub data Keeps (V : Registry) (b after : BenchState) : Type 0 where
  stays : after ≡ b → Keeps V b after
  turns : (pid : Pid) (old new : Process) → map.get b.processes pid ≡ Some old → Follows V (Some old) (Some new)
      → after ≡ has_at b pid new → Keeps V b after

-- or has them still and a new one, or the one that asked to go is gone
pub data Changes (V : Registry) (b : BenchState) (job : Job) (after : BenchState) : Type 0 where
  keeps : Keeps V b after → Changes V b job after
  bears : (pid : Pid) (child : Process) → IsBirth V b job pid child → after ≡ born b pid child
      → Changes V b job after
  loses : (pid : Pid) → job ≡ By pid Exit → after ≡ gone b pid → Changes V b job after

-- the job is the order of an idle process that stands as pid, and may ask for it
pub record IsOrder (V : Registry) (b : BenchState) (job : Job) (body : Body) (pid : Pid)
    (after : BenchState) : Type 0 where
  pub process : Process
  pub lived : map.get b.processes pid ≡ Some process
  pub idle : is_busy process ≡ false
  pub order : order.Order
  pub asked : job ≡ By pid (Order order)
  pub allowed : order_checks (effective V process) order None
  pub body_is : body ≡ body_of order
  pub leaves : after ≡ has_at b pid (ordering process)

-- the job sends the message from an open endpoint that is for writing, with what its process has in effect
pub record IsSending (V : Registry) (b : BenchState) (job : Job) (sent : Data) : Type 0 where
  pub process : Process
  pub lived : map.get b.processes sent.sender ≡ Some process
  pub opened : OpenEndpoint
  pub is_open : map.get process.mailbox.endpoints sent.from ≡ Some opened
  pub writable : writes opened.mode ≡ true
  pub secrecy_is : sent.secrecy ≡ opened.labels.secrecy
  pub integrity_is : sent.integrity ≡ opened.labels.integrity
  pub asked : job ≡ By sent.sender (Mail (Send sent.from sent.receiver sent.to sent.message))
  pub granted : Within (In sent.message.caps) (effective V process)

-- the job is refused and leaves all, replies, orders an operation, or sends a message, which leaves the bench
pub data Summary (V : Registry) (b : BenchState) (job : Job) : Result Outcome Refusal → BenchState → Type 0 where
  refuses : {f : Refusal} → Summary V b job (Err f) b
  replies : {reply : Reply} {after : BenchState} → Changes V b job after
      → Summary V b job (Ok (Outcome.Reply reply)) after
  orders : {body : Body} {pid : Pid} {after : BenchState} → IsOrder V b job body pid after
      → Summary V b job (Ok (Outcome.Order body pid)) after
  sends : {sent : Data} {after : BenchState} → IsSending V b job sent → after ≡ b
      → Summary V b job (Ok (Outcome.Out sent)) after
