-- What a job does at a node, and what it sends and has noted.
use Rattle.std.specs.Prelude.{◌≡◌, ◌++◌, ℕ, suc, List, [], ◌∷◌, length, Bool, true, false}
use Rattle.std.specs.declared.option.Option.{Option}
use Rattle.fl_wire.specs.declared.packet.Packet.TheVariants as packet
use Rattle.fl_jobs.specs.declared.job.Act.TheVariants.{Mail}
use Rattle.fl_jobs.specs.declared.job.Job.{Job}
use Rattle.fl_jobs.specs.declared.job.Job.TheVariants.{By}
use Rattle.fl_jobs.specs.declared.job.Mail.TheVariants.{Tune, Send}
use Rattle.fl_jobs.specs.declared.answer.Refusal.TheVariants.{Memory}
use Rattle.fl_system.specs.declared.admission.Admission.{Admission}
use Rattle.fl_system.specs.declared.admission.Party.{Party}
use Rattle.fl_system.specs.declared.answer.Answer.{Answer}
use Rattle.fl_system.specs.declared.answer.Answer.TheVariants as answers
use Rattle.fl_system.specs.declared.answer.Fault.{Fault}
use Rattle.fl_system.specs.declared.answer.Fault.TheVariants as faults
use Rattle.fl_system.specs.declared.reply.Reply.{Reply}
use Rattle.fl_system.specs.declared.reply.Reply.TheVariants.{Job as Answered, Begun, Sent as HasSent, Refused}
use Rattle.fl_system.specs.declared.sent.Sent.{Sent}
use Rattle.fl_system.specs.State.{NodeState}
use Rattle.fl_system.specs.Waiting.{IsRunning, NotRunning}
use Rattle.fl_system.specs.WorldJobs.{MayBeNoted}
use Rattle.fl_machine_model.specs.Alone.{JobAlone}

-- by the job a message may be sent
abbrev pub is_sending : Job → Bool
is_sending (By pid (Mail (Send from receiver to message))) = true
is_sending other = false

-- whether it tunes an endpoint
abbrev pub is_tuning : Job → Bool
is_tuning (By pid (Mail (Tune endpoint given))) = true
is_tuning other = false

-- why a job is not done: the node is stopped, or there is no room for what would be noted of it
pub data IsUnready (n : NodeState) (job : Job) : Fault → Type 0 where
  stopped : {fault : Fault} → NotRunning n.state fault → IsUnready n job fault
  no_room : IsRunning n.state → MayBeNoted n job → IsUnready n job (faults.Refused Memory)

-- an answer as it is shown, and the packets after it
abbrev pub Shows : ℕ → Option Party → List Sent → Answer → Reply → List Sent → Type 0
Shows number sender packets (answers.Reply reply) shown after =
    (shown ≡ Answered reply) × (after ≡ packets)
Shows number sender packets (answers.Begun name) shown after =
    (shown ≡ Begun name) × (after ≡ packets)
Shows number sender packets (answers.Out d) shown after =
    (shown ≡ HasSent (suc (length packets)) 1)
    × (after ≡ packets ++ record { from = number; packet = packet.Data d; sender = sender } ∷ [])

-- what a job does at a node alone, with the packets and what was noted before and after
pub record Worked (number : ℕ) (n : NodeState) (desk upto : ℕ) (job : Job) (result : Reply) (after : NodeState)
    (packets packets_after : List Sent) (audit audit_after : List Admission) : Type 0 where
  pub sent : List Sent
  pub admitted : List Admission
  pub sent_is : packets_after ≡ packets ++ sent
  pub admitted_is : audit_after ≡ audit ++ admitted
  pub works : JobAlone number n desk upto job (length packets) result after sent admitted
