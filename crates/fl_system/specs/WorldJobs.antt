-- A job in a world.
use Rattle.std.specs.Prelude.{◌≡◌, ◌⊎◌, ℕ, suc, [], ◌∷◌, length}
use Rattle.std.specs.List.{Contains}
use Rattle.std.specs.declared.option.Option.{Option}
use Rattle.std.specs.declared.option.Option.TheVariants.{None, Some}
use Rattle.std.specs.declared.result.Result.TheVariants.{Ok, Err}
use Rattle.fl_labels.specs.declared.name.Name.{Name}
use Rattle.fl_labels.specs.declared.pid.Pid.{Pid}
use Rattle.fl_message.specs.declared.message.Data.{Data}
use Rattle.fl_wire.specs.declared.packet.Packet.TheVariants as packets
use Rattle.fl_jobs.specs.declared.job.Job.{Job}
use Rattle.fl_jobs.specs.declared.answer.Reply as jobs
use Rattle.fl_jobs.specs.declared.answer.Refusal.TheVariants.{Memory}
use Rattle.fl_bench.specs.declared.process.Process.{Process}
use Rattle.fl_system.specs.declared.admission.Party.{Party}
use Rattle.fl_system.specs.declared.admission.Admission.{Admission}
use Rattle.fl_system.specs.declared.answer.Answer.{Answer}
use Rattle.fl_system.specs.declared.answer.Answer.TheVariants as answers
use Rattle.fl_system.specs.declared.answer.Fault.{Fault}
use Rattle.fl_system.specs.declared.answer.Fault.TheVariants as faults
use Rattle.fl_system.specs.declared.reply.Reply.{Reply}
use Rattle.fl_system.specs.declared.reply.Reply.TheVariants.{Job as Answered, Begun, Sent as HasSent, Refused}
use Rattle.fl_system.specs.declared.sent.Sent.{Sent}
use Rattle.fl_system.specs.State.{NodeState}
use Rattle.fl_system.specs.Processes.{process_of}
use Rattle.fl_system.specs.Jobs.{Jobs, Looks, looking}
use Rattle.fl_system.specs.Audit.{party, entries}
use Rattle.fl_system.specs.World.{World, KeptNode, went}

-- the number of the next packet
abbrev pub next_packet : World → ℕ
next_packet w = suc (length w.packets)

-- the process as a party, where there is one
abbrev pub party_at : Pid → Option Process → Option Party
party_at pid None = None
party_at pid (Some p) = Some (party pid p)

-- a message, as the node of this number sends it
abbrev pub sent_message : ℕ → NodeState → Data → Sent
sent_message number n d =
    record { from = number; packet = packets.Data d; sender = party_at d.sender (process_of n d.sender) }

-- the job has an answer with which it would be noted
pub record MayBeNoted (n : NodeState) (job : Job) : Type 0 where
  pub answer : Answer
  pub entry : Admission
  pub noted : Contains (entries n job answer) entry

-- The job at a desk of the node s, of this number, which is admitted or not.
pub data JobAt (w : World) (number : ℕ) (s : KeptNode) (desk upto : ℕ) (job : Job)
    : Reply → World → Type 0 where
  refused : {fault : Fault} {n : NodeState} → Jobs s.node desk upto job (Err fault) n
      → JobAt w number s desk upto job (Refused fault) (went w number n s.kept [] [])
  replied : {reply : jobs.Reply} {n : NodeState}
      → Jobs s.node desk upto job (Ok (answers.Reply reply)) n
      → JobAt w number s desk upto job (Answered reply)
      (went w number n s.kept [] (entries s.node job (answers.Reply reply)))
  -- an order is noted as its operation is begun, whatever becomes of that
  begun : {name : Name} {n : NodeState} → Jobs s.node desk upto job (Ok (answers.Begun name)) n
      → JobAt w number s desk upto job (Begun name)
      (went w number n s.kept [] (entries s.node job (answers.Begun name)))
  sends : {d : Data} {n : NodeState}
      → Jobs s.node desk upto job (Ok (answers.Out d)) n
      → JobAt w number s desk upto job (HasSent (next_packet w) 1)
      (went w number n s.kept (sent_message number s.node d ∷ [])
      (entries s.node job (answers.Out d)))
  -- there is no room for what would be noted, or sent: the desk has looked, or has not
  no_room : {v seen : ℕ} (look : Looks s.node desk upto v) → (seen ≡ look.seen) ⊎ (seen ≡ v)
      → MayBeNoted s.node job
      → JobAt w number s desk upto job (Refused (faults.Refused Memory))
      (went w number (looking s.node desk seen) s.kept [] [])
