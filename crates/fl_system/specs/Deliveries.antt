-- What a node tells, and what it does with a packet that comes to it.
use Rattle.std.specs.Prelude.{◌≡◌, ◌⊎◌, ◌<◌, ◌++◌, ℕ, List, [], length}
use Rattle.std.specs.declared.result.Result.TheVariants.{Ok, Err}
use Rattle.fl_labels.specs.SetBy as set
use Rattle.fl_ops.specs.declared.op.Op.{Op}
use Rattle.fl_opset.specs.declared.intervals.Intervals.{Intervals}
use Rattle.fl_opset.specs.Windows.{lacking}
use Rattle.fl_wire.specs.declared.batch.Batch.{Batch}
use Rattle.fl_message.specs.declared.message.Data.{Data}
use Rattle.fl_wire.specs.declared.packet.Packet.{Packet}
use Rattle.fl_wire.specs.declared.packet.Packet.TheVariants as packets
use Rattle.fl_jobs.specs.declared.answer.Reply as jobs
use Rattle.fl_jobs.specs.declared.answer.Refusal.TheVariants.{Memory}
use Rattle.fl_system.specs.declared.answer.Fault.{Fault}
use Rattle.fl_system.specs.declared.answer.Fault.TheVariants as faults
use Rattle.fl_system.specs.declared.reply.Reply.{Reply}
use Rattle.fl_system.specs.declared.reply.Reply.TheVariants.{Taking, Took, Refused}
use Rattle.fl_system.specs.declared.reply.Reply.TheVariants.{Job as Answered, Sent as HasSent}
use Rattle.fl_system.specs.declared.sent.Sent.{Sent}
use Rattle.fl_system.specs.State.{NodeState}
use Rattle.fl_system.specs.Waiting.{IsRunning, NotRunning}
use Rattle.fl_system.specs.Processes.{process_of}
use Rattle.fl_system.specs.Receives.{Receives}
use Rattle.fl_system.specs.Arrives.{Arrives}
use Rattle.fl_system.specs.Gossip.{IsSummary, IsAnswer, told_by}
use Rattle.fl_system.specs.Audit.{message_entries}
use Rattle.fl_system.specs.World.{World, KeptNode, went}
use Rattle.fl_system.specs.WorldJobs.{next_packet}

-- these packets were sent by the node of this number, which is as before
abbrev pub has_told : World → ℕ → List Packet → World
has_told w number told = record w { packets = w.packets ++ told_by number told }

-- The node s, of this number, sends the summary of what it has saved.
pub data TellAt (w : World) (number : ℕ) (s : KeptNode) : Reply → World → Type 0 where
  stopped : {fault : Fault} → NotRunning s.node.state fault → TellAt w number s (Refused fault) w
  no_room : IsRunning s.node.state → TellAt w number s (Refused (faults.Refused Memory)) w
  tells : {told : List Packet} → IsRunning s.node.state → IsSummary s.node.saved told
      → TellAt w number s (HasSent (next_packet w) (length told)) (has_told w number told)

-- A window comes to it, which it answers.
pub data WindowAt (w : World) (number : ℕ) (s : KeptNode) (window : Intervals)
    : Reply → World → Type 0 where
  stopped : {fault : Fault} → NotRunning s.node.state fault
      → WindowAt w number s window (Refused fault) w
  -- there is no room for what it lacks
  no_room : IsRunning s.node.state → 0 < length (lacking s.node.saved window)
      → WindowAt w number s window (Refused (faults.Refused Memory)) w
  answers : {told : List Packet} → IsRunning s.node.state → IsAnswer s.node.saved window told
      → WindowAt w number s window (HasSent (next_packet w) (length told)) (has_told w number told)

-- Operations come to it: those that are new are to be saved.
pub data BatchAt (w : World) (number : ℕ) (s : KeptNode) (ops : List Op) : Reply → World → Type 0 where
  nothing_new : {n : NodeState} → Receives s.node (set.of_list ops) (Ok 0) n
      → BatchAt w number s ops (Took 0) (went w number n s.kept [] [])
  takes : {count : ℕ} {n : NodeState} → Receives s.node (set.of_list ops) (Ok count) n → 0 < count
      → BatchAt w number s ops (Taking count) (went w number n s.kept [] [])
  refused : {fault : Fault} {n : NodeState} → Receives s.node (set.of_list ops) (Err fault) n
      → BatchAt w number s ops (Refused fault) (went w number n s.kept [] [])

-- A message that was sent comes to it, and is noted where it arrives.
pub data MessageAt (w : World) (number : ℕ) (s : KeptNode) (sent : Sent) (d : Data)
    : Reply → World → Type 0 where
  arrives : {reply : jobs.Reply} {n : NodeState} → Arrives s.node d (Ok reply) n
      → MessageAt w number s sent d (Answered reply) (went w number n s.kept []
      (message_entries sent.sender d.receiver (process_of s.node d.receiver)))
  refused : {fault : Fault} {n : NodeState} → Arrives s.node d (Err fault) n
      → MessageAt w number s sent d (Refused fault) (went w number n s.kept [] [])
  -- there is no room for what comes, or for what would be noted
  no_room : IsRunning s.node.state → MessageAt w number s sent d (Refused (faults.Refused Memory)) w

-- A packet comes to it.
pub data DeliverAt (w : World) (number : ℕ) (s : KeptNode) (sent : Sent)
    (reply : Reply) (w' : World) : Type 0 where
  have : {window : Intervals} → sent.packet ≡ packets.Have window
      → WindowAt w number s window reply w' → DeliverAt w number s sent reply w'
  ops : {batch : Batch} → (sent.packet ≡ packets.Full batch) ⊎ (sent.packet ≡ packets.Delta batch)
      → BatchAt w number s batch.ops reply w' → DeliverAt w number s sent reply w'
  message : {d : Data} → sent.packet ≡ packets.Data d
      → MessageAt w number s sent d reply w' → DeliverAt w number s sent reply w'
