-- What a move has a node do.
use Rattle.std.specs.Prelude.{◌≡◌, ℕ, Bool}
use Rattle.std.specs.declared.option.Option.{Option}
use Rattle.std.specs.declared.option.Option.TheVariants.{Some}
use Rattle.fl_labels.specs.declared.name.Name.{Name}
use Rattle.fl_labels.specs.declared.pid.Pid.{Pid}
use Rattle.fl_ops.specs.Registry.{Registry}
use Rattle.fl_ops.specs.declared.op.Op.{Op}
use Rattle.fl_message.specs.declared.message.Data.{Data}
use Rattle.fl_wire.specs.declared.packet.Packet.TheVariants as packets
use Rattle.fl_jobs.specs.declared.job.Job.{Job}
use Rattle.fl_jobs.specs.declared.answer.Outcome.{Outcome}
use Rattle.fl_jobs.specs.declared.answer.Outcome.TheVariants as outcomes
use Rattle.fl_bench.specs.Bench.{BenchState}
use Rattle.fl_store.specs.Kept.{Kept}
use Rattle.fl_system.specs.declared.event.Event.TheVariants as events
use Rattle.fl_system.specs.declared.reply.Reply.{Reply}
use Rattle.fl_system.specs.declared.reply.Reply.TheVariants as replies
use Rattle.fl_system.specs.declared.sent.Sent.{Sent}
use Rattle.fl_system.specs.declared.state.Batch.TheVariants.{Ordered}
use Rattle.fl_system.specs.declared.state.Pending.TheVariants.{Unsaved, Due}
use Rattle.fl_system.specs.declared.state.State.TheVariants.{Running}
use Rattle.fl_system.specs.Numbered.{item_at}
use Rattle.fl_system.specs.State.{first_ops}
use Rattle.fl_system.specs.Jobs.{Looks, place_of}
use Rattle.fl_system.specs.Runs.{Move, Happens, Returns}
use Rattle.fl_system.specs.World.{World, KeptNode}
use Rattle.fl_system.specs.WorldJobs.{next_packet}
use Rattle.fl_system.specs.WorldSteps.{IsAt}

-- the move is this job at a desk of the node of this number, which sees v operations then, and the job is done at this bench
pub record IsDone (w : World) (move : Move) (number : ℕ) (job : Job) : Type 0 where
  pub desk : ℕ
  pub upto : ℕ
  pub move_is : move ≡ Happens (events.Job number desk upto job)
  pub s : KeptNode
  pub at : IsAt w number s
  pub v : ℕ
  pub looks : Looks s.node desk upto v
  pub bench : BenchState
  pub stands : item_at s.node.benches (place_of s.node job) ≡ Some bench

-- the operations under which it is done
abbrev pub seen : {w : World} {move : Move} {number : ℕ} {job : Job} → IsDone w move number job → Registry
seen done = first_ops done.v done.s.node.published

-- what an admitted job comes to is answered so
abbrev pub IsAnswered : World → Outcome → Reply → Type 0
IsAnswered w (outcomes.Reply reply) answer = answer ≡ replies.Job reply
IsAnswered w (outcomes.Order body maker) answer = (name : Name) × (answer ≡ replies.Begun name)
IsAnswered w (outcomes.Out d) answer = answer ≡ replies.Sent (next_packet w) 1

-- the move brings the node of this number the message of a packet that was sent
pub record Brings (w : World) (move : Move) (number : ℕ) (d : Data) : Type 0 where
  pub packet : ℕ
  pub move_is : move ≡ Happens (events.Deliver packet number)
  pub sent : Sent
  pub was_sent : item_at w.packets packet ≡ Some sent
  pub of : sent.packet ≡ packets.Data d

-- at the move the operation, which its maker ordered, is published by the maker's node
pub record IsPublished (w : World) (move : Move) (reply : Reply) (maker : Pid) (op : Op) : Type 0 where
  pub s : KeptNode
  pub at : IsAt w maker.node s
  pub desk : Option ℕ
  pub due : s.node.state ≡ Running (Due (Ordered op (Some maker) desk))
  pub move_is : move ≡ Happens (events.Publish maker.node)
  pub answered : reply ≡ replies.Published op.name

-- at the move it is given up
pub record IsGivenUp (w : World) (move : Move) (reply : Reply) (maker : Pid) (op : Op) : Type 0 where
  pub s : KeptNode
  pub at : IsAt w maker.node s
  pub desk : Option ℕ
  pub unsaved : s.node.state ≡ Running (Unsaved (Ordered op (Some maker) desk))
  pub move_is : move ≡ Happens (events.Cancel maker.node)
  pub answered : reply ≡ replies.Done

-- at the move the node of this number is opened: it is restarted, or opened over another keeper
pub data IsOpened (number : ℕ) (move : Move) (reply : Reply) : Type 0 where
  restarted : {keeps : Bool} {boot : ℕ} → move ≡ Happens (events.Restart number keeps)
      → reply ≡ replies.Booted boot → IsOpened number move reply
  reopened : {k : Kept} {boot : ℕ} → move ≡ Returns number k → reply ≡ replies.Booted boot
      → IsOpened number move reply
