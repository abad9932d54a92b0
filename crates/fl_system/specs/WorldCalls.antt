-- What is pending at a node of a world, and its restarts.
use Rattle.std.specs.Prelude.{◌≡◌, ℕ, Bool, []}
use Rattle.std.specs.declared.option.Option.{Option}
use Rattle.std.specs.declared.result.Result.TheVariants.{Ok, Err}
use Rattle.fl_labels.specs.SetBy as set
use Rattle.fl_labels.specs.SetBy.{SetBy}
use Rattle.fl_labels.specs.declared.pid.Pid.{Pid}
use Rattle.fl_ops.specs.OpOrder.{op_cmp}
use Rattle.fl_ops.specs.declared.op.Op.{Op}
use Rattle.fl_store.specs.Kept.{Kept}
use Rattle.fl_system.specs.declared.answer.Fault.{Fault}
use Rattle.fl_system.specs.declared.reply.Reply.{Reply}
use Rattle.fl_system.specs.declared.reply.Reply.TheVariants.{Done, Published, Took, Booted, Refused}
use Rattle.fl_system.specs.declared.state.Batch.TheVariants.{Ordered, Received}
use Rattle.fl_system.specs.declared.state.Pending.TheVariants.{Due}
use Rattle.fl_system.specs.declared.state.State.TheVariants.{Running}
use Rattle.fl_system.specs.State.{NodeState}
use Rattle.fl_system.specs.Saves.{Saves}
use Rattle.fl_system.specs.Publishes.{Publishes, Cancels}
use Rattle.fl_system.specs.Openings.{Restarts}
use Rattle.fl_system.specs.World.{World, KeptNode, went}

-- What is to be saved at the node s, of this number, is saved.
pub data SaveAt (w : World) (number : ℕ) (s : KeptNode) : Reply → World → Type 0 where
  saved : {n : NodeState} {k : Kept} → Saves s.node s.kept (Ok tt) n k
      → SaveAt w number s Done (went w number n k [] [])
  refused : {fault : Fault} {n : NodeState} {k : Kept} → Saves s.node s.kept (Err fault) n k
      → SaveAt w number s (Refused fault) (went w number n k [] [])

-- What is due is published.
pub data PublishAt (w : World) (number : ℕ) (s : KeptNode) : Reply → World → Type 0 where
  ordered : {op : Op} {maker : Option Pid} {desk : Option ℕ} {count : ℕ} {n : NodeState}
      → s.node.state ≡ Running (Due (Ordered op maker desk)) → Publishes s.node (Ok count) n
      → PublishAt w number s (Published op.name) (went w number n s.kept [] [])
  received : {ops : SetBy op_cmp} {count : ℕ} {n : NodeState}
      → s.node.state ≡ Running (Due (Received ops)) → Publishes s.node (Ok count) n
      → PublishAt w number s (Took (set.len ops)) (went w number n s.kept [] [])
  refused : {fault : Fault} {n : NodeState} → Publishes s.node (Err fault) n
      → PublishAt w number s (Refused fault) (went w number n s.kept [] [])

-- What is to be saved is given up.
pub data CancelAt (w : World) (number : ℕ) (s : KeptNode) : Reply → World → Type 0 where
  given_up : {n : NodeState} → Cancels s.node (Ok tt) n
      → CancelAt w number s Done (went w number n s.kept [] [])
  refused : {fault : Fault} {n : NodeState} → Cancels s.node (Err fault) n
      → CancelAt w number s (Refused fault) (went w number n s.kept [] [])

-- The node is restarted.
pub data RestartAt (w : World) (number : ℕ) (s : KeptNode) (keeps : Bool)
    : Reply → World → Type 0 where
  booted : {boot : ℕ} {n : NodeState} {k : Kept} → Restarts s.node s.kept keeps (Ok boot) n k
      → RestartAt w number s keeps (Booted boot) (went w number n k [] [])
  refused : {fault : Fault} {n : NodeState} {k : Kept}
      → Restarts s.node s.kept keeps (Err fault) n k
      → RestartAt w number s keeps (Refused fault) (went w number n k [] [])
