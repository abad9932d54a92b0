-- Operations that a machine answers as published.
use Rattle.std.specs.Prelude.{◌≡◌, ℕ}
use Rattle.std.specs.declared.option.Option.{Option}
use Rattle.fl_labels.specs.SetBy.{SetBy, In}
use Rattle.fl_labels.specs.declared.name.Name.{Name}
use Rattle.fl_labels.specs.declared.pid.Pid.{Pid}
use Rattle.fl_ops.specs.OpOrder.{op_cmp}
use Rattle.fl_ops.specs.declared.op.Op.{Op}
use Rattle.fl_system.specs.declared.reply.Reply.TheVariants.{Published, Took}
use Rattle.fl_system.specs.declared.state.Batch.TheVariants.{Ordered, Received}
use Rattle.fl_system.specs.declared.state.Pending.TheVariants.{Due}
use Rattle.fl_system.specs.declared.state.State.TheVariants.{Running}
use Rattle.fl_system.specs.World.{KeptNode}
use Rattle.fl_machine_model.specs.Acts.{Publish, Replies}
use Rattle.fl_machine_model.specs.Machines.{Machines, Deed, Acts}
use Rattle.fl_machine_laws.specs.Places.{IsUp}

-- By the deed the machine of this number answers that the operation is published: the one of an
-- order, by its name; or each of those that it took of other machines, by how many they are.
pub data TellsOn (m : Machines) (number : ℕ) (op : Op) : Deed → Type 0 where
  published : {s : KeptNode} {maker : Option Pid} {desk : Option ℕ} {name : Name}
      → IsUp m number s → s.node.state ≡ Running (Due (Ordered op maker desk)) → op.name ≡ name
      → TellsOn m number op (Acts number Publish (Replies (Published name)))
  took : {s : KeptNode} {ops : SetBy op_cmp} {count : ℕ} → IsUp m number s
      → s.node.state ≡ Running (Due (Received ops)) → In ops op
      → TellsOn m number op (Acts number Publish (Replies (Took count)))
