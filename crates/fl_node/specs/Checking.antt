-- What a packet would bring to a node, were it to come now.
use Rattle.std.specs.Prelude.{◌<◌, ℕ, length}
use Rattle.std.specs.declared.result.Result.{Result}
use Rattle.std.specs.declared.result.Result.TheVariants.{Ok, Err}
use Rattle.fl_labels.specs.SetBy as set
use Rattle.fl_labels.specs.SetBy.{SetBy}
use Rattle.fl_ops.specs.declared.op.Op.{Op}
use Rattle.fl_ops.specs.OpOrder.{op_cmp}
use Rattle.fl_opset.specs.declared.intervals.Intervals.{Intervals}
use Rattle.fl_opset.specs.Windows.{lacking}
use Rattle.fl_message.specs.declared.message.Data.{Data}
use Rattle.fl_wire.specs.declared.batch.Batch.{Batch}
use Rattle.fl_wire.specs.declared.packet.Packet.{Packet}
use Rattle.fl_wire.specs.declared.packet.Packet.TheVariants as packets
use Rattle.fl_jobs.specs.declared.answer.Refusal.TheVariants.{Memory}
use Rattle.fl_system.specs.declared.answer.Fault.{Fault}
use Rattle.fl_system.specs.declared.answer.Fault.TheVariants.{Refused, Clash, Impostor}
use Rattle.fl_system.specs.State.{NodeState}
use Rattle.fl_system.specs.Waiting.{IsRunning, NotRunning}
use Rattle.fl_system.specs.Receives.{IsImpostor, IsClash, IsFirstRefused, CanTake, AreLacking, HasNew}

-- why these operations are not taken
pub data AreRefused (n : NodeState) (ops : SetBy op_cmp) : Fault → Type 0 where
  no_room : HasNew n ops → AreRefused n ops (Refused Memory)
  impostor : {op : Op} → IsFirstRefused n ops op → IsImpostor n op → AreRefused n ops (Impostor op.name)
  clash : {op : Op} → IsFirstRefused n ops op → IsClash n op → AreRefused n ops (Clash op.name)

-- all of them may be taken, and so many are new; or they are refused
pub data Counts (n : NodeState) (ops : SetBy op_cmp) : Result ℕ Fault → Type 0 where
  new : (new : SetBy op_cmp) → CanTake n ops → AreLacking n ops new → Counts n ops (Ok (set.len new))
  refused : {fault : Fault} → AreRefused n ops fault → Counts n ops (Err fault)

-- Of operations those that are new are counted, and of a window those that it lacks. A message counts as none.
pub data Checks (n : NodeState) : Packet → Result ℕ Fault → Type 0 where
  stopped : {packet : Packet} {fault : Fault} → NotRunning n.state fault → Checks n packet (Err fault)
  full : {batch : Batch} {result : Result ℕ Fault} → IsRunning n.state
      → Counts n (set.of_list batch.ops) result → Checks n (packets.Full batch) result
  delta : {batch : Batch} {result : Result ℕ Fault} → IsRunning n.state
      → Counts n (set.of_list batch.ops) result → Checks n (packets.Delta batch) result
  window : {window : Intervals} → IsRunning n.state
      → Checks n (packets.Have window) (Ok (length (lacking n.saved window)))
  no_room : {window : Intervals} → IsRunning n.state → 0 < length (lacking n.saved window)
      → Checks n (packets.Have window) (Err (Refused Memory))
  message : {d : Data} → IsRunning n.state → Checks n (packets.Data d) (Ok 0)
