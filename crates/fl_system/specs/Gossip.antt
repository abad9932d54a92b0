-- What a node tells of what it has saved.
use Rattle.std.specs.Prelude.{◌≡◌, ℕ, List, map as list_map}
use Rattle.std.specs.declared.option.Option.TheVariants.{None}
use Rattle.fl_labels.specs.SetBy.{SetBy, In}
use Rattle.fl_ops.specs.OpOrder.{op_cmp}
use Rattle.fl_opset.specs.Windows.{AreWindows, lacking}
use Rattle.fl_opset.specs.declared.intervals.Intervals.{Intervals}
use Rattle.fl_wire.specs.declared.packet.Packet.{Packet}
use Rattle.fl_wire.specs.declared.packet.Packet.TheVariants as packets
use Rattle.fl_gossip.specs.Replying.{AreInDeltas}
use Rattle.fl_system.specs.declared.sent.Sent.{Sent}

-- a packet for each window of the saved operations
abbrev pub IsSummary : SetBy op_cmp → List Packet → Type 0
IsSummary saved told = (windows : List Intervals) × AreWindows (In saved) windows
    × (told ≡ list_map packets.Have windows)

-- deltas of just what the window lacks of the saved operations
abbrev pub IsAnswer : SetBy op_cmp → Intervals → List Packet → Type 0
IsAnswer saved window told = AreInDeltas (lacking saved window) told

-- these packets, as the node of this number sends them
abbrev pub told_by : ℕ → List Packet → List Sent
told_by number told = list_map (λ packet. record { from = number; packet = packet; sender = None }) told
