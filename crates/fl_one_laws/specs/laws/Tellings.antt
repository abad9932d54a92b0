-- What a node tells of what it has saved is one list of packets.
use Rattle.std.proofs.Common.{◌≡◌, ◌∙◌, List, map as list_map, sym, ap}
use Rattle.fl_labels.specs.SetBy.{SetBy, In}
use Rattle.fl_ops.specs.OpOrder.{op_cmp}
use Rattle.fl_opset.specs.declared.intervals.Intervals.{Intervals}
use Rattle.fl_wire.specs.declared.packet.Packet.{Packet}
use Rattle.fl_wire.specs.declared.packet.Packet.TheVariants as kinds
use Rattle.fl_gossip.specs.laws.OneCutting.{one_cutting}
use Rattle.fl_system.specs.Gossip.{IsSummary, IsAnswer}
use Rattle.fl_opset.specs.laws.OneCut.{one_windows}

pub one_answer : (saved : SetBy op_cmp) (window : Intervals) (a b : List Packet) → IsAnswer saved window a
    → IsAnswer saved window b → a ≡ b
one_answer saved window a b h k = one_cutting a b h.deltas k.deltas (h.whole ∙ sym k.whole)

pub one_summary : (saved : SetBy op_cmp) (a b : List Packet) → IsSummary saved a → IsSummary saved b → a ≡ b
one_summary saved a b (ws, are, is) (vs, be, so) =
    is ∙ ap (list_map kinds.Have) (one_windows (In saved) ws vs are be) ∙ sym so
