-- What a node answers to a window.
use Rattle.std.specs.Prelude.{◌≡◌, List, [], ◌∷◌, length}
use Rattle.std.specs.List.{flat_map}
use Rattle.fl_ops.specs.declared.op.Op.{Op}
use Rattle.fl_wire.specs.declared.packet.Packet.{Packet}
use Rattle.fl_wire.specs.declared.packet.Packet.TheVariants as kinds
use Rattle.fl_gossip.specs.Taking.{ops_of}

-- the packet is a delta
abbrev pub IsDelta : Packet → Type 0
IsDelta (kinds.Full b) = ⊥
IsDelta (kinds.Have w) = ⊥
IsDelta (kinds.Delta b) = Unit {0}
IsDelta (kinds.Data d) = ⊥

-- deltas, of which each but the last has 64 operations
abbrev pub AreDeltas : List Packet → Type 0
AreDeltas [] = Unit {0}
AreDeltas (p ∷ []) = IsDelta p
AreDeltas (p ∷ q ∷ ps) = IsDelta p × (length (ops_of p) ≡ 64) × AreDeltas (q ∷ ps)

-- deltas that together hold just these operations, in their order
pub record AreInDeltas (ops : List Op) (packets : List Packet) : Type 0 where
  pub deltas : AreDeltas packets
  pub whole : flat_map ops_of packets ≡ ops
