-- Deltas on their way, and what waits for the next one.
use Rattle.std.specs.Prelude.{◌≡◌, ◌<◌, List, [], ◌∷◌, ◌++◌, length}
use Rattle.std.specs.List.{flat_map}
use Rattle.fl_ops.specs.declared.op.Op.{Op}
use Rattle.fl_wire.specs.declared.packet.Packet.{Packet}
use Rattle.fl_gossip.specs.Taking.{ops_of}
use Rattle.fl_gossip.specs.Replying.{IsDelta}

-- deltas of 64 operations each
abbrev pub AreFull : List Packet → Type 0
AreFull [] = Unit {0}
AreFull (p ∷ ps) = IsDelta p × (length (ops_of p) ≡ 64) × AreFull ps

-- each delta has 64 operations, and fewer wait
pub record AreFilled (deltas : List Packet) (waiting : List Op) : Type 0 where
  pub full : AreFull deltas
  pub few : length waiting < 64

-- the operations of the deltas, and those that wait
abbrev pub filled : List Packet → List Op → List Op
filled deltas waiting = flat_map ops_of deltas ++ waiting
