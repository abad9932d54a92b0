-- Bytes that spell a packet.
use Rattle.std.specs.Prelude.{◌≡◌, ℕ, ◌<◌, List, slice_index}
use Rattle.fl_ops.specs.declared.format.Format.{Format}
use Rattle.fl_wire.specs.declared.packet.Packet.{Packet}
use Rattle.fl_wire.specs.PacketBytes.{packet_bytes}
use Rattle.fl_wire.specs.PacketFits.{HasPacket}

-- each item is a byte
pub record AreBytes (items : List ℕ) : Type 0 where
  pub each : (i : ℕ) → slice_index items i < 256

-- the bytes are the spelling of a packet, in a format that has it
pub record SpellPacket (bytes : List ℕ) : Type 0 where
  pub packet : Packet
  pub format : Format
  pub has : HasPacket format packet
  pub spelled : packet_bytes format packet ≡ bytes
