-- Which bytes spell a packet.
use Rattle.std.specs.Prelude.{◌≡◌, ℕ, List}
use Rattle.fl_ops.specs.declared.format.Format.{Format}
use Rattle.fl_wire.specs.PacketBytes.{packet_bytes}
use Rattle.fl_wire.specs.PacketFits.{HasPacket}
use Rattle.fl_wire.specs.declared.packet.Packet.{Packet}

-- these bytes spell the packet, in one of the formats
pub record Spells (bytes : List ℕ) (packet : Packet) : Type 0 where
  pub format : Format
  pub has : HasPacket format packet
  pub written : packet_bytes format packet ≡ bytes
