-- What bytes bring that came.
use Rattle.std.specs.Prelude.{◌≡◌, ◌<◌, ℕ, List}
use Rattle.std.specs.declared.option.Option.TheVariants.{None, Some}
use Rattle.fl_ops.specs.Grammar.{first_fault}
use Rattle.fl_seal.specs.declared.seal.Key.{Key}
use Rattle.fl_wire.specs.PacketGrammar.{packet_kept, packet_fields}
use Rattle.fl_wire.specs.Spelling.{Spells}
use Rattle.fl_wire.specs.declared.fault.ReadFault.{ReadFault}
use Rattle.fl_wire.specs.declared.fault.ReadFault.TheVariants.{BadPacket, Memory}
use Rattle.fl_wire.specs.declared.packet.Packet.{Packet}
use Rattle.fl_sealed_packets.specs.Sealing.{IsOpened}

-- this packet
pub record Brings (keys : List Key) (bytes : List ℕ) (packet : Packet) : Type 0 where
  pub plain : List ℕ
  pub opened : IsOpened keys bytes plain
  pub spells : Spells plain packet

-- none
pub data IsUnread (keys : List Key) (bytes : List ℕ) : ReadFault → Type 0 where
  -- no key opens them, so nothing of them is read
  unsealed : ((plain : List ℕ) → ¬ IsOpened keys bytes plain) → IsUnread keys bytes (BadPacket 0)
  -- no packet is spelled so: there is the first fault
  no_packet : (plain : List ℕ) {place : ℕ} → IsOpened keys bytes plain
      → first_fault (packet_fields plain) ≡ Some place → IsUnread keys bytes (BadPacket place)
  -- there is no room for the packet that is spelled
  no_room : (plain : List ℕ) → IsOpened keys bytes plain
      → first_fault (packet_fields plain) ≡ None → 0 < packet_kept plain
      → IsUnread keys bytes Memory
