-- What is read of bytes that keys open.
use Rattle.std.proofs.Common.{◌≡◌, ℕ, List, slice_index, Result, Ok, Err, MatchResult}
use Rattle.fl_seal.specs.declared.seal.Key.{Key}
use Rattle.fl_wire.specs.Faults.{IsFaultOrMemory}
use Rattle.fl_wire.specs.PacketBytes.{packet_bytes}
use Rattle.fl_wire.specs.PacketFits.{HasPacket}
use Rattle.fl_wire.specs.PacketGrammar.{packet_fields, packet_format, packet_kept}
use Rattle.fl_wire.specs.declared.fault.ReadFault.{ReadFault}
use Rattle.fl_wire.specs.declared.fault.ReadFault.TheVariants.{BadPacket, Memory}
use Rattle.fl_wire.specs.declared.packet.Packet.{Packet}
use Rattle.fl_sealed_packets.specs.Coming.{Brings, IsUnread, no_packet, no_room}
use Rattle.fl_sealed_packets.specs.Sealing.{IsOpened}

-- what a reader finds in them
module _ (keys : List Key) (bytes plain : List ℕ) (opened : IsOpened keys bytes plain) where
  pub read : (r : Result Packet ReadFault)
      → MatchResult r (λ packet. HasPacket (packet_format (slice_index plain 0)) packet × (packet_bytes (packet_format (slice_index plain 0)) packet ≡ plain))
      (IsFaultOrMemory (packet_fields plain) (packet_kept plain))
      → MatchResult r (Brings keys bytes) (IsUnread keys bytes)
  read (Ok packet) h = record {
    plain = plain;
    opened = opened;
    spells = record { format = packet_format (slice_index plain 0); has = h.0; written = h.1 };
  }
  read (Err (BadPacket place)) h = no_packet plain opened h
  read (Err Memory) h = no_room plain opened h.0 h.1
