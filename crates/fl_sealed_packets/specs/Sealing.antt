-- The bytes as which packets go from machine to machine: bare, or sealed by a key.
use Rattle.std.specs.Prelude.{◌≡◌, ℕ, List, [], ◌∷◌}
use Rattle.fl_ops.specs.declared.format.Format.TheVariants.{Two}
use Rattle.fl_seal.specs.Seal.{IsSealed, sealed}
use Rattle.fl_seal.specs.declared.seal.Key.{Key}
use Rattle.fl_wire.specs.PacketBytes.{packet_bytes}
use Rattle.fl_wire.specs.declared.packet.Packet.{Packet}

-- the bytes, sealed by the first of the keys, if there is one
abbrev pub sealed_by : List Key → List ℕ → List ℕ
sealed_by [] bytes = bytes
sealed_by (key ∷ keys) bytes = sealed key.bytes bytes

-- the bytes as which a packet is sent
abbrev pub sent_bytes : List Key → Packet → List ℕ
sent_bytes keys packet = sealed_by keys (packet_bytes Two packet)

-- the bytes that came are these, sealed by any of the keys; where there is none, they are these
abbrev pub IsOpened : List Key → List ℕ → List ℕ → Type 0
IsOpened [] bytes plain = plain ≡ bytes
IsOpened (key ∷ keys) bytes plain = IsSealed (key ∷ keys) bytes plain
