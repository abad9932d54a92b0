-- HMAC-SHA256 by keys of 32 bytes, and seals of packets.
use Rattle.std.specs.Prelude.{◌≡◌, ◌++◌, ℕ, List, bit_xor, codes, map, replicate}
use Rattle.std.specs.List.{Contains}
use Rattle.sha2.specs.Sha256.{sha256}
use Rattle.fl_seal.specs.declared.seal.Key.{Key}

-- these bits of each byte are turned
abbrev pub turned : List ℕ → ℕ → List ℕ
turned bytes bits = map (λ byte. bit_xor byte bits) bytes

-- the key with these bits turned, behind it zeros to a block of 64 bytes, with them turned too
abbrev pub padded_key : List ℕ → ℕ → List ℕ
padded_key key bits = turned key bits ++ replicate 32 bits

-- the HMAC-SHA256 of a message by a key of 32 bytes
abbrev pub hmac_sha256 : List ℕ → List ℕ → List ℕ
hmac_sha256 key message = sha256 (padded_key key 0x5c ++ sha256 (padded_key key 0x36 ++ message))

-- the seal of a packet: that of what it is for, a line feed, and its bytes
abbrev pub seal : List ℕ → List ℕ → List ℕ
seal key packet = hmac_sha256 key (codes "flume-packet-1\n" ++ packet)

-- a packet with its seal behind it
abbrev pub sealed : List ℕ → List ℕ → List ℕ
sealed key packet = packet ++ seal key packet

-- the bytes are this packet, sealed by one of the keys
pub record IsSealed (keys : List Key) (bytes packet : List ℕ) : Type 0 where
  pub key : Key
  pub one : Contains keys key
  pub is : bytes ≡ sealed key.bytes packet
