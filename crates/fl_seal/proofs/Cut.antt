-- Bytes cut before their seal.
use Rattle.std.proofs.Common.{◌≡◌, ◌∙◌, ◌++◌, ◌-◌, ℕ, List, length, length-append, codes, drop, take, ap, arith}
use Rattle.std.proofs.Math.Seq.{take-append_seam, drop-append_seam}
use Rattle.sha2.specs.Sha256.{sha256}
use Rattle.sha2.proofs.Facts256.{length-sha256}
use Rattle.fl_seal.specs.Seal.{padded_key, seal}

pub length-seal : (key packet : List ℕ) → length (seal key packet) ≡ 32
length-seal key packet =
    length-sha256 (padded_key key 0x5c
    ++ sha256 (padded_key key 0x36 ++ (codes "flume-packet-1\n" ++ packet)))

-- what is sealed is cut into the packet and its seal
module _ (key bytes packet : List ℕ) (is : bytes ≡ packet ++ seal key packet) where
  before : length bytes - 32 ≡ length packet
  before =
      omega (arith, ap length is, length-append packet (seal key packet), length-seal key packet)

  pub front_is : take (length bytes - 32) bytes ≡ packet
  front_is =
      (λ i. take (before i) (is i)) ∙ take-append_seam packet (seal key packet)

  pub back_is : drop (length bytes - 32) bytes ≡ seal key packet
  back_is =
      (λ i. drop (before i) (is i)) ∙ drop-append_seam packet (seal key packet)
