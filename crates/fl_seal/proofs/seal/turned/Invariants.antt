use Rattle.std.proofs.Common.{◌≡◌, ◌<◌, ℕ, length, get_or, bit_xor}
use Rattle.fl_seal.proofs.seal.turned.Given as goal

-- the bytes so far are turned
abbrev pub invariant-loop-at : goal.invariant-loop-at
invariant-loop-at l = record {
  long : length l.result ≡ 32;
  each : (i : ℕ) → i < l.at → get_or l.result i 0 ≡ bit_xor (get_or l.bytes i 0) l.bits;
}
