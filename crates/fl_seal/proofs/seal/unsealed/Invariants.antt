use Rattle.std.proofs.Common.{◌≡◌, ◌≢◌, ◌<◌, ℕ, Some, slice_get}
use Rattle.fl_seal.specs.declared.seal.Key.{Key}
use Rattle.fl_seal.specs.Seal.{seal}
use Rattle.fl_seal.proofs.seal.unsealed.Given as goal

-- it is the packet's seal by none of the keys so far
abbrev pub invariant-loop-key : goal.invariant-loop-key
invariant-loop-key l = record {
  none : (i : ℕ) (key : Key) → i < l.key-index → slice_get l.keys i ≡ Some key
      → l.seal ≢ seal key.bytes l.packet;
}
