use Rattle.std.proofs.Common.{◌≡◌, ◌∙◌, Some, ap, arith, length, length-append, sym}
use Rattle.std.proofs.lemmas.Option.{slice_get-get_or}
use Rattle.fl_seal.specs.Seal.{seal}
use Rattle.fl_seal.proofs.Cut.{back_is, front_is, length-seal}
use Rattle.fl_seal.proofs.seal.unsealed.Goals as goal

pub returns-then-bytes-lt-SEAL_BYTES : goal.returns-then-bytes-lt-SEAL_BYTES
returns-then-bytes-lt-SEAL_BYTES c = λ packet s.
    omega (
      arith,
      ap length s.is,
      length-append packet (seal s.key.bytes packet),
      length-seal s.key.bytes packet,
      c.if-bytes-lt-SEAL_BYTES.true,
    )

pub returns : goal.returns
returns c = λ packet s.
    let k = s.one.0 in
    let there = slice_get-get_or c.args.keys.now k s.key s.one.1 in
    let front : c.split_at.result.0.now ≡ packet =
    c.split_at.ensures.front ∙ front_is s.key.bytes c.args.bytes.now packet s.is in
    let back : c.split_at.result.1.now ≡ seal s.key.bytes packet =
    c.split_at.ensures.back ∙ back_is s.key.bytes c.args.bytes.now packet s.is in
    c.loop-key.invariant.none k s.key (omega arith) (there ∙ ap Some s.one.2)
    (back ∙ ap (seal s.key.bytes) (sym front))
