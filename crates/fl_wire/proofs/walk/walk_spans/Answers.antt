use Rattle.std.proofs.Common.{◌≡◌, ◌+◌, ◌-◌, ◌∷◌, [], length, leb, refl, arith}
use Rattle.std.proofs.lemmas.Result.{err_from_is_err_and}
use Rattle.fl_wire.specs.PacketGrammar.{span_size, spans_fields}
use Rattle.fl_wire.proofs.SpansRead.{spans_unwalked, spans_walk, spans_bad, spans_past}
use Rattle.fl_wire.proofs.Spelled.{name_few}
use Rattle.fl_wire.proofs.Walks.{are_walked}
use Rattle.fl_wire.proofs.walk.walk_spans.Goals as goal

pub loop-i-init : goal.loop-i-init
loop-i-init c = (spans_unwalked _ _ refl (omega arith), omega arith)

pub loop-i-preserved : goal.loop-i-preserved
loop-i-preserved c =
    let i = c.loop-i.i in
    let next = c.loop-i.place + (c.name_size.result + 4) in
    let place : c.loop-i.place + span_size c.args.format ≡ c.loop-i.place + (c.name_size.result + 4) = omega (arith, c.name_size.ensures) in (
      spans_walk c.loop-i.place c.loop-i.low (c.args.count - i) c.in_ok-span.span next c.last_rank_of-low.result (c.args.count - (i + 1)) c.loop-i.invariant.0 c.in_ok-span.ensures place c.last_rank_of-low.ensures (omega arith),
      omega (arith, c.loop-i.invariant.1, c.name_size.ensures, name_few c.args.format),
    )

pub returns-in_err-span : goal.returns-in_err-span
returns-in_err-span c =
    let i = c.loop-i.i in
    let p = err_from_is_err_and c.from_residual.result c.from_residual.ensures.1 in
    rw (p.1, p.2) (spans_bad c.loop-i.place c.loop-i.low (c.args.count - i) (c.args.count - (i + 1)) c.in_err-span.field-0.0 c.loop-i.invariant.0 (omega arith) c.in_err-span.ensures)

pub returns : goal.returns
returns c =
    let bs = c.args.bytes.now in
    are_walked (spans_fields c.args.format bs c.args.at c.args.from c.args.to c.args.count) ((c.loop-i.place, leb (length bs) c.loop-i.place) ∷ []) c.end_of.result
    (spans_past c.loop-i.place c.loop-i.low (c.args.count - c.loop-i.i) c.loop-i.invariant.0 (omega arith)) c.end_of.ensures
