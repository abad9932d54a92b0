use Rattle.std.proofs.Common.{◌<◌, arith, length}
use Rattle.fl_sink.specs.laws.Passing.{passes_then, puts_then, puts_stop}
use Rattle.fl_sink.specs.laws.Pieces.{flat_map_more, flat_map_at}
use Rattle.fl_answers.proofs.Braces.{behind_comma}
use Rattle.fl_answers.proofs.listed.put_more.Goals as goal

pub loop-item-preserved : goal.loop-item-preserved
loop-item-preserved g c =
    let text = behind_comma g.T.Listed.text in
    let inside : c.loop-item.item-index < length c.args.items.now = omega arith in
    rw (
      flat_map_more text c.args.items.now c.loop-item.item-index c.item-item.result inside,
      ← c.item-item.is,
    )
    (passes_then _ _ _ c.loop-item.invariant c.in_ok-put_behind.ensures.puts.is)

pub returns-in_err-put_behind-clause-puts : goal.returns-in_err-put_behind-clause-puts
returns-in_err-put_behind-clause-puts g c =
    let text = behind_comma g.T.Listed.text in
    let inside : c.loop-item.item-index < length c.args.items.now = omega arith in
    rw (
      flat_map_at text c.args.items.now c.loop-item.item-index c.item-item.result inside,
      ← c.item-item.is,
    )
    (puts_then c.loop-item.invariant
    (puts_stop _ _ c.in_err-put_behind.ensures.puts.is c.from_residual.ensures.0))
