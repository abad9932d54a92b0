use Rattle.std.proofs.Common.{List}
use Rattle.std.specs.List.{flat_map, filter}
use Rattle.fl_ops.specs.declared.op.Op.{Op}
use Rattle.fl_sink.specs.laws.Passing.{passes_then, puts_then, puts_stop}
use Rattle.fl_opset.specs.RegistryText.{op_line}
use Rattle.fl_opset.specs.Without.{is_outside}
use Rattle.fl_opset.proofs.Entries.{made_more, made_at}
use Rattle.fl_opset.proofs.Outside.{pieces-append}
use Rattle.fl_opset.proofs.walks.write_lines_but.Goals as goal

pub loop-it-preserved : goal.loop-it-preserved
loop-it-preserved g c =
    let left = is_outside c.args.those.now in
    rw (made_more c.args.nodes.now c.loop-it.it-index c.it-item.result c.deref.result.now c.loop-it-test.true c.it-item.is c.deref.ensures.value (λ (ops : List Op). flat_map op_line (filter left ops)) (pieces-append op_line left))
    (passes_then _ _ _ c.loop-it.invariant c.in_ok-write_lines_but.ensures.puts.is)

pub returns-in_err-write_lines_but-clause-puts : goal.returns-in_err-write_lines_but-clause-puts
returns-in_err-write_lines_but-clause-puts g c =
    let left = is_outside c.args.those.now in
    rw (made_at c.args.nodes.now c.loop-it.it-index c.it-item.result c.deref.result.now c.loop-it-test.true c.it-item.is c.deref.ensures.value (λ (ops : List Op). flat_map op_line (filter left ops)) (pieces-append op_line left))
    (puts_then c.loop-it.invariant (puts_stop _ _ c.in_err-write_lines_but.ensures.puts.is c.from_residual.ensures.0))
