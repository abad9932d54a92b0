use Rattle.std.specs.List.{flat_map}
use Rattle.std.proofs.lemmas.List.Concat.{flat_map-append}
use Rattle.fl_sink.specs.laws.Passing.{passes_then, puts_then, puts_stop}
use Rattle.fl_opset.specs.RegistryText.{op_line}
use Rattle.fl_opset.proofs.Entries.{made_more, made_at}
use Rattle.fl_opset.proofs.walks.write_lines.Goals as goal

pub loop-it-preserved : goal.loop-it-preserved
loop-it-preserved g c =
    rw (made_more c.args.nodes.now c.loop-it.it-index c.it-item.result c.deref.result.now c.loop-it-test.true c.it-item.is c.deref.ensures.value (flat_map op_line) (flat_map-append op_line))
    (passes_then _ _ _ c.loop-it.invariant c.in_ok-write_lines.ensures.puts.is)

pub returns-in_err-write_lines-clause-puts : goal.returns-in_err-write_lines-clause-puts
returns-in_err-write_lines-clause-puts g c =
    rw (made_at c.args.nodes.now c.loop-it.it-index c.it-item.result c.deref.result.now c.loop-it-test.true c.it-item.is c.deref.ensures.value (flat_map op_line) (flat_map-append op_line))
    (puts_then c.loop-it.invariant (puts_stop _ _ c.in_err-write_lines.ensures.puts.is c.from_residual.ensures.0))
