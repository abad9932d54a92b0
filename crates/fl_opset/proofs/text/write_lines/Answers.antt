use Rattle.std.proofs.Common.{◌<◌, arith, length}
use Rattle.fl_sink.specs.laws.Passing.{passes_then, puts_then, puts_stop}
use Rattle.fl_sink.specs.laws.Pieces.{flat_map_more, flat_map_at}
use Rattle.fl_opset.specs.RegistryText.{op_line}
use Rattle.fl_opset.proofs.text.write_lines.Goals as goal

pub loop-op-preserved : goal.loop-op-preserved
loop-op-preserved g c =
    let inside : c.loop-op.op-index < length c.args.ops.now = omega arith in
    rw (flat_map_more op_line c.args.ops.now c.loop-op.op-index c.op-item.result inside, ← c.op-item.is)
    (passes_then _ _ _ c.loop-op.invariant c.in_ok-write_line.ensures.puts.is)

pub returns-in_err-write_line-clause-puts : goal.returns-in_err-write_line-clause-puts
returns-in_err-write_line-clause-puts g c =
    let inside : c.loop-op.op-index < length c.args.ops.now = omega arith in
    rw (flat_map_at op_line c.args.ops.now c.loop-op.op-index c.op-item.result inside, ← c.op-item.is)
    (puts_then c.loop-op.invariant (puts_stop _ _ c.in_err-write_line.ensures.puts.is c.from_residual.ensures.0))
