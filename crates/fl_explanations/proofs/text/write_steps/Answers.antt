use Rattle.std.proofs.Common.{◌<◌, ap, arith, length}
use Rattle.fl_sink.specs.laws.Passing.{passes_then, puts_then, puts_stop}
use Rattle.fl_sink.specs.laws.Pieces.{flat_map_more, flat_map_at}
use Rattle.fl_opset.specs.RegistryText.{op_line}
use Rattle.fl_explanations.specs.Lines.{step_line}
use Rattle.fl_explanations.proofs.text.write_steps.Goals as goal

pub loop-step-preserved : goal.loop-step-preserved
loop-step-preserved g c =
    let inside : c.loop-step.step-index < length c.args.steps.now = omega arith in
    rw (
      flat_map_more step_line c.args.steps.now c.loop-step.step-index c.step-item.result inside,
      ← c.step-item.is,
    )
    (passes_then _ _ _ c.loop-step.invariant
    (rw (ap op_line c.op_of.ensures) at c.in_ok-write_line.ensures.puts.is))

pub returns-in_err-write_line-clause-puts : goal.returns-in_err-write_line-clause-puts
returns-in_err-write_line-clause-puts g c =
    let inside : c.loop-step.step-index < length c.args.steps.now = omega arith in
    rw (
      flat_map_at step_line c.args.steps.now c.loop-step.step-index c.step-item.result inside,
      ← c.step-item.is,
    )
    (puts_then c.loop-step.invariant
    (puts_stop _ _ (rw (ap op_line c.op_of.ensures) at c.in_err-write_line.ensures.puts.is)
    c.from_residual.ensures.0))
