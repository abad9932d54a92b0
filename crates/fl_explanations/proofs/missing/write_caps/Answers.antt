use Rattle.std.proofs.Common.{◌<◌, arith, length}
use Rattle.fl_sink.specs.laws.Passing.{passes_then, puts_then, puts_stop}
use Rattle.fl_sink.specs.laws.Pieces.{flat_map_more, flat_map_at}
use Rattle.fl_explanations.specs.Lines.{cap_line}
use Rattle.fl_explanations.proofs.missing.write_caps.Goals as goal

pub loop-cap-preserved : goal.loop-cap-preserved
loop-cap-preserved g c =
    let inside : c.loop-cap.cap-index < length c.args.caps.now = omega arith in
    rw (
      flat_map_more cap_line c.args.caps.now c.loop-cap.cap-index c.cap-item.result inside,
      ← c.cap-item.is,
    )
    (passes_then _ _ _ c.loop-cap.invariant c.in_ok-write_cap.ensures.puts.is)

pub returns-in_err-write_cap-clause-puts : goal.returns-in_err-write_cap-clause-puts
returns-in_err-write_cap-clause-puts g c =
    let inside : c.loop-cap.cap-index < length c.args.caps.now = omega arith in
    rw (
      flat_map_at cap_line c.args.caps.now c.loop-cap.cap-index c.cap-item.result inside,
      ← c.cap-item.is,
    )
    (puts_then c.loop-cap.invariant
    (puts_stop _ _ c.in_err-write_cap.ensures.puts.is c.from_residual.ensures.0))
