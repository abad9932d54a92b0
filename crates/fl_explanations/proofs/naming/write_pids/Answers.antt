use Rattle.std.proofs.Common.{◌<◌, arith, length}
use Rattle.fl_sink.specs.laws.Passing.{passes_then, puts_then, puts_stop}
use Rattle.fl_sink.specs.laws.Pieces.{flat_map_more, flat_map_at}
use Rattle.fl_explanations.specs.Lines.{process_line}
use Rattle.fl_explanations.proofs.naming.write_pids.Goals as goal

pub loop-pid-preserved : goal.loop-pid-preserved
loop-pid-preserved g c =
    let inside : c.loop-pid.pid-index < length c.args.pids.now = omega arith in
    rw (
      flat_map_more process_line c.args.pids.now c.loop-pid.pid-index c.pid-item.result inside,
      ← c.pid-item.is,
    )
    (passes_then _ _ _ c.loop-pid.invariant c.in_ok-write_pid.ensures.puts.is)

pub returns-in_err-write_pid-clause-puts : goal.returns-in_err-write_pid-clause-puts
returns-in_err-write_pid-clause-puts g c =
    let inside : c.loop-pid.pid-index < length c.args.pids.now = omega arith in
    rw (
      flat_map_at process_line c.args.pids.now c.loop-pid.pid-index c.pid-item.result inside,
      ← c.pid-item.is,
    )
    (puts_then c.loop-pid.invariant
    (puts_stop _ _ c.in_err-write_pid.ensures.puts.is c.from_residual.ensures.0))
