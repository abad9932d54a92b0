use Rattle.std.proofs.Common.{◌<◌, arith, length}
use Rattle.fl_sink.specs.laws.Passing.{passes_then, puts_then, puts_stop}
use Rattle.fl_sink.specs.laws.Pieces.{flat_map_more, flat_map_at}
use Rattle.fl_explanations.specs.Lines.{group_line}
use Rattle.fl_explanations.proofs.naming.write_groups.Goals as goal

pub loop-group-preserved : goal.loop-group-preserved
loop-group-preserved g c =
    let inside : c.loop-group.group-index < length c.args.groups.now = omega arith in
    rw (
      flat_map_more group_line c.args.groups.now c.loop-group.group-index c.group-item.result inside,
      ← c.group-item.is,
    )
    (passes_then _ _ _ c.loop-group.invariant c.in_ok-write_name.ensures.puts.is)

pub returns-in_err-write_name-clause-puts : goal.returns-in_err-write_name-clause-puts
returns-in_err-write_name-clause-puts g c =
    let inside : c.loop-group.group-index < length c.args.groups.now = omega arith in
    rw (
      flat_map_at group_line c.args.groups.now c.loop-group.group-index c.group-item.result inside,
      ← c.group-item.is,
    )
    (puts_then c.loop-group.invariant
    (puts_stop _ _ c.in_err-write_name.ensures.puts.is c.from_residual.ensures.0))
