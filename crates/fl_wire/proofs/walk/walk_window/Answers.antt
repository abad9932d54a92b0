use Rattle.std.proofs.Common.{◌≤◌, arith}
use Rattle.fl_opset.specs.Rank.{name_rank}
use Rattle.fl_wire.proofs.Windows.{window_walked}
use Rattle.fl_wire.proofs.walk.walk_window.Goals as goal

pub returns : goal.returns
returns c =
    let from = c.in_ok-from.from in
    let to = c.in_ok-to.to in
    let ordered : name_rank from ≤ name_rank to = omega (arith, c.if-rank.false, c.rank.ensures, c.rank-2.ensures) in
    window_walked c.args.format c.args.bytes.now 2 c.name_size-size.result c.in_ok-short_at.field-0 c.from-count.result c.rank-3.result c.rank-4.result from to c.walk_spans.result
    c.name_size-size.ensures c.in_ok-from.ensures c.in_ok-to.ensures ordered c.in_ok-short_at.ensures c.from-count.ensures c.rank-3.ensures c.rank-4.ensures c.walk_spans.ensures
