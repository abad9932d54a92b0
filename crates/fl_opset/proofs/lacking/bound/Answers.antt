use Rattle.std.proofs.Common.{ap, arith}
use Rattle.fl_opset.specs.Rank.{op_rank}
use Rattle.fl_opset.proofs.Lacks.{rest_above}
use Rattle.fl_opset.proofs.lacking.bound.Goals as goal

pub returns-then-low-rank-clause-above : goal.returns-then-low-rank-clause-above
returns-then-low-rank-clause-above c =
    rest_above op_rank c.args.ops.now c.loop-bound.bound c.args.low c.index-ops-bound.result c.requires c.loop-bound-test.true c.index-ops-bound.is
    (omega (arith, c.if-low-rank.true, c.rank.ensures, ap op_rank c.index-ops-bound.is))
