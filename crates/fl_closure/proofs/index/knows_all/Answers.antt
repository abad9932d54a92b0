use Rattle.fl_closure.specs.parts.Knowing.{IsKnown}
use Rattle.fl_closure.proofs.Held.{within_more, within_all}
use Rattle.fl_closure.proofs.index.knows_all.Goals as goal

pub loop-op-preserved : goal.loop-op-preserved
loop-op-preserved c =
    within_more (IsKnown c.args.closure.now c.args.logins.now) c.args.ops.now _ c.op-item.result c.loop-op-test.true c.op-item.is c.loop-op.invariant (c.knows.ensures.holds c.if-not-knows.false)

pub returns : goal.returns
returns c =
    within_all (IsKnown c.args.closure.now c.args.logins.now) c.args.ops.now _ c.loop-op-test.false c.loop-op.invariant
