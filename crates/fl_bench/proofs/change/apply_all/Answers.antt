use Rattle.fl_bench.proofs.Changes.{after_more}
use Rattle.fl_bench.proofs.change.apply_all.Goals as goal

pub loop-change-preserved : goal.loop-change-preserved
loop-change-preserved c =
    after_more _ _ _ c.args.changes.now _ _ c.loop-change-test.true c.change-item.is
    c.loop-change.invariant c.in_ok-apply.ensures
