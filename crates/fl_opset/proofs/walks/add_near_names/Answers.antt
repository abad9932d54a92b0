use Rattle.fl_opset.proofs.Entries.{node_added}
use Rattle.fl_opset.proofs.walks.add_near_names.Goals as goal

pub loop-it-preserved : goal.loop-it-preserved
loop-it-preserved c = node_added _ _ _ _ _ _ _ c.loop-it-test.true c.it-item.is c.deref.ensures.value c.loop-it.invariant c.in_ok-left.ensures.ok
