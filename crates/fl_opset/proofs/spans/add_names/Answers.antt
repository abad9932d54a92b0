use Rattle.std.proofs.Common.{arith}
use Rattle.fl_opset.proofs.Added.{none_added, next_added, all_added}
use Rattle.fl_opset.proofs.spans.add_names.Goals as goal

pub loop-op-init : goal.loop-op-init
loop-op-init c = none_added _ c.requires

pub loop-op-preserved : goal.loop-op-preserved
loop-op-preserved c = next_added _ _ _ _ _ _ (omega arith) c.op-item.is c.loop-op.invariant c.in_ok-add_name.ensures.ok

pub returns-clause-ok : goal.returns-clause-ok
returns-clause-ok c = all_added _ c.loop-op.op-index _ _ (omega arith) c.loop-op.invariant
