use Rattle.fl_closure.proofs.LoginsAmong.{logins_at_first, logins_with, logins_without}
use Rattle.fl_closure.proofs.logins.logins_of.Goals.{in-MakeLogin+in_ok-add, in_default}
use Rattle.fl_closure.proofs.logins.logins_of.Goals as goal

pub loop-op-init : goal.loop-op-init
loop-op-init c = logins_at_first c.args.ops.now _ c.new-logins.ensures

pub loop-op-preserved : goal.loop-op-preserved
loop-op-preserved c = elim c.match-op.branch [
  | in-MakeLogin+in_ok-add w ↦ rw (w.logins-is) (logins_with _ _ c.op-item.result c.loop-op-test.true c.op-item.is _ c.loop-op.invariant _ w.in_ok-add.ensures.ok)
  | in_default w ↦ rw (w.logins-is) (logins_without _ _ c.op-item.result c.loop-op-test.true c.op-item.is _ c.loop-op.invariant w.in_default.not-MakeLogin)
]
