use Rattle.fl_labels.specs.SetBy.{In}
use Rattle.fl_chains.proofs.Parting.{parts_none, parts_taken, parts_left, parts_all}
use Rattle.fl_chains.proofs.legs.split.Goals.{in-Some+in_ok-push-in-Some, in-None+in_ok-push-in-None}
use Rattle.fl_chains.proofs.legs.split.Goals as goal

pub loop-op-init : goal.loop-op-init
loop-op-init c = rw (c.new-taken.ensures.items, c.new-rest.ensures.items)
    (parts_none (In c.args.near.now))

pub loop-op-preserved : goal.loop-op-preserved
loop-op-preserved c = elim c.match-step_to.branch [
  | in-Some+in_ok-push-in-Some w ↦ rw (w.taken-is, w.rest-is)
      (parts_taken (In c.args.near.now) c.args.ops.now _ c.op-item.result c.loop-op-test.true
      c.op-item.is
      _ _ c.loop-op.invariant c.step_to.result c.step_to.ensures w.in-Some.step w.in-Some.is _
      w.in_ok-push-in-Some.ensures.items)
  | in-None+in_ok-push-in-None w ↦ rw (w.taken-is, w.rest-is)
      (parts_left (In c.args.near.now) c.args.ops.now _ c.op-item.result c.loop-op-test.true
      c.op-item.is
      _ _ c.loop-op.invariant c.step_to.result c.step_to.ensures w.in-None.is _
      w.in_ok-push-in-None.ensures.items)
]

pub returns : goal.returns
returns c = parts_all (In c.args.near.now) c.args.ops.now _ _ _ c.loop-op-test.false
    c.loop-op.invariant
