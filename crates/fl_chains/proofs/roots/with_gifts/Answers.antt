use Rattle.std.specs.List.{Contains}
use Rattle.fl_chains.proofs.Rooting.{begin_none, begin_gift, begin_other, begin_all}
use Rattle.fl_chains.proofs.roots.with_gifts.Goals.{in-Some+in_ok-push, in_default}
use Rattle.fl_chains.proofs.roots.with_gifts.Goals as goal

pub loop-op-init : goal.loop-op-init
loop-op-init c = begin_none c.args.owned.now _ c.in_ok-made.ensures.items

pub loop-op-preserved : goal.loop-op-preserved
loop-op-preserved c = elim c.match-gift.branch [
  | in-Some+in_ok-push w ↦ rw (w.made-is)
      (begin_gift (Contains c.args.owned.now) c.args.ops.now _ c.op-item.result c.loop-op-test.true
      c.op-item.is
      _ _ c.gift.result w.in-Some.cap c.gift.ensures w.in-Some.is w.in_ok-push.ensures.items
      c.loop-op.invariant)
  | in_default w ↦ rw (w.made-is)
      (begin_other (Contains c.args.owned.now) c.args.ops.now _ c.op-item.result c.loop-op-test.true
      c.op-item.is
      _ c.gift.result c.gift.ensures w.in_default.is c.loop-op.invariant)
]

pub returns : goal.returns
returns c = begin_all (Contains c.args.owned.now) c.args.ops.now _ _ c.loop-op-test.false
    c.loop-op.invariant
