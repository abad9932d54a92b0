use Rattle.std.proofs.Common.{arith}
use Rattle.fl_closure.proofs.Listing.{all_used_none, all_used_more, all_used}
use Rattle.fl_closure.proofs.block.used.Goals as goal

pub loop-block-init : goal.loop-block-init
loop-block-init c = all_used_none c.args.blocks.now _ c.new-names.ensures.items

pub loop-block-preserved : goal.loop-block-preserved
loop-block-preserved c =
    all_used_more _ _ _ _ _ c.loop-block-test.true c.block-item.is c.loop-block.invariant c.in_ok-push_used.ensures

pub returns : goal.returns
returns c = all_used c.args.blocks.now _ _ (omega (arith, c.loop-block-test.false)) c.loop-block.invariant
