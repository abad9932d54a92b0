use Rattle.fl_chains.proofs.Parting.{adds_none, adds_more, adds_all}
use Rattle.fl_chains.proofs.legs.add_legs.Goals as goal

pub loop-step-init : goal.loop-step-init
loop-step-init c = adds_none c.args.legs.now.items c.args.left

pub loop-step-preserved : goal.loop-step-preserved
loop-step-preserved c =
    adds_more c.args.legs.now.items c.args.left c.args.steps.now _ c.step-item.result
    c.loop-step-test.true c.step-item.is _ _ c.loop-step.invariant c.in_ok-push.ensures.items

pub returns : goal.returns
returns c = adds_all c.args.legs.now.items c.args.left c.args.steps.now _ _ c.loop-step-test.false
    c.loop-step.invariant
