use Rattle.fl_chains.proofs.Parting.{starts_none, starts_more, starts_made}
use Rattle.fl_chains.proofs.legs.starts_of.Goals as goal

pub loop-step-init : goal.loop-step-init
loop-step-init c = rw (c.new-caps.ensures.items) starts_none

pub loop-step-preserved : goal.loop-step-preserved
loop-step-preserved c =
    starts_more c.args.steps.now _ c.step-item.result c.loop-step-test.true c.step-item.is _ _
    c.loop-step.invariant c.in_ok-push.ensures.items

pub returns : goal.returns
returns c = starts_made c.args.steps.now _ _ c.loop-step-test.false c.loop-step.invariant _
    c.from_vec.ensures
