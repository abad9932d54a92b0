use Rattle.std.specs.Prelude.{refl}
use Rattle.fl_chains.proofs.Ways.{groups_none, groups_more, groups_all, item_there, on_err}
use Rattle.fl_chains.proofs.groups.add_groups.Goals as goal

pub loop-leg-init : goal.loop-leg-init
loop-leg-init c = groups_none c.args.groups.now.items

pub returns-in_err-push-clause-memory : goal.returns-in_err-push-clause-memory
returns-in_err-push-clause-memory c = on_err c.from_residual.result (
  c.leg-item.result.step.group,
  (
    c.leg-item.result,
    item_there c.args.legs.now _ c.leg-item.result c.loop-leg-test.true c.leg-item.is,
    refl,
  ),
)

pub loop-leg-preserved : goal.loop-leg-preserved
loop-leg-preserved c =
    groups_more c.args.groups.now.items c.args.legs.now _ c.leg-item.result c.loop-leg-test.true
    c.leg-item.is _ _ c.loop-leg.invariant c.in_ok-push.ensures.items

pub returns-clause-found : goal.returns-clause-found
returns-clause-found c = groups_all c.args.groups.now.items c.args.legs.now _ _
    c.loop-leg-test.false c.loop-leg.invariant
