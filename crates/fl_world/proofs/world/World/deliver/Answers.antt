use Rattle.std.proofs.Common.{subst}
use Rattle.fl_system.specs.Runs.{Happens}
use Rattle.fl_system.specs.WorldSteps.{Step}
use Rattle.fl_system.specs.declared.event.Event.TheVariants as event
use Rattle.fl_nodes.specs.Goes.{Goes}
use Rattle.fl_world.proofs.Reaching.{each_reached}
use Rattle.fl_world.proofs.world.World.deliver.Goals as goal

pub invariant_of-self : goal.invariant_of-self
invariant_of-self g c =
    each_reached g.K.Keeper.custody _ _ (Happens (event.Deliver c.args.packet c.args.number)) _ c.deliver.ensures.goes c.self.invariant

pub returns-clause-goes : goal.returns-clause-goes
returns-clause-goes g c =
    subst (λ old. Goes g.K.Keeper.custody old c.deliver.new.self (λ w w'. Step w (event.Deliver c.args.packet c.args.number) c.deliver.result w'))
    c.self.view_is c.deliver.ensures.goes
