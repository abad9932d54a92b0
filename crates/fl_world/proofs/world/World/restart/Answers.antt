use Rattle.std.proofs.Common.{subst}
use Rattle.fl_system.specs.Runs.{Happens}
use Rattle.fl_system.specs.WorldSteps.{Step}
use Rattle.fl_system.specs.declared.event.Event.TheVariants as event
use Rattle.fl_nodes.specs.Goes.{Goes}
use Rattle.fl_world.proofs.Reaching.{each_reached}
use Rattle.fl_world.proofs.world.World.restart.Goals as goal

pub invariant_of-self : goal.invariant_of-self
invariant_of-self g c =
    each_reached g.K.Keeper.custody _ _ (Happens (event.Restart c.args.number c.args.keeps)) _ c.restart.ensures.goes c.self.invariant

pub returns-clause-goes : goal.returns-clause-goes
returns-clause-goes g c =
    subst (λ old. Goes g.K.Keeper.custody old c.restart.new.self (λ w w'. Step w (event.Restart c.args.number c.args.keeps) c.restart.result w'))
    c.self.view_is c.restart.ensures.goes

pub returns-clause-cause : goal.returns-clause-cause
returns-clause-cause g c = rw (← c.self.view_is) c.restart.ensures.cause

pub returns-clause-broken : goal.returns-clause-broken
returns-clause-broken g c = rw (← c.self.view_is) c.restart.ensures.broken

pub returns-clause-other : goal.returns-clause-other
returns-clause-other g c = rw (← c.self.view_is) c.restart.ensures.other
