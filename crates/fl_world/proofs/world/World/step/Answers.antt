use Rattle.std.proofs.Common.{subst}
use Rattle.fl_system.specs.Runs.{IsReached}
use Rattle.fl_world.specs.Reached.{InEach}
use Rattle.fl_world.proofs.Reaching.{never_named}
use Rattle.fl_world.proofs.world.World.step.Goals as goal

pub returns-clause-named : goal.returns-clause-named
returns-clause-named g c =
    never_named g.K.Keeper.custody _ _ _ _ c.law_names.ensures.no_name_refused
    (subst (λ o. InEach g.K.Keeper.custody o IsReached) c.self.view_is c.self.invariant) c.turn.ensures.goes
