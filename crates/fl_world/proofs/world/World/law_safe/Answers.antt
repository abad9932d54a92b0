use Rattle.std.proofs.Common.{subst}
use Rattle.fl_world.specs.Headline.{IsSafeWorld}
use Rattle.fl_world.specs.Reached.{InEach}
use Rattle.fl_world.proofs.Reaching.{each_has}
use Rattle.fl_world.proofs.world.World.law_safe.Goals as goal

pub returns : goal.returns
returns g c =
    subst (λ o. InEach g.K.Keeper.custody o IsSafeWorld) c.self.view_is
    (each_has g.K.Keeper.custody _ _ _ c.law_headline.ensures c.self.invariant)
