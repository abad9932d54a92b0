use Rattle.std.proofs.Common.{subst, sym}
use Rattle.fl_system.specs.Runs.{IsReached}
use Rattle.fl_world.specs.Reached.{InEach}
use Rattle.fl_world.proofs.Reaching.{none_reached}
use Rattle.fl_world.proofs.world.World.new.Goals as goal

pub invariant_of-result : goal.invariant_of-result
invariant_of-result g c =
    subst (λ o. InEach g.K.Keeper.custody o IsReached) (sym c.new.ensures)
    (none_reached g.K.Keeper.custody c.args.desks)
