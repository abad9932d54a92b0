use Rattle.fl_world.specs.Headline.{IsSafeWorld, HasSafeAudit}
use Rattle.fl_world.specs.Lasting.{HasAuthority, IsLastingWorld}
use Rattle.fl_world.proofs.Reaching.{each_has}
use Rattle.fl_world.proofs.world.World.audit.Goals as goal

pub returns-clause-safe : goal.returns-clause-safe
returns-clause-safe g c =
    each_has g.K.Keeper.custody _ IsSafeWorld HasSafeAudit (λ w safe. safe.audit) c.law_safe.ensures

pub returns-clause-authority : goal.returns-clause-authority
returns-clause-authority g c =
    each_has g.K.Keeper.custody _ IsLastingWorld HasAuthority (λ w lasts. lasts.authority)
    c.law_lasting.ensures
