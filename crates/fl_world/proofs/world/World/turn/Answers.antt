use Rattle.std.proofs.Common.{subst, sym}
use Rattle.fl_system.specs.WorldSteps.{Step}
use Rattle.fl_nodes.specs.Failing.{FailsIn}
use Rattle.fl_nodes.specs.Goes.{Goes}
use Rattle.fl_world.proofs.world.World.turn.Goals as goal

pub returns-in-Job-clause-goes : goal.returns-in-Job-clause-goes
returns-in-Job-clause-goes g c =
    subst (λ e. Goes g.K.Keeper.custody c.args.self.now c.job.new.self (λ w w'. Step w e c.job.result w'))
    (sym c.in-Job.is) c.job.ensures.goes

pub returns-in-Save-clause-goes : goal.returns-in-Save-clause-goes
returns-in-Save-clause-goes g c =
    subst (λ e. Goes g.K.Keeper.custody c.args.self.now c.save.new.self (λ w w'. Step w e c.save.result w'))
    (sym c.in-Save.is) c.save.ensures.goes

pub returns-in-Publish-clause-goes : goal.returns-in-Publish-clause-goes
returns-in-Publish-clause-goes g c =
    subst (λ e. Goes g.K.Keeper.custody c.args.self.now c.publish.new.self (λ w w'. Step w e c.publish.result w'))
    (sym c.in-Publish.is) c.publish.ensures.goes

pub returns-in-Cancel-clause-goes : goal.returns-in-Cancel-clause-goes
returns-in-Cancel-clause-goes g c =
    subst (λ e. Goes g.K.Keeper.custody c.args.self.now c.cancel.new.self (λ w w'. Step w e c.cancel.result w'))
    (sym c.in-Cancel.is) c.cancel.ensures.goes

pub returns-in-Restart-clause-goes : goal.returns-in-Restart-clause-goes
returns-in-Restart-clause-goes g c =
    subst (λ e. Goes g.K.Keeper.custody c.args.self.now c.restart.new.self (λ w w'. Step w e c.restart.result w'))
    (sym c.in-Restart.is) c.restart.ensures.goes

pub returns-in-Tell-clause-goes : goal.returns-in-Tell-clause-goes
returns-in-Tell-clause-goes g c =
    subst (λ e. Goes g.K.Keeper.custody c.args.self.now c.tell.new.self (λ w w'. Step w e c.tell.result w'))
    (sym c.in-Tell.is) c.tell.ensures.goes

pub returns-in-Deliver-clause-goes : goal.returns-in-Deliver-clause-goes
returns-in-Deliver-clause-goes g c =
    subst (λ e. Goes g.K.Keeper.custody c.args.self.now c.deliver.new.self (λ w w'. Step w e c.deliver.result w'))
    (sym c.in-Deliver.is) c.deliver.ensures.goes

pub returns-in-Job-clause-cause : goal.returns-in-Job-clause-cause
returns-in-Job-clause-cause g c failed = absurd (c.job.ensures.cause failed)

pub returns-in-Publish-clause-cause : goal.returns-in-Publish-clause-cause
returns-in-Publish-clause-cause g c failed = absurd (c.publish.ensures.cause failed)

pub returns-in-Cancel-clause-cause : goal.returns-in-Cancel-clause-cause
returns-in-Cancel-clause-cause g c failed = absurd (c.cancel.ensures.cause failed)

pub returns-in-Tell-clause-cause : goal.returns-in-Tell-clause-cause
returns-in-Tell-clause-cause g c failed = absurd (c.tell.ensures.cause failed)

pub returns-in-Deliver-clause-cause : goal.returns-in-Deliver-clause-cause
returns-in-Deliver-clause-cause g c failed = absurd (c.deliver.ensures.cause failed)

pub returns-in-Save-clause-cause : goal.returns-in-Save-clause-cause
returns-in-Save-clause-cause g c failed =
    subst (FailsIn g.K.Keeper.custody c.args.self.now c.save.new.self) (sym c.in-Save.is)
    (FailsIn.saving (c.save.ensures.cause failed))

pub returns-in-Restart-clause-cause : goal.returns-in-Restart-clause-cause
returns-in-Restart-clause-cause g c failed =
    subst (FailsIn g.K.Keeper.custody c.args.self.now c.restart.new.self) (sym c.in-Restart.is)
    (FailsIn.restarting (c.restart.ensures.cause failed))
