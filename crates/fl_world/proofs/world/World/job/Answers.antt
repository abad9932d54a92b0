use Rattle.std.proofs.Common.{◌∙◌, ap, subst}
use Rattle.std.specs.FinMap as map
use Rattle.fl_system.specs.Runs.{Happens}
use Rattle.fl_system.specs.WorldSteps.{Step}
use Rattle.fl_system.specs.declared.event.Event.TheVariants as event
use Rattle.fl_nodes.specs.Goes.{Goes}
use Rattle.fl_nodes.specs.Over.{WorldOver}
use Rattle.fl_world.proofs.Reaching.{each_reached}
use Rattle.fl_world.proofs.world.World.job.Goals as goal

pub invariant_of-self : goal.invariant_of-self
invariant_of-self g c =
    each_reached g.K.Keeper.custody _ _ (Happens (event.Job c.args.number c.args.look.desk c.args.look.upto c.args.job.now)) _ c.job.ensures.goes c.self.invariant

pub returns-clause-goes : goal.returns-clause-goes
returns-clause-goes g c =
    subst (λ old. Goes g.K.Keeper.custody old c.job.new.self
    (λ w w'. Step w (event.Job c.args.number c.args.look.desk c.args.look.upto c.args.job.now) c.job.result w'))
    c.self.view_is c.job.ensures.goes

pub returns-clause-nowhere : goal.returns-clause-nowhere
returns-clause-nowhere g c none =
    c.job.ensures.nowhere (ap (λ (w : WorldOver g.row.K.Denot). map.get w.nodes c.args.number) c.self.view_is ∙ none)

pub returns-clause-left : goal.returns-clause-left
returns-clause-left g c is = let same = c.job.ensures.left is in (same.0 ∙ c.self.view_is, same.1)
