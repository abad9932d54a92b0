use Rattle.std.proofs.Common.{subst}
use Rattle.fl_system.specs.declared.event.Event.TheVariants.{Save}
use Rattle.fl_system.specs.WorldSteps.{Step}
use Rattle.fl_calls.specs.Completing.{not_saved, saved}
use Rattle.fl_calls.proofs.Failures.{starves}
use Rattle.fl_calls.proofs.Going.{goes_then, goes_as}
use Rattle.fl_calls.proofs.Finishing.{gives_up}
use Rattle.fl_calls.proofs.completing.finish.Goals as goal

pub returns-then-is_done-clause-goes : goal.returns-then-is_done-clause-goes
returns-then-is_done-clause-goes g c =
    goes_then g.K.Keeper.custody _ _ _ _ _ _
    (λ w v w' first second. saved (subst (λ r. Step w (Save c.args.number) r v) (c.is_done.ensures.yes c.if-is_done.true) first) second)
    c.save-reply.ensures.goes c.publish.ensures.goes

pub returns-then-is_starved-clause-goes : goal.returns-then-is_starved-clause-goes
returns-then-is_starved-clause-goes g c =
    gives_up g.K.Keeper.custody _ _ _ _ _ _ (c.is_starved.ensures.yes c.if-is_starved.true)
    c.save-reply.ensures.goes c.cancel.ensures.goes

pub returns-else-is_starved-clause-goes : goal.returns-else-is_starved-clause-goes
returns-else-is_starved-clause-goes g c =
    goes_as g.K.Keeper.custody _ _ _ _
    (λ w w' step. not_saved (c.is_done.ensures.no c.if-is_done.false) (c.is_starved.ensures.no c.if-is_starved.false) step)
    c.save-reply.ensures.goes

pub returns-then-is_done-clause-cause : goal.returns-then-is_done-clause-cause
returns-then-is_done-clause-cause g c failed = absurd (c.publish.ensures.cause failed)

pub returns-then-is_starved-clause-cause : goal.returns-then-is_starved-clause-cause
returns-then-is_starved-clause-cause g c failed =
    absurd (starves _ (c.is_starved.ensures.yes c.if-is_starved.true) failed)
