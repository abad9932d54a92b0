use Rattle.fl_store.specs.Breaking.{IsLeftBroken}
use Rattle.fl_calls.proofs.Failures.{not_joined, not_made}
use Rattle.fl_calls.proofs.Going.{unmade, joins_or_not}
use Rattle.fl_calls.proofs.Opening.{no_more_then, opens_as, out_still}
use Rattle.fl_calls.proofs.cluster.Cluster.open.Goals as goal

pub returns-in-Ok-clause-goes : goal.returns-in-Ok-clause-goes
returns-in-Ok-clause-goes g c =
    opens_as g.M.K.Keeper.custody g.M.MakesKeepers.making _ _ _ _ _ _ _
    c.self.view_is
    (joins_or_not g.M.K.Keeper.custody g.M.MakesKeepers.making _ c.outcome.new.maker (λ left. IsLeftBroken g.M.K.Keeper.custody c.in-Ok.keeper left) _ _ _ _ c.in-Ok.keeper _ _
    (rw (← c.self.view_is) at c.requires.absent) (rw c.in-Ok.is at c.make.ensures.makes)
    (rw c.in-Ok.is at c.make.ensures.made) (rw c.in-Ok.is at c.make.ensures.fails)
    (out_still g.M.K.Keeper.custody g.M.MakesKeepers.making _ _ _ c.outcome.ensures.same
    (rw c.in-Ok.is at c.make.ensures.out))
    c.outcome.ensures.ok c.outcome.ensures.err c.join-joined.ensures.joins c.join-joined.ensures.refused c.join-joined.ensures.cause
    c.join-joined.ensures.same)
    (no_more_then g.M.K.Keeper.custody g.M.MakesKeepers.making _ _ _ c.make.ensures.same
    c.outcome.ensures.same)

pub returns-in-Err-clause-goes : goal.returns-in-Err-clause-goes
returns-in-Err-clause-goes g c =
    opens_as g.M.K.Keeper.custody g.M.MakesKeepers.making _ _ _ _ _ _ _
    c.self.view_is
    (unmade g.M.K.Keeper.custody _ _ _ _ _ _ (rw (← c.self.view_is) at c.requires.absent)
    (g.M.MakesKeepers.told _ _ _ (rw c.in-Err.is at c.make.ensures.why)))
    c.make.ensures.same

pub returns-in-Ok-clause-cause : goal.returns-in-Ok-clause-cause
returns-in-Ok-clause-cause g c =
    rw (← c.self.view_is) (not_joined g.M.K.Keeper.custody (λ left. IsLeftBroken g.M.K.Keeper.custody c.in-Ok.keeper left) _ _ _ _
    (rw c.in-Ok.is at c.make.ensures.fails) c.outcome.ensures.ok c.outcome.ensures.err c.join-joined.ensures.cause)

pub returns-in-Err-clause-cause : goal.returns-in-Err-clause-cause
returns-in-Err-clause-cause g c =
    rw (← c.self.view_is) (not_made (g.M.MakesKeepers.making.refuses _ c.args.number) _
    (g.M.MakesKeepers.told _ _ _ (rw c.in-Err.is at c.make.ensures.why)))
