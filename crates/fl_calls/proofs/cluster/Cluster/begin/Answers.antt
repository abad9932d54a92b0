use Rattle.std.proofs.Common.{ap, refl}
use Rattle.fl_system.specs.WorldSteps.{Step}
use Rattle.fl_nodes.specs.Failing.{FailsIn}
use Rattle.fl_calls.specs.Answer.{replied}
use Rattle.fl_calls.specs.declared.response.Response.TheVariants as response
use Rattle.fl_calls.specs.Calls.{Says}
use Rattle.fl_calls.proofs.Failures.{once_asked, once_refused, says_so}
use Rattle.fl_calls.proofs.Going.{goes_as}
use Rattle.fl_calls.proofs.Opening.{once_open, once_shut}
use Rattle.fl_calls.proofs.cluster.Cluster.begin.Goals as goal

pub returns-in-Ok-clause-goes : goal.returns-in-Ok-clause-goes
returns-in-Ok-clause-goes g c =
    once_open g.M.K.Keeper.custody g.M.MakesKeepers.making _ _ _ _ _ _ _ _
    (λ v. Says replied (Step v c.args.event)) (replied c.step.result) c.self.view_is c.in-Ok.is
    (rw c.number_of.ensures at c.enter.ensures.goes)
    (goes_as g.M.K.Keeper.custody _ _ _ _ (λ w w' done. (c.step.result, refl, done)) c.step.ensures.goes)

pub returns-in-Err-clause-goes : goal.returns-in-Err-clause-goes
returns-in-Err-clause-goes g c =
    rw c.turned_away.ensures
    (once_shut g.M.K.Keeper.custody g.M.MakesKeepers.making _ _ _ _ _
    (λ v. Says replied (Step v c.args.event)) c.in-Err.is (rw c.number_of.ensures at c.enter.ensures.goes))

pub returns-in-Ok-clause-cause : goal.returns-in-Ok-clause-cause
returns-in-Ok-clause-cause g c says =
    once_asked g.M.K.Keeper.custody g.M.MakesKeepers.making _ _ _ _ _ _ _ _ _
    (λ between. FailsIn g.M.K.Keeper.custody between c.step.new.self c.args.event) c.self.view_is c.in-Ok.is
    (rw c.number_of.ensures at c.enter.ensures.goes) (rw c.number_of.ensures at c.enter.ensures.there)
    c.step.ensures.goes (c.step.ensures.cause says)

pub returns-in-Err-clause-cause : goal.returns-in-Err-clause-cause
returns-in-Err-clause-cause g c says =
    once_refused g.M.K.Keeper.custody g.M.MakesKeepers.making _ _ _ _ _ _ _ c.in-Err.is (ap response.Reply c.turned_away.ensures)
    (rw c.number_of.ensures at c.enter.ensures.cause) (says_so _ says)
