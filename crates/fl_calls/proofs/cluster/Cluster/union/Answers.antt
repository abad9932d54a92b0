use Rattle.std.proofs.Common.{subst}
use Rattle.fl_calls.specs.Calls.{Unites}
use Rattle.fl_calls.specs.Failing.{SaysFailed}
use Rattle.fl_calls.proofs.Failures.{once_in, once_refused}
use Rattle.fl_calls.proofs.Bringing.{told_both, told_why_first, told_why_second}
use Rattle.fl_calls.proofs.cluster.Cluster.union.Goals as goal
use Rattle.fl_calls.proofs.cluster.Cluster.union.Goals.{in-Ok-enter, in-Err-enter}

pub returns-after-enter-2-clause-goes : goal.returns-after-enter-2-clause-goes
returns-after-enter-2-clause-goes g c = elim c.match-enter-2.branch [
  | in-Ok-enter w ↦ told_both g.M.K.Keeper.custody g.M.MakesKeepers.making _ _ _ _ _ _ _ _ _ _ _
      (λ v. Unites v c.args.first c.args.second) _ _ c.self.view_is c.in-Ok.is w.in-Ok-enter.is w.result-is c.enter.ensures.goes
      c.enter-in-Ok.ensures.goes (λ x s t may at next. w.unite.ensures.unites x s t may at next)
  | in-Err-enter w ↦ told_why_second g.M.K.Keeper.custody g.M.MakesKeepers.making _ _ _ _ _ _ _ _ _
      (λ v. Unites v c.args.first c.args.second) _ _ c.in-Ok.is w.in-Err-enter.is w.result-is w.shut.ensures c.enter.ensures.goes
      c.enter-in-Ok.ensures.goes
]

pub returns-in-Err-clause-goes : goal.returns-in-Err-clause-goes
returns-in-Err-clause-goes g c =
    told_why_first g.M.K.Keeper.custody g.M.MakesKeepers.making _ _ _ c.args.second _ _
    (λ v. Unites v c.args.first c.args.second) _ c.in-Err.is c.shut-in-Err.ensures c.enter.ensures.goes

pub returns-after-enter-2-clause-cause : goal.returns-after-enter-2-clause-cause
returns-after-enter-2-clause-cause g c says = elim c.match-enter-2.branch [
  | in-Ok-enter w ↦ absurd (w.unite.ensures.cause (subst SaysFailed w.result-is says))
  | in-Err-enter w ↦ once_in g.M.K.Keeper.custody g.M.MakesKeepers.making _ _ _ _ _ _ _ c.in-Ok.is c.enter.ensures.goes
      c.enter.ensures.there c.enter-in-Ok.ensures.goes.goes.honest
      (once_refused g.M.K.Keeper.custody g.M.MakesKeepers.making _ _ _ _ _ _ _ w.in-Err-enter.is w.shut.ensures
      c.enter-in-Ok.ensures.cause (subst SaysFailed w.result-is says))
]

pub returns-in-Err-clause-cause : goal.returns-in-Err-clause-cause
returns-in-Err-clause-cause g c =
    once_refused g.M.K.Keeper.custody g.M.MakesKeepers.making _ _ _ _ _ _ _ c.in-Err.is c.shut-in-Err.ensures c.enter.ensures.cause
