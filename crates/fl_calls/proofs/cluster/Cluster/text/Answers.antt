use Rattle.std.proofs.Common.{subst}
use Rattle.fl_calls.specs.Calls.{Tells}
use Rattle.fl_calls.specs.Failing.{SaysFailed}
use Rattle.fl_calls.proofs.Failures.{once_refused}
use Rattle.fl_calls.proofs.Bringing.{told, told_why}
use Rattle.fl_calls.proofs.cluster.Cluster.text.Goals as goal
use Rattle.fl_calls.proofs.cluster.Cluster.text.Goals.{in-Ok, in-Err}

pub returns-clause-goes : goal.returns-clause-goes
returns-clause-goes g c = elim c.match-enter.branch [
  | in-Ok w ↦ told g.M.K.Keeper.custody g.M.MakesKeepers.making _ _ _ _ _ _ _
      (λ v. Tells v c.args.number) _ _ c.self.view_is w.in-Ok.is w.result-is c.enter.ensures.goes
      (λ x s may at. w.tell.ensures.tells x s may at)
  | in-Err w ↦ told_why g.M.K.Keeper.custody g.M.MakesKeepers.making _ _ _ _ _
      (λ v. Tells v c.args.number) _ _ w.in-Err.is w.result-is w.shut.ensures c.enter.ensures.goes
]

pub returns-clause-cause : goal.returns-clause-cause
returns-clause-cause g c says = elim c.match-enter.branch [
  | in-Ok w ↦ absurd (w.tell.ensures.cause (subst SaysFailed w.result-is says))
  | in-Err w ↦ once_refused g.M.K.Keeper.custody g.M.MakesKeepers.making _ _ _ _ _ _ _ w.in-Err.is w.shut.ensures
      c.enter.ensures.cause (subst SaysFailed w.result-is says)
]
