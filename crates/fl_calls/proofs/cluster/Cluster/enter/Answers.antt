use Rattle.std.proofs.Common.{sym}
use Rattle.fl_calls.proofs.Failures.{no_error, no_node}
use Rattle.fl_calls.proofs.Opening.{entered_as}
use Rattle.fl_calls.proofs.cluster.Cluster.enter.Goals as goal

pub returns-in-Some-clause-goes : goal.returns-in-Some-clause-goes
returns-in-Some-clause-goes g c =
    rw (← c.self.view_is) (entered_as g.M.K.Keeper.custody g.M.MakesKeepers.making
    _ _ _ (sym (rw c.in-Some.is at c.node.ensures)))

pub returns-in-Some-clause-cause : goal.returns-in-Some-clause-cause
returns-in-Some-clause-cause g c failed = absurd (no_error tt failed)

pub returns-in-None-clause-there : goal.returns-in-None-clause-there
returns-in-None-clause-there g c n at =
    absurd (no_node _ n (rw (← c.self.view_is) (sym (rw c.in-None.is at c.node.ensures))) at)

pub returns-in-None-clause-cause : goal.returns-in-None-clause-cause
returns-in-None-clause-cause g c failed = (
  rw (← c.self.view_is) (sym (rw c.in-None.is at c.node.ensures)),
  c.open.ensures.cause failed,
)
