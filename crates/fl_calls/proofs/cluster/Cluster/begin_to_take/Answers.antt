use Rattle.fl_calls.proofs.Failures.{none_coming, once_refused, says_reply, says_unknown}
use Rattle.fl_calls.proofs.Bringing.{not_taken, no_ops, taken, not_begun}
use Rattle.fl_calls.proofs.cluster.Cluster.begin_to_take.Goals as goal

pub returns-in_default-clause-goes : goal.returns-in_default-clause-goes
returns-in_default-clause-goes g c =
    not_taken g.M.K.Keeper.custody g.M.MakesKeepers.making _ _ _ (rw c.in_default.is at c.packet.ensures)

pub returns-then-not-brings_ops-clause-goes : goal.returns-then-not-brings_ops-clause-goes
returns-then-not-brings_ops-clause-goes g c =
    no_ops g.M.K.Keeper.custody g.M.MakesKeepers.making _ _ _
    c.in-Some.sent.now _ (rw c.in-Some.is at c.packet.ensures) c.brings_ops.ensures c.if-not-brings_ops.true

pub returns-in-Ok-clause-goes : goal.returns-in-Ok-clause-goes
returns-in-Ok-clause-goes g c =
    taken g.M.K.Keeper.custody g.M.MakesKeepers.making _ _ _ _ _ _ _ _ _
    c.in-Some.sent.now _ _ _ c.self.view_is c.in-Ok.is (rw c.in-Some.is at c.packet.ensures) c.brings_ops.ensures
    c.if-not-brings_ops.false c.arrival.ensures c.enter.ensures.goes c.step.ensures.goes

pub returns-in-Err-clause-goes : goal.returns-in-Err-clause-goes
returns-in-Err-clause-goes g c =
    not_begun g.M.K.Keeper.custody g.M.MakesKeepers.making _ _ _ _ _ _ c.in-Some.sent.now _ _
    c.in-Err.is (rw c.in-Some.is at c.packet.ensures) c.brings_ops.ensures c.if-not-brings_ops.false c.shut.ensures c.enter.ensures.goes

pub returns-in_default-clause-cause : goal.returns-in_default-clause-cause
returns-in_default-clause-cause g c says = absurd (says_unknown says)

pub returns-then-not-brings_ops-clause-cause : goal.returns-then-not-brings_ops-clause-cause
returns-then-not-brings_ops-clause-cause g c says = absurd (says_unknown says)

pub returns-in-Ok-clause-cause : goal.returns-in-Ok-clause-cause
returns-in-Ok-clause-cause g c says =
    absurd (none_coming g.M.K.Keeper.custody _ _ _ _ _ c.arrival.ensures (c.step.ensures.cause (says_reply _ says)))

pub returns-in-Err-clause-cause : goal.returns-in-Err-clause-cause
returns-in-Err-clause-cause g c =
    once_refused g.M.K.Keeper.custody g.M.MakesKeepers.making _ _ _ _ _ _ _ c.in-Err.is c.shut.ensures c.enter.ensures.cause
