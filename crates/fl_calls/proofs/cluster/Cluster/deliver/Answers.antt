use Rattle.std.proofs.Common.{subst}
use Rattle.fl_nodes.specs.Failing.{IsBrokenAt}
use Rattle.fl_calls.specs.Failing.{SaysFailed}
use Rattle.fl_calls.proofs.Failures.{drops, no_drop, once_asked, once_refused, says_coming, says_unknown}
use Rattle.fl_calls.proofs.Bringing.{not_delivered, delivered, not_come}
use Rattle.fl_calls.proofs.cluster.Cluster.deliver.Goals as goal

pub returns-in_default-clause-goes : goal.returns-in_default-clause-goes
returns-in_default-clause-goes g c =
    not_delivered g.M.K.Keeper.custody g.M.MakesKeepers.making _ _ _ (rw c.in_default.is at c.packet.ensures)

pub returns-in-Ok-clause-goes : goal.returns-in-Ok-clause-goes
returns-in-Ok-clause-goes g c =
    delivered g.M.K.Keeper.custody g.M.MakesKeepers.making _ _ _ _ _ _ _ _ _
    c.in-Some.sent.now _ _ _ c.self.view_is c.in-Ok.is (rw c.in-Some.is at c.packet.ensures) c.is_message-is_message.ensures
    c.coming.ensures c.enter.ensures.goes c.come-reply.ensures.goes

pub returns-in-Err-clause-goes : goal.returns-in-Err-clause-goes
returns-in-Err-clause-goes g c =
    not_come g.M.K.Keeper.custody g.M.MakesKeepers.making _ _ _ _ _ _ c.in-Some.sent.now _
    c.in-Err.is (rw c.in-Some.is at c.packet.ensures) c.shut.ensures c.enter.ensures.goes

pub returns-in_default-clause-cause : goal.returns-in_default-clause-cause
returns-in_default-clause-cause g c says = absurd (says_unknown says)

pub returns-in-Ok-clause-cause : goal.returns-in-Ok-clause-cause
returns-in-Ok-clause-cause g c says =
    once_asked g.M.K.Keeper.custody g.M.MakesKeepers.making _ _ _ _ _ _ _ _ _
    (λ between. IsBrokenAt g.M.K.Keeper.custody c.come-reply.new.world c.args.number) c.self.view_is c.in-Ok.is
    c.enter.ensures.goes c.enter.ensures.there c.come-reply.ensures.goes
    (c.come-reply.ensures.cause (says_coming _ _ (subst SaysFailed c.coming.ensures says))).1

pub returns-in-Err-clause-cause : goal.returns-in-Err-clause-cause
returns-in-Err-clause-cause g c =
    once_refused g.M.K.Keeper.custody g.M.MakesKeepers.making _ _ _ _ _ _ _ c.in-Err.is c.shut.ensures c.enter.ensures.cause

pub returns-in-Ok-clause-dropped : goal.returns-in-Ok-clause-dropped
returns-in-Ok-clause-dropped g c =
    rw c.coming.ensures (drops _ _ (λ failed. (c.come-reply.ensures.cause failed).0))

pub returns-in-Err-clause-dropped : goal.returns-in-Err-clause-dropped
returns-in-Err-clause-dropped g c = rw c.shut.ensures (no_drop _ _)
