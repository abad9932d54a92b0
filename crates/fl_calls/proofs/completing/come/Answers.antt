use Rattle.fl_calls.proofs.Failures.{none_coming, once_come}
use Rattle.fl_calls.proofs.Messages.{message_comes, other_comes}
use Rattle.fl_calls.proofs.completing.come.Goals as goal

pub returns-then-is_message-clause-goes : goal.returns-then-is_message-clause-goes
returns-then-is_message-clause-goes g c =
    message_comes g.K.Keeper.custody _ _ _ c.args.packet c.args.number _ _ c.arrival-event.ensures c.if-is_message.true c.step.ensures.goes

pub returns-then-is_message-clause-cause : goal.returns-then-is_message-clause-cause
returns-then-is_message-clause-cause g c failed =
    absurd (none_coming g.K.Keeper.custody _ _ _ c.args.packet c.args.number c.arrival-event.ensures (c.step.ensures.cause failed))

pub returns-clause-goes : goal.returns-clause-goes
returns-clause-goes g c =
    other_comes g.K.Keeper.custody _ _ _ c.args.packet c.args.number _ _ c.arrival-event.ensures c.complete.ensures.goes

pub returns-clause-cause : goal.returns-clause-cause
returns-clause-cause g c failed = (
  c.if-is_message.false,
  once_come g.K.Keeper.custody _ _ _ c.args.packet c.args.number c.arrival-event.ensures (c.complete.ensures.cause failed),
)
