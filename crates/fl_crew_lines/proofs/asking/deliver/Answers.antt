use Rattle.fl_crew_lines.proofs.Bringing.{delivered}
use Rattle.fl_crew_lines.proofs.asking.deliver.Goals as goal

pub returns : goal.returns
returns g c =
    delivered g.M.K.Keeper.custody c.args.crews.now c.bring-reply.new.crews c.args.number c.args.packet c.in-Some.sent.now
    c.is_message-is_message.result c.bring-reply.result c.coming.result c.in-Some.ensures c.is_message-is_message.ensures c.coming.ensures
    (c.bring-reply.ensures _ c.in-Some.ensures)
