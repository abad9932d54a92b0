use Rattle.fl_machine.proofs.Starting.{started}
use Rattle.fl_machine.proofs.session.Session.open.Goals as goal

pub returns-in-Ok-clause-started : goal.returns-in-Ok-clause-started
returns-in-Ok-clause-started g c =
    started g.K.Keeper.custody c.args.keeper c.in-Ok.node c.args.number c.args.keys.items
    c.args.guards c.in-Ok.ensures.number c.in-Ok.ensures.ok
