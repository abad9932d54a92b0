use Rattle.fl_machine.proofs.Hearing.{hears_line, hears_none}
use Rattle.fl_machine.proofs.asking.respond_to_read.Goals as goal

pub returns-in-Ok : goal.returns-in-Ok
returns-in-Ok g c = rw c.in-Ok.is (λ bytes says.
    hears_line g.K.Keeper.custody c.args.node.now c.args.keys.now c.args.guards c.args.admitted
    bytes c.respond.new.node c.in-Ok.line c.respond.result.0 c.respond.result.1 says c.respond.ensures)

pub returns-in-Err : goal.returns-in-Err
returns-in-Err g c = rw (c.in-Err.is, c.starved.ensures) (λ bytes takes.
    hears_none g.K.Keeper.custody c.args.node.now c.args.keys.now c.args.guards c.args.admitted
    bytes takes)
