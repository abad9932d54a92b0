use Rattle.fl_machine.proofs.Coming.{checks_none, checks_not, checks_some}
use Rattle.fl_machine.proofs.packets.check.Goals as goal

pub returns-in-Err : goal.returns-in-Err
returns-in-Err g c = λ guards.
    checks_none g.K.Keeper.custody c.args.node.now c.args.keys.now guards c.args.bytes.now
    c.in-Err.fault c.unread.result c.in-Err.ensures (c.unread.ensures c.args.keys.now
    c.args.node.now.node)

pub returns-in-Ok-check : goal.returns-in-Ok-check
returns-in-Ok-check g c = λ guards.
    rw c.counted.ensures (checks_some g.K.Keeper.custody c.args.node.now c.args.keys.now guards
    c.args.bytes.now c.in-Ok.packet c.in-Ok-check.count c.in-Ok.ensures c.in-Ok-check.ensures)

pub returns : goal.returns
returns g c = λ guards.
    rw c.refused.ensures (checks_not g.K.Keeper.custody c.args.node.now c.args.keys.now guards
    c.args.bytes.now c.in-Ok.packet c.in-Err-check.fault c.in-Ok.ensures c.in-Err-check.ensures)
