use Rattle.std.proofs.Common.{ap}
use Rattle.fl_calls.specs.Calls.{brings_ops}
use Rattle.fl_machine.proofs.Coming.{begins_no_ops, begins_none, begins_ops, no_ops}
use Rattle.fl_machine.proofs.packets.begin_to_bring.Goals as goal

pub returns-in-Err : goal.returns-in-Err
returns-in-Err g c = λ guards.
    begins_none g.K.Keeper.custody c.args.node.now c.args.keys.now guards c.args.bytes.now
    c.in-Err.fault c.unread.result c.in-Err.ensures (c.unread.ensures c.args.keys.now
    c.args.node.now.node)

pub returns-in-Full : goal.returns-in-Full
returns-in-Full g c = λ guards.
    begins_ops g.K.Keeper.custody c.args.node.now c.receive.new.node c.args.keys.now guards
    c.args.bytes.now c.in-Ok.packet (ap brings_ops c.in-Full.is) c.in-Ok.ensures c.receive.result
    c.receive.ensures.goes c.receive.ensures.same c.receive.ensures.cause

pub returns-in-Delta : goal.returns-in-Delta
returns-in-Delta g c = λ guards.
    begins_ops g.K.Keeper.custody c.args.node.now c.receive-in-Delta.new.node c.args.keys.now guards
    c.args.bytes.now c.in-Ok.packet (ap brings_ops c.in-Delta.is) c.in-Ok.ensures
    c.receive-in-Delta.result
    c.receive-in-Delta.ensures.goes c.receive-in-Delta.ensures.same
    c.receive-in-Delta.ensures.cause

pub returns : goal.returns
returns g c = λ guards.
    begins_no_ops g.K.Keeper.custody c.args.node.now c.args.keys.now guards c.args.bytes.now
    c.in-Ok.packet c.in-Ok.ensures (no_ops c.in-Ok.packet c.in-Have.is)
