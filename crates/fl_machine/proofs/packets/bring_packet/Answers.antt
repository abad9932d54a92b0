use Rattle.std.proofs.Common.{ap}
use Rattle.fl_calls.specs.Calls.{brings_ops}
use Rattle.fl_machine.proofs.Coming.{takes_message, takes_none, takes_ops}
use Rattle.fl_machine.proofs.packets.bring_packet.Goals as goal

pub returns-in-Err : goal.returns-in-Err
returns-in-Err g c = λ guards.
    takes_none g.K.Keeper.custody c.args.node.now c.args.keys.now guards c.args.bytes.now
    c.in-Err.fault c.unread.result c.in-Err.ensures (c.unread.ensures c.args.keys.now
    c.args.node.now.node)

pub returns-in-Have : goal.returns-in-Have
returns-in-Have g c = λ guards.
    c.bring_window.ensures guards c.args.bytes.now (rw c.in-Have.is at c.in-Ok.ensures)

pub returns-in-Full : goal.returns-in-Full
returns-in-Full g c = λ guards.
    takes_ops g.K.Keeper.custody c.args.node.now c.take.new.node c.args.keys.now guards
    c.args.bytes.now c.in-Ok.packet (ap brings_ops c.in-Full.is) c.in-Ok.ensures c.take.result
    c.take.ensures.does c.take.ensures.same c.take.ensures.cause

pub returns-in-Delta : goal.returns-in-Delta
returns-in-Delta g c = λ guards.
    takes_ops g.K.Keeper.custody c.args.node.now c.take-in-Delta.new.node c.args.keys.now guards
    c.args.bytes.now c.in-Ok.packet (ap brings_ops c.in-Delta.is) c.in-Ok.ensures
    c.take-in-Delta.result
    c.take-in-Delta.ensures.does c.take-in-Delta.ensures.same c.take-in-Delta.ensures.cause

pub returns : goal.returns
returns g c = λ guards.
    rw c.arrived.ensures.count (takes_message g.K.Keeper.custody c.args.node.now c.bring.new.node
    c.args.keys.now guards c.args.bytes.now c.in-Data.message c.bring.result c.arrived.result.0
    (rw c.in-Data.is at c.in-Ok.ensures)
    (c.arrived.ensures.shows c.in-Data.message c.args.keys.now c.bring.new.node.node)
    c.bring.ensures.goes c.bring.ensures.same c.bring.ensures.cause)
