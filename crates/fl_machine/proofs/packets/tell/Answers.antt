use Rattle.std.proofs.Common.{ap, Err}
use Rattle.fl_machine_model.specs.Acts.{Tell}
use Rattle.fl_machine.proofs.Lines.{sends_act, refuses_act}
use Rattle.fl_machine.proofs.packets.tell.Goals as goal

pub returns-in-Ok : goal.returns-in-Ok
returns-in-Ok g c =
    sends_act g.K.Keeper.custody c.args.node.now c.args.keys.now Tell c.in-Ok.packets.items
    c.told.result
    (rw c.deref.ensures.value at (c.told.ensures c.args.node.now.node)) c.in-Ok.ensures.ok

pub returns-in-Err : goal.returns-in-Err
returns-in-Err g c =
    rw c.refused.ensures (refuses_act g.K.Keeper.custody c.args.node.now c.args.keys.now Tell
    c.in-Err.fault (λ e. c.in-Err.ensures.cause (ap Err e)) c.in-Err.ensures.err)
