use Rattle.std.proofs.Common.{ap, Err}
use Rattle.fl_machine.proofs.Coming.{answers_fault, answers_window, none_of, refuses_window}
use Rattle.fl_machine.proofs.packets.bring_window.Goals as goal

pub least_not_ours-requires : goal.least_not_ours-requires
least_not_ours-requires g c = rw c.saved.ensures.saved c.saved.ensures.names

pub returns-in-Some : goal.returns-in-Some
returns-in-Some g c = λ guards bytes brings.
    rw c.refused.ensures (refuses_window g.K.Keeper.custody c.args.node.now c.args.keys.now guards
    bytes c.args.window.now brings c.in-Some.name
    (rw (c.number.ensures.number, c.saved.ensures.saved) at c.in-Some.ensures))

pub returns-in-Ok : goal.returns-in-Ok
returns-in-Ok g c = λ guards bytes brings.
    answers_window g.K.Keeper.custody c.args.node.now c.args.keys.now guards bytes
    c.args.window.now brings (rw (
      c.number.ensures.number,
      c.saved.ensures.saved,
      none_of c.least_not_ours.result c.in_default.not-Some,
    ) at c.least_not_ours.ensures)
    c.in-Ok.packets.items c.told.result c.in-Ok.ensures.ok
    (rw c.deref.ensures.value at (c.told.ensures c.args.node.now.node))

pub returns-in-Err : goal.returns-in-Err
returns-in-Err g c = λ guards bytes brings.
    rw c.refused-in-Err.ensures (answers_fault g.K.Keeper.custody c.args.node.now c.args.keys.now
    guards bytes c.args.window.now brings
    (rw (
      c.number.ensures.number,
      c.saved.ensures.saved,
      none_of c.least_not_ours.result c.in_default.not-Some,
    ) at c.least_not_ours.ensures)
    c.in-Err.fault (λ e. c.in-Err.ensures.cause (ap Err e)) c.in-Err.ensures.err)
