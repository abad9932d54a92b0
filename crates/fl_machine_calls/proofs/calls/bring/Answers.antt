use Rattle.std.proofs.Common.{refl}
use Rattle.fl_system.specs.Arrives.{Arrives}
use Rattle.fl_machine_calls.proofs.Alone.{arrives, dropped, no_copy}
use Rattle.fl_machine_calls.proofs.calls.bring.Goals as goal

pub returns-in-Err-clause-goes : goal.returns-in-Err-clause-goes
returns-in-Err-clause-goes g c =
    dropped g.K.Keeper.custody c.args.node.now c.args.node.now c.args.message.now c.in-Err.fault
    refl (Arrives.stopped c.in-Err.ensures.err)

pub returns-in_default-copied-clause-goes : goal.returns-in_default-copied-clause-goes
returns-in_default-copied-clause-goes g c =
    no_copy g.K.Keeper.custody c.args.node.now c.args.message.now c.in_default.ensures.ok

pub returns-in-Ok-arrive-clause-goes : goal.returns-in-Ok-arrive-clause-goes
returns-in-Ok-arrive-clause-goes g c =
    arrives g.K.Keeper.custody c.args.node.now c.arrive.new.self c.args.message.now
    c.in-Ok-arrive.reply c.in-Ok-arrive.ensures.keeper
    (rw c.in-Ok.ensures at c.in-Ok-arrive.ensures.arrives)

pub returns-in-Err-arrive-clause-goes : goal.returns-in-Err-arrive-clause-goes
returns-in-Err-arrive-clause-goes g c =
    dropped g.K.Keeper.custody c.args.node.now c.arrive.new.self c.args.message.now
    c.in-Err-arrive.fault c.in-Err-arrive.ensures.keeper
    (rw c.in-Ok.ensures at c.in-Err-arrive.ensures.arrives)
