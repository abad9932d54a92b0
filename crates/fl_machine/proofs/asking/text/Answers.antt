use Rattle.fl_machine.proofs.Lines.{tells_no_text, tells_text}
use Rattle.fl_machine.proofs.asking.text.Goals as goal

pub returns-in-Ok : goal.returns-in-Ok
returns-in-Ok g c = λ keys.
    tells_text g.K.Keeper.custody c.args.node.now keys c.in-Ok.ensures.ok

pub returns-in-Err : goal.returns-in-Err
returns-in-Err g c = λ keys.
    rw c.refused.ensures (tells_no_text g.K.Keeper.custody c.args.node.now keys c.in-Err.fault
    c.in-Err.ensures.err)
