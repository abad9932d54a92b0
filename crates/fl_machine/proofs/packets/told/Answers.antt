use Rattle.fl_machine.specs.Shown.{Shows}
use Rattle.fl_machine.specs.parts.Responding.{ShowsSaying}
use Rattle.fl_machine.proofs.Coming.{told_no_room}
use Rattle.fl_machine.proofs.packets.told.Goals as goal

pub returns-in-Ok : goal.returns-in-Ok
returns-in-Ok c = λ n. ShowsSaying.as_said (Shows.told c.in-Ok.ensures.ok)

pub returns-in-Err : goal.returns-in-Err
returns-in-Err c = λ n.
    rw c.starved.ensures (told_no_room c.args.packets.now c.in-Err.ensures.wants)
