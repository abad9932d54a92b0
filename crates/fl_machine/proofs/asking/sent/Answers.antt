use Rattle.std.proofs.Common.{refl}
use Rattle.fl_machine.specs.Shown.{Shows}
use Rattle.fl_machine.specs.parts.Responding.{ShowsSaying}
use Rattle.fl_machine.proofs.asking.sent.Goals as goal

pub returns-in-Ok : goal.returns-in-Ok
returns-in-Ok c = λ n.
    ShowsSaying.as_said (Shows.sent (rw c.into_inner.ensures at c.in-Ok.ensures))

pub returns : goal.returns
returns c = λ n. rw c.starved.ensures (ShowsSaying.no_room refl)
