use Rattle.std.proofs.Common.{refl}
use Rattle.fl_monitor.specs.parts.Checked.{Checked}
use Rattle.fl_monitor.proofs.relabel.check_given.Goals as goal

pub returns-in_default-clause-checked : goal.returns-in_default-clause-checked
returns-in_default-clause-checked g c = rw c.in_default.is (Checked.failed refl)

pub returns-clause-checked : goal.returns-clause-checked
returns-clause-checked g c = rw c.in-Ok.is c.check_relabel.ensures.checked
