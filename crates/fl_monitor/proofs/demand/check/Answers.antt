use Rattle.fl_monitor.specs.parts.Checked.{Checked}
use Rattle.fl_monitor.proofs.demand.check.Goals as goal

pub returns-in-None-clause-checked : goal.returns-in-None-clause-checked
returns-in-None-clause-checked g c = Checked.passed c.in-None.ensures.refuses

pub returns-in-Some-clause-checked : goal.returns-in-Some-clause-checked
returns-in-Some-clause-checked g c = Checked.failed c.in-Some.ensures.refuses
