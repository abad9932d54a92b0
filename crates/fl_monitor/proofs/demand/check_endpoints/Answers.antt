use Rattle.fl_labels.specs.SetBy.{In}
use Rattle.fl_ops.specs.Registry.{InEffect, Listed}
use Rattle.fl_rules.specs.Labels.{sets_of}
use Rattle.fl_monitor.specs.parts.Checked.{Checked}
use Rattle.fl_monitor.proofs.CheckLemmas.{nothing_open}
use Rattle.fl_monitor.proofs.demand.check_endpoints.Goals as goal

pub returns-then-is_empty-clause-checked : goal.returns-then-is_empty-clause-checked
returns-then-is_empty-clause-checked g c =
    Checked.passed (nothing_open (InEffect (Listed (g.V.View.list c.args.view.now)) (In c.args.owned.now)) (sets_of c.args.labels) c.args.endpoints.now (c.is_empty.ensures.none c.if-is_empty.true))
