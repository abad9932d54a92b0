use Rattle.fl_monitor.specs.parts.Acts.{Relabels}
use Rattle.fl_monitor.proofs.ChangeLemmas.{relabel_refused, relabel_done}
use Rattle.fl_monitor.proofs.relabel.relabel.Goals as goal

pub returns-in_default-clause-relabels : goal.returns-in_default-clause-relabels
returns-in_default-clause-relabels g c = Relabels.too_long c.in_default.is

pub returns-in_err-check_relabel-clause-relabels : goal.returns-in_err-check_relabel-clause-relabels
returns-in_err-check_relabel-clause-relabels g c = relabel_refused (g.V.View.list c.args.view.now) c.args.owned.now c.args.endpoints.now c.args.labels.now c.args.side _ c.args.label.now c.in-Ok.is c.check_relabel.ensures.checked _ c.in_err-check_relabel.was c.from_residual.result c.from_residual.ensures

pub returns-clause-relabels : goal.returns-clause-relabels
returns-clause-relabels g c = relabel_done (g.V.View.list c.args.view.now) c.args.owned.now c.args.endpoints.now c.args.labels.now c.args.side _ c.args.label.now c.in-Ok.is c.check_relabel.ensures.checked _ c.in_ok-check_relabel.was _ c.set_label.ensures
