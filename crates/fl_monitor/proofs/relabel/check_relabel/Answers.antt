use Rattle.std.proofs.Common.{ap}
use Rattle.fl_monitor.proofs.ChangeLemmas.{change_refused, change_passed}
use Rattle.fl_monitor.proofs.relabel.check_relabel.Goals as goal

pub returns-in_err-check-clause-checked : goal.returns-in_err-check-clause-checked
returns-in_err-check-clause-checked g c = change_refused (g.V.View.list c.args.view.now) c.args.owned.now c.args.endpoints.now c.args.labels.now c.args.side c.args.label.now _ c.label_of-old.ensures c.check.ensures.checked _ c.in_err-check.was c.from_residual.result c.from_residual.ensures

pub returns-clause-checked : goal.returns-clause-checked
returns-clause-checked g c = change_passed (g.V.View.list c.args.view.now) c.args.owned.now c.args.endpoints.now c.args.labels.now c.args.side c.args.label.now _ c.label_of-old.ensures c.check.ensures.checked _ c.in_ok-check.was _ (ap (λ v. g.V.View.list v) c.check.ensures.same) _ c.with_label-as_changed.ensures c.check_endpoints.ensures.checked
