use Rattle.fl_rules.specs.Labels.{sets_of}
use Rattle.fl_monitor.proofs.ChangeLemmas.{not_owned, kept_for_endpoints, gone_safely}
use Rattle.fl_monitor.proofs.drop.drop_cap.Goals as goal

pub returns-in_err-check_owned-clause-drops : goal.returns-in_err-check_owned-clause-drops
returns-in_err-check_owned-clause-drops g c = not_owned _ (sets_of c.args.labels) c.args.endpoints.now c.args.owned.now c.args.cap (rw c.caps.ensures at c.check_owned.ensures) _ c.in_err-check_owned.was c.from_residual.result c.from_residual.ensures

pub returns-in_err-take-clause-drops : goal.returns-in_err-take-clause-drops
returns-in_err-take-clause-drops g c = kept_for_endpoints _ (sets_of c.args.labels) c.args.endpoints.now c.args.owned.now c.args.cap (rw c.caps.ensures at c.check_owned.ensures) _ c.in_ok-check_owned.was c.take.ensures.checked _ c.in_err-take.was _ c.in_err-take.ensures.err c.from_residual-in_err-take.result c.from_residual-in_err-take.ensures

pub returns-clause-drops : goal.returns-clause-drops
returns-clause-drops g c = gone_safely _ (sets_of c.args.labels) c.args.endpoints.now c.args.owned.now c.args.cap (rw c.caps.ensures at c.check_owned.ensures) _ c.in_ok-check_owned.was c.take.ensures.checked _ c.in_ok-take.was _ c.in_ok-take.ensures.ok
