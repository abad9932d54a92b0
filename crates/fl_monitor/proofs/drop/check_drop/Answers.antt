use Rattle.fl_rules.specs.Labels.{sets_of}
use Rattle.fl_monitor.proofs.ChangeLemmas.{drop_not_owned, drop_looked}
use Rattle.fl_monitor.proofs.drop.check_drop.Goals as goal

pub returns-in_err-check_owned-clause-checked : goal.returns-in_err-check_owned-clause-checked
returns-in_err-check_owned-clause-checked g c = drop_not_owned _ (sets_of c.args.labels) c.args.endpoints.now c.args.owned.now c.args.cap (rw c.caps.ensures at c.check_owned.ensures) _ c.in_err-check_owned.was c.from_residual.result c.from_residual.ensures

pub returns-clause-checked : goal.returns-clause-checked
returns-clause-checked g c = drop_looked _ (sets_of c.args.labels) c.args.endpoints.now c.args.owned.now c.args.cap (rw c.caps.ensures at c.check_owned.ensures) _ c.in_ok-check_owned.was c.consider.ensures.checked
