use Rattle.fl_ops.specs.Registry.{Listed}
use Rattle.fl_rules.specs.Labels.{sets_of}
use Rattle.fl_monitor.proofs.MailLemmas.{none_tuned}
use Rattle.fl_monitor.proofs.mail.check_tune.Goals as goal

pub returns-in_err-opened-clause-checked : goal.returns-in_err-opened-clause-checked
returns-in_err-opened-clause-checked g c = none_tuned (Listed (g.V.View.list c.args.view.now)) c.args.owned.now (sets_of c.args.process) c.args.endpoints.now c.args.endpoint (sets_of c.args.labels) c.in_err-opened.ensures.err.1 _ c.in_err-opened.ensures.err.0 c.from_residual.result c.from_residual.ensures
