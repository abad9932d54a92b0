use Rattle.fl_ops.specs.Registry.{Listed}
use Rattle.fl_rules.specs.Labels.{sets_of}
use Rattle.fl_monitor.proofs.CheckLemmas.{err_is, has_passed}
use Rattle.fl_monitor.proofs.MailLemmas.{one_unsafe}
use Rattle.fl_monitor.proofs.mail.check_open.Goals as goal

pub returns-in_err-check-clause-err : goal.returns-in_err-check-clause-err
returns-in_err-check-clause-err g c = err_is _ _ (one_unsafe (Listed (g.V.View.list c.args.view.now)) c.args.owned.now (sets_of c.args.process) c.args.endpoints.now c.args.mode (sets_of c.args.labels) _ c.in-Some.ensures c.check.ensures.checked _ c.in_err-check.was) c.from_residual.result c.from_residual.ensures

pub returns-clause-ok : goal.returns-clause-ok
returns-clause-ok g c = (c.in-Some.ensures, has_passed c.check.ensures.checked _ c.in_ok-check.was)
