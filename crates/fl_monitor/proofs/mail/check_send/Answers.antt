use Rattle.std.proofs.Common.{◌∙◌, sym}
use Rattle.fl_labels.specs.SetBy.{In}
use Rattle.fl_ops.specs.Registry.{InEffect, Listed}
use Rattle.fl_monitor.proofs.CheckLemmas.{err_is}
use Rattle.fl_monitor.proofs.MailLemmas.{ungranted}
use Rattle.fl_monitor.proofs.mail.check_send.Goals as goal

pub returns-in_err-check-clause-err : goal.returns-in_err-check-clause-err
returns-in_err-check-clause-err g c = err_is _ _ (ungranted (InEffect (Listed (g.V.View.list c.args.view.now)) (In c.args.owned.now)) c.args.endpoints.now c.args.from c.args.caps.now _ c.in_ok-opened.ensures.ok (sym c.if-not-writes.false ∙ c.writes.ensures) c.check.ensures.checked _ c.in_err-check.was) c.from_residual-in_err-check.result c.from_residual-in_err-check.ensures
