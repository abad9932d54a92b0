use Rattle.std.proofs.Common.{refl, Some, None}
use Rattle.fl_ops.specs.Registry.{Listed}
use Rattle.fl_rules.specs.Labels.{sets_of}
use Rattle.fl_monitor.proofs.MailLemmas.{closes, closes_nowhere, mail_passes, mail_stops, opens_as, opens_too_long, tunes_too_long}
use Rattle.fl_monitor.proofs.mail.check_mail.Goals as goal

pub returns-in_err-lent-in-Open-clause-checked : goal.returns-in_err-lent-in-Open-clause-checked
returns-in_err-lent-in-Open-clause-checked g c =
    mail_stops (Listed (g.V.View.list c.args.view.now)) c.args.owned.now (sets_of c.args.process) c.args.mailbox.now c.args.mail.now _ c.in-Open.is _
    (opens_too_long (Listed (g.V.View.list c.args.view.now)) c.args.owned.now (sets_of c.args.process) c.args.mailbox.now _ _ (rw c.deref.ensures at c.in_err-lent-in-Open.ensures.err.1) _ c.in_err-lent-in-Open.ensures.err.0)
    c.from_residual.result c.from_residual.ensures

pub returns-in_err-check_open-in-Open-clause-checked : goal.returns-in_err-check_open-in-Open-clause-checked
returns-in_err-check_open-in-Open-clause-checked g c =
    mail_stops (Listed (g.V.View.list c.args.view.now)) c.args.owned.now (sets_of c.args.process) c.args.mailbox.now c.args.mail.now _ c.in-Open.is _
    (opens_as (Listed (g.V.View.list c.args.view.now)) c.args.owned.now (sets_of c.args.process) c.args.mailbox.now _ _ (rw c.deref.ensures at c.in_ok-lent-in-Open.ensures.ok) _ (Some _) c.in_err-check_open-in-Open.ensures.err)
    c.from_residual-in_err-check_open-in-Open.result c.from_residual-in_err-check_open-in-Open.ensures

pub returns-in_ok-check_open-in-Open-clause-checked : goal.returns-in_ok-check_open-in-Open-clause-checked
returns-in_ok-check_open-in-Open-clause-checked g c =
    mail_passes (Listed (g.V.View.list c.args.view.now)) c.args.owned.now (sets_of c.args.process) c.args.mailbox.now c.args.mail.now _ c.in-Open.is
    (opens_as (Listed (g.V.View.list c.args.view.now)) c.args.owned.now (sets_of c.args.process) c.args.mailbox.now _ _ (rw c.deref.ensures at c.in_ok-lent-in-Open.ensures.ok) _ None (Some _, c.in_ok-check_open-in-Open.ensures.ok.0, c.in_ok-check_open-in-Open.ensures.ok.1))

pub returns-in_err-lent-in-Tune-clause-checked : goal.returns-in_err-lent-in-Tune-clause-checked
returns-in_err-lent-in-Tune-clause-checked g c =
    mail_stops (Listed (g.V.View.list c.args.view.now)) c.args.owned.now (sets_of c.args.process) c.args.mailbox.now c.args.mail.now _ c.in-Tune.is _
    (tunes_too_long (Listed (g.V.View.list c.args.view.now)) c.args.owned.now (sets_of c.args.process) c.args.mailbox.now _ _ (rw c.deref-in-Tune.ensures at c.in_err-lent-in-Tune.ensures.err.1) _ c.in_err-lent-in-Tune.ensures.err.0)
    c.from_residual-in_err-lent-in-Tune.result c.from_residual-in_err-lent-in-Tune.ensures

pub returns-in_err-opened_at-in-Close-clause-checked : goal.returns-in_err-opened_at-in-Close-clause-checked
returns-in_err-opened_at-in-Close-clause-checked g c =
    mail_stops (Listed (g.V.View.list c.args.view.now)) c.args.owned.now (sets_of c.args.process) c.args.mailbox.now c.args.mail.now _ c.in-Close.is _
    (closes_nowhere (Listed (g.V.View.list c.args.view.now)) c.args.owned.now (sets_of c.args.process) c.args.mailbox.now _ c.in_err-opened_at-in-Close.ensures.err.1 _ c.in_err-opened_at-in-Close.ensures.err.0)
    c.from_residual-in_err-opened_at-in-Close.result c.from_residual-in_err-opened_at-in-Close.ensures

pub returns-in_ok-opened_at-in-Close-clause-checked : goal.returns-in_ok-opened_at-in-Close-clause-checked
returns-in_ok-opened_at-in-Close-clause-checked g c =
    mail_passes (Listed (g.V.View.list c.args.view.now)) c.args.owned.now (sets_of c.args.process) c.args.mailbox.now c.args.mail.now _ c.in-Close.is
    (closes (Listed (g.V.View.list c.args.view.now)) c.args.owned.now (sets_of c.args.process) c.args.mailbox.now _ _ c.in_ok-opened_at-in-Close.ensures.ok)

pub returns-in_err-check_send-in-Send-clause-checked : goal.returns-in_err-check_send-in-Send-clause-checked
returns-in_err-check_send-in-Send-clause-checked g c =
    mail_stops (Listed (g.V.View.list c.args.view.now)) c.args.owned.now (sets_of c.args.process) c.args.mailbox.now c.args.mail.now _ c.in-Send.is _
    (rw c.deref-in-Send.ensures at c.in_err-check_send-in-Send.ensures.err)
    c.from_residual-in_err-check_send-in-Send.result c.from_residual-in_err-check_send-in-Send.ensures

pub returns-in_ok-check_send-in-Send-clause-checked : goal.returns-in_ok-check_send-in-Send-clause-checked
returns-in_ok-check_send-in-Send-clause-checked g c =
    mail_passes (Listed (g.V.View.list c.args.view.now)) c.args.owned.now (sets_of c.args.process) c.args.mailbox.now c.args.mail.now _ c.in-Send.is
    (rw c.deref-in-Send.ensures at c.in_ok-check_send-in-Send.ensures.ok.1)

pub returns-in-Take-clause-checked : goal.returns-in-Take-clause-checked
returns-in-Take-clause-checked g c =
    mail_passes (Listed (g.V.View.list c.args.view.now)) c.args.owned.now (sets_of c.args.process) c.args.mailbox.now c.args.mail.now _ c.in-Take.is
    (refl)
