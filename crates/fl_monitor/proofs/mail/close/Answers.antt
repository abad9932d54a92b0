use Rattle.fl_monitor.proofs.MailLemmas.{none_closed, one_closed}
use Rattle.fl_monitor.proofs.mail.close.Goals as goal

pub returns-in_err-opened_at : goal.returns-in_err-opened_at
returns-in_err-opened_at c = none_closed c.args.mailbox.now c.args.endpoint c.in_err-opened_at.ensures.err.1 _ c.in_err-opened_at.ensures.err.0 c.from_residual.result c.from_residual.ensures

pub returns : goal.returns
returns c = one_closed c.args.mailbox.now c.args.endpoint _ c.in_ok-opened_at.ensures.ok _ c.remove.ensures.after
