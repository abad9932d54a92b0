use Rattle.fl_monitor.proofs.MailLemmas.{send_refused, send_starved, send_done}
use Rattle.fl_monitor.proofs.mail.send.Goals as goal

pub returns-in_err-opened-clause-mails : goal.returns-in_err-opened-clause-mails
returns-in_err-opened-clause-mails g c = λ process. send_refused _ _ process c.args.route.sender c.args.mailbox.now c.args.route.from c.args.route.receiver c.args.route.to c.args.message _ c.deref.ensures _ c.in_err-opened.ensures.err c.from_residual.result c.from_residual.ensures

pub returns-in-Ok-clause-mails : goal.returns-in-Ok-clause-mails
returns-in-Ok-clause-mails g c = λ process. send_done _ _ process c.args.route.sender c.args.mailbox.now c.args.route.from c.args.route.receiver c.args.route.to c.args.message _ c.deref.ensures _ c.in_ok-opened.ensures.ok.0 c.in_ok-opened.ensures.ok.1 _ c.in-Ok.ensures

pub returns-in-Err-clause-mails : goal.returns-in-Err-clause-mails
returns-in-Err-clause-mails g c = λ process. send_starved _ _ process c.args.route.sender c.args.mailbox.now c.args.route.from c.args.route.receiver c.args.route.to c.args.message _ c.deref.ensures _ c.in_ok-opened.ensures.ok.0 c.in_ok-opened.ensures.ok.1
