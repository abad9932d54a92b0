use Rattle.fl_rules.specs.Labels.{sets_of}
use Rattle.fl_monitor.proofs.MailLemmas.{unboxed, open_too_long, open_refused, open_starved, open_done}
use Rattle.fl_monitor.proofs.mail.open.Goals as goal

pub returns-in_default-clause-mails : goal.returns-in_default-clause-mails
returns-in_default-clause-mails g c = λ pid. open_too_long _ _ (sets_of c.args.process) pid c.args.mailbox.now c.args.mode c.args.given (unboxed c.into_inner.ensures c.in_default.ensures)

pub returns-in_err-endpoint-clause-mails : goal.returns-in_err-endpoint-clause-mails
returns-in_err-endpoint-clause-mails g c = λ pid. open_refused _ _ (sets_of c.args.process) pid c.args.mailbox.now c.args.mode c.args.given _ (unboxed c.into_inner.ensures c.in-Some.ensures) _ c.lend.ensures _ c.in_err-endpoint.ensures.err c.from_residual.result c.from_residual.ensures

pub returns-in_default-insert-clause-mails : goal.returns-in_default-insert-clause-mails
returns-in_default-insert-clause-mails g c = λ pid. open_starved _ _ (sets_of c.args.process) pid c.args.mailbox.now c.args.mode c.args.given _ (unboxed c.into_inner.ensures c.in-Some.ensures) _ c.lend.ensures _ c.in_ok-endpoint.ensures.ok.0 c.in_ok-endpoint.ensures.ok.1 _ c.in_default-insert.ensures.err

pub returns-clause-mails : goal.returns-clause-mails
returns-clause-mails g c = λ pid. open_done _ _ (sets_of c.args.process) pid c.args.mailbox.now c.args.mode c.args.given _ (unboxed c.into_inner.ensures c.in-Some.ensures) _ c.lend.ensures _ c.in_ok-endpoint.ensures.ok.0 c.in_ok-endpoint.ensures.ok.1 _ c.in-Ok.ensures.ok
