use Rattle.fl_rules.specs.Labels.{sets_of}
use Rattle.fl_monitor.proofs.MailLemmas.{unboxed, tune_too_long, tune_refused, tune_done}
use Rattle.fl_monitor.proofs.mail.tune.Goals as goal

pub returns-in_default-clause-mails : goal.returns-in_default-clause-mails
returns-in_default-clause-mails g c = λ pid. tune_too_long _ _ (sets_of c.args.process) pid c.args.mailbox.now c.args.endpoint c.args.given (unboxed c.into_inner.ensures c.in_default.ensures)

pub returns-in_err-check_tune-clause-mails : goal.returns-in_err-check_tune-clause-mails
returns-in_err-check_tune-clause-mails g c = λ pid. tune_refused _ _ (sets_of c.args.process) pid c.args.mailbox.now c.args.endpoint c.args.given _ (unboxed c.into_inner.ensures c.in-Some.ensures) _ c.lend.ensures c.check_tune.ensures.checked _ c.in_err-check_tune.was c.from_residual.result c.from_residual.ensures

pub returns-clause-mails : goal.returns-clause-mails
returns-clause-mails g c = λ pid. tune_done _ _ (sets_of c.args.process) pid c.args.mailbox.now c.args.endpoint c.args.given _ (unboxed c.into_inner.ensures c.in-Some.ensures) _ c.lend.ensures c.check_tune.ensures.checked _ c.in_ok-check_tune.was _ c.set_labels.ensures.there
