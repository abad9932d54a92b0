use Rattle.fl_rules.specs.Labels.{sets_of}
use Rattle.fl_monitor.proofs.MailLemmas.{close_mails, take_mails}
use Rattle.fl_monitor.proofs.mail.do_mail.Goals as goal

pub returns-in-Close-clause-mails : goal.returns-in-Close-clause-mails
returns-in-Close-clause-mails g c = close_mails _ _ (sets_of c.args.process) c.args.pid c.args.mailbox.now c.args.mail _ c.in-Close.is c.close.ensures

pub returns-in-Take-clause-mails : goal.returns-in-Take-clause-mails
returns-in-Take-clause-mails g c = take_mails _ _ (sets_of c.args.process) c.args.pid c.args.mailbox.now c.args.mail c.in-Take.is _ c.take.ensures.oldest _ c.take.ensures.left
