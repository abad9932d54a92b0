use Rattle.fl_monitor.proofs.Entries.{login_shown, login_wrong}
use Rattle.fl_monitor.proofs.enter.check_login.Goals as goal

pub returns-then-ne-clause-err : goal.returns-then-ne-clause-err
returns-then-ne-clause-err g c = login_wrong _ c.args.login c.args.secret _ c.in-Some.digest _ c.in-Some.ensures.answer c.digest_of_secret.ensures _ c.ne.ensures c.if-ne.true

pub returns-clause-ok : goal.returns-clause-ok
returns-clause-ok g c = login_shown _ c.args.login c.args.secret _ c.in-Some.digest _ c.in-Some.ensures.answer c.digest_of_secret.ensures _ c.ne.ensures c.if-ne.false
