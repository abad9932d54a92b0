use Rattle.fl_chains.proofs.Entries.{told_login}
use Rattle.fl_chains.proofs.logins.login_of.Goals as goal

pub returns-in-MakeLogin : goal.returns-in-MakeLogin
returns-in-MakeLogin c = told_login c.args.op.now c.in-MakeLogin.cap c.in-MakeLogin.field-1
    c.in-MakeLogin.is
