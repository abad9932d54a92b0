use Rattle.fl_closure.proofs.Held.{known_login}
use Rattle.fl_closure.proofs.index.knows.Goals as goal

pub returns-in-MakeLogin : goal.returns-in-MakeLogin
returns-in-MakeLogin c =
    known_login c.args.closure.now c.args.logins.now c.args.op.now _ (c.follows.ensures.holds c.if-not-follows.false) c.contains.ensures c.in-MakeLogin.field-0 c.in-MakeLogin.field-1 c.in-MakeLogin.is
