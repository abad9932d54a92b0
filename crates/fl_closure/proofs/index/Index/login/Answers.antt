use Rattle.fl_closure.proofs.Indexing.{told_login}
use Rattle.fl_closure.proofs.index.Index.login.Goals as goal

pub returns : goal.returns
returns c =
    told_login _ c.args.self.now _ c.self.view_is c.self.invariant.are_logins c.args.name c.first_login.result c.first_login.ensures
