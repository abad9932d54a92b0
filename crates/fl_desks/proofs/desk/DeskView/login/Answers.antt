use Rattle.fl_desks.proofs.DeskSees.{told_login}
use Rattle.fl_desks.proofs.desk.DeskView.login.Goals as goal

pub returns-clause-answer : goal.returns-clause-answer
returns-clause-answer c =
    told_login _ _ _ c.index.ensures c.args.self.now.indexed c.args.name c.login.result c.login.ensures
