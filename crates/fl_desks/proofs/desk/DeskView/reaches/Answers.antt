use Rattle.std.proofs.Common.{refl}
use Rattle.fl_desks.proofs.DeskSees.{told_reached}
use Rattle.fl_desks.proofs.desk.DeskView.reaches.Goals as goal

pub returns-clause-answer : goal.returns-clause-answer
returns-clause-answer c =
    told_reached _ _ _ refl c.args.self.now.indexed c.args.root c.args.cap c.reaches.result c.reaches.ensures.answer
