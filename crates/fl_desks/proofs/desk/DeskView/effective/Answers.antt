use Rattle.std.proofs.Common.{refl}
use Rattle.fl_desks.proofs.DeskSees.{told_effective}
use Rattle.fl_desks.proofs.desk.DeskView.effective.Goals as goal

pub returns-clause-answer : goal.returns-clause-answer
returns-clause-answer c =
    told_effective _ _ _ refl c.args.self.now.indexed c.args.owned.now c.args.cap _ c.effective.ensures.answer
