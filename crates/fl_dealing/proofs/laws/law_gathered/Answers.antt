use Rattle.fl_dealing.proofs.Answering.{answered}
use Rattle.fl_dealing.proofs.laws.law_gathered.Goals as goal

pub returns : goal.returns
returns c = answered
