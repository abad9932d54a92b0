use Rattle.fl_worker.proofs.Doing.{all_answered}
use Rattle.fl_worker.proofs.worker.law_answered.Goals as goal

pub returns : goal.returns
returns c = λ list b b' es served. all_answered list b es b' served
