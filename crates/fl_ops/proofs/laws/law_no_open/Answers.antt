use Rattle.fl_ops.specs.laws.Reaching.{no_open}
use Rattle.fl_ops.proofs.laws.law_no_open.Goals as goal

pub returns : goal.returns
returns c = λ ops owned. no_open
