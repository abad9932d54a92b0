use Rattle.fl_script.specs.laws.OneLine.{one_line}
use Rattle.fl_script.proofs.laws.law_one_line.Goals as goal

pub returns : goal.returns
returns c = one_line
