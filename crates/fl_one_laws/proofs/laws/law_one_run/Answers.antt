use Rattle.fl_one_laws.specs.laws.Runs.{one_run}
use Rattle.fl_one_laws.proofs.laws.law_one_run.Goals as goal

pub returns : goal.returns
returns c = λ w w1 w2 events rs1 rs2. one_run w events rs1 rs2 w1 w2
