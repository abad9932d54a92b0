use Rattle.fl_ops.specs.Registry.{Listed}
use Rattle.fl_bench_laws.specs.laws.OneResult.{one_result}
use Rattle.fl_bench_laws.proofs.laws.law_one_step.Goals as goal

pub returns : goal.returns
returns c = λ ops b after other job r s. one_result (Listed ops) b job r s after other
