use Rattle.fl_ops.specs.Registry.{Listed}
use Rattle.fl_bench.specs.laws.Steps.{does_step}
use Rattle.fl_bench_laws.proofs.laws.law_summary.Goals as goal

pub returns : goal.returns
returns c = λ ops b after job result d. does_step (Listed ops) b d
