use Rattle.fl_ops.specs.Registry.{Listed}
use Rattle.fl_bench_laws.proofs.Gains.{does_owned, finish_owned, cancel_owned}
use Rattle.fl_bench_laws.proofs.laws.law_owned.Goals as goal

pub returns-clause-job : goal.returns-clause-job
returns-clause-job c = λ ops b after job result pid cap d. does_owned b pid cap (Listed ops) d

pub returns-clause-finish : goal.returns-clause-finish
returns-clause-finish c = λ b maker pid op cap. finish_owned b pid cap maker op

pub returns-clause-cancel : goal.returns-clause-cancel
returns-clause-cancel c = λ b maker pid cap. cancel_owned b pid cap maker
