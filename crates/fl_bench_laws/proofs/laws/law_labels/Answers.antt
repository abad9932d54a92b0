use Rattle.std.proofs.Common.{[]}
use Rattle.fl_ops.specs.Registry.{Listed}
use Rattle.fl_bench.specs.Gifts.{given}
use Rattle.fl_bench_laws.specs.laws.Following.{follows_does, follows_settles}
use Rattle.fl_bench_laws.proofs.laws.law_labels.Goals as goal

pub returns-clause-job : goal.returns-clause-job
returns-clause-job c = λ ops b after job result pid h d. follows_does (Listed ops) h d pid

pub returns-clause-finish : goal.returns-clause-finish
returns-clause-finish c = λ ops b maker pid op. follows_settles (Listed ops) b maker (given op) pid

pub returns-clause-cancel : goal.returns-clause-cancel
returns-clause-cancel c = λ ops b maker pid. follows_settles (Listed ops) b maker [] pid
