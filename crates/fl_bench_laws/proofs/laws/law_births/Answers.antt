use Rattle.std.proofs.Common.{[]}
use Rattle.fl_ops.specs.Registry.{Listed}
use Rattle.fl_bench.specs.Gifts.{given}
use Rattle.fl_bench_laws.specs.laws.Going.{does_going, goes_longer, never_next, settles_going}
use Rattle.fl_bench_laws.proofs.Births.{does_born, settles_nobody}
use Rattle.fl_bench_laws.proofs.laws.law_births.Goals as goal

pub returns-clause-job : goal.returns-clause-job
returns-clause-job c = λ ops b after job result pid child d none there. does_born (Listed ops) b d pid child none there

pub returns-clause-forward : goal.returns-clause-forward
returns-clause-forward c = λ ops b after job result d. does_going (Listed ops) b d

pub returns-clause-longer : goal.returns-clause-longer
returns-clause-longer c = λ x y z g h. goes_longer g h

pub returns-clause-once : goal.returns-clause-once
returns-clause-once c = λ b later pid next p h there on is. never_next h there on is

pub returns-clause-finish : goal.returns-clause-finish
returns-clause-finish c = λ b maker pid op. (settles_going (λ op. ⊥) b maker (given op), settles_nobody (λ op. ⊥) b maker (given op) pid)

pub returns-clause-cancel : goal.returns-clause-cancel
returns-clause-cancel c = λ b maker pid. (settles_going (λ op. ⊥) b maker [], settles_nobody (λ op. ⊥) b maker [] pid)
