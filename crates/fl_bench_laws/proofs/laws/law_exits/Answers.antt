use Rattle.std.proofs.Common.{[]}
use Rattle.fl_ops.specs.Registry.{Listed}
use Rattle.fl_bench.specs.Gifts.{given}
use Rattle.fl_bench_laws.proofs.Births.{does_gone, settles_all}
use Rattle.fl_bench_laws.proofs.laws.law_exits.Goals as goal

pub returns-clause-job : goal.returns-clause-job
returns-clause-job c = λ ops b after job result pid old d there none. does_gone (Listed ops) b d pid old there none

pub returns-clause-finish : goal.returns-clause-finish
returns-clause-finish c = λ b maker pid old op. settles_all (λ op. ⊥) b maker (given op) pid old

pub returns-clause-cancel : goal.returns-clause-cancel
returns-clause-cancel c = λ b maker pid old. settles_all (λ op. ⊥) b maker [] pid old
