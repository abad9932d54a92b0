use Rattle.std.proofs.Common.{[]}
use Rattle.fl_ops.specs.Registry.{Listed}
use Rattle.fl_bench.specs.Gifts.{given}
use Rattle.fl_bench_laws.specs.laws.Guarded.{opened_guarded, does_guarded, settles_guarded, registry_guarded}
use Rattle.fl_bench_laws.proofs.laws.law_endpoints.Goals as goal

pub returns-clause-opened : goal.returns-clause-opened
returns-clause-opened c = λ ops number boot index stride. opened_guarded (Listed ops) number boot index stride

pub returns-clause-job : goal.returns-clause-job
returns-clause-job c = λ view ops b after job result within h d. does_guarded (Listed view) (Listed ops) within b h d

pub returns-clause-finish : goal.returns-clause-finish
returns-clause-finish c = λ ops b maker op h. settles_guarded (Listed ops) b h maker (given op)

pub returns-clause-cancel : goal.returns-clause-cancel
returns-clause-cancel c = λ ops b maker h. settles_guarded (Listed ops) b h maker []

pub returns-clause-grown : goal.returns-clause-grown
returns-clause-grown c = λ ops more b within h. registry_guarded within h
