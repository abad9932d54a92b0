use Rattle.std.proofs.Common.{[]}
use Rattle.fl_bench.specs.Gifts.{given}
use Rattle.fl_bench.specs.laws.Orderly.{opened_orderly, settles_orderly}
use Rattle.fl_bench_laws.specs.laws.Orderly.{does_orderly}
use Rattle.fl_bench_laws.proofs.laws.law_orderly.Goals as goal

pub returns-clause-opened : goal.returns-clause-opened
returns-clause-opened c = opened_orderly

pub returns-clause-job : goal.returns-clause-job
returns-clause-job c = λ ops b after job result h d. does_orderly h d

pub returns-clause-finish : goal.returns-clause-finish
returns-clause-finish c = λ b maker op h. settles_orderly h maker (given op)

pub returns-clause-cancel : goal.returns-clause-cancel
returns-clause-cancel c = λ b maker h. settles_orderly h maker []
