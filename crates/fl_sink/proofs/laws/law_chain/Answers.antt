use Rattle.fl_sink.specs.laws.Passing.{passes_then, cuts_behind}
use Rattle.fl_sink.proofs.laws.law_chain.Goals as goal

pub returns-clause-passes : goal.returns-clause-passes
returns-clause-passes c = λ first mid last pending text rest more after p q. passes_then last more after p q

pub returns-clause-cuts : goal.returns-clause-cuts
returns-clause-cuts c = λ first mid last pending text rest more p q. cuts_behind p q
