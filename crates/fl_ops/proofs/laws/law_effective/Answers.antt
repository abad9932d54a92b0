use Rattle.fl_labels.specs.laws.Duals.{dual_more}
use Rattle.fl_ops.specs.laws.Reaching.{global_more, eff_more}
use Rattle.fl_ops.proofs.laws.law_effective.Goals as goal

pub returns-clause-global : goal.returns-clause-global
returns-clause-global c = λ ops more. global_more

pub returns-clause-effective : goal.returns-clause-effective
returns-clause-effective c = λ ops more owned held listed given. eff_more listed given

pub returns-clause-dual : goal.returns-clause-dual
returns-clause-dual c = λ ops more owned held listed given. dual_more (eff_more listed given)
