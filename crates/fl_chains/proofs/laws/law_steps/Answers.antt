use Rattle.fl_labels.specs.Caps.{Among}
use Rattle.fl_chains.proofs.LawLemmas.{same_chains}
use Rattle.fl_chains.proofs.laws.law_steps.Goals as goal

pub returns : goal.returns
returns c = λ ops b d. same_chains (Among ops) b d
