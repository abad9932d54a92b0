use Rattle.fl_labels.specs.Caps.{Among}
use Rattle.fl_chains.proofs.LawLemmas.{has_giver}
use Rattle.fl_chains.proofs.laws.law_giver.Goals as goal

pub returns : goal.returns
returns c = λ ops d. has_giver (Among ops) d
