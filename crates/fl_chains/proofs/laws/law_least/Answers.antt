use Rattle.fl_labels.specs.Caps.{Among}
use Rattle.fl_chains.proofs.LawLemmas.{shortest, one_least}
use Rattle.fl_chains.proofs.laws.law_least.Goals as goal

pub returns-clause-shortest : goal.returns-clause-shortest
returns-clause-shortest c = λ ops roots d root other steps others h. shortest (Among ops)
    (Among roots) d root other steps others h

pub returns-clause-one : goal.returns-clause-one
returns-clause-one c = λ ops roots d root other steps others h k. one_least (Among ops)
    (Among roots) d root other steps others h k
