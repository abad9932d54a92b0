use Rattle.fl_labels.specs.SetBy.{In}
use Rattle.fl_labels.specs.declared.cap.Cap.TheVariants.{Use}
use Rattle.fl_ops.specs.Registry.{Listed, From, WithGlobal}
use Rattle.fl_chains.proofs.LawLemmas.{given}
use Rattle.fl_chains.proofs.laws.law_given.Goals as goal

pub returns-clause-owner : goal.returns-clause-owner
returns-clause-owner c = λ ops owned cap r h. given (Listed ops)
    (WithGlobal (Listed ops) (In owned)) cap r h

pub returns-clause-group : goal.returns-clause-group
returns-clause-group c = λ ops group cap r h. given (Listed ops) (From (Use group)) cap r h
