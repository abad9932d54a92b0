use Rattle.fl_noninterference_laws.proofs.Replies.{replies_same}
use Rattle.fl_noninterference_laws.proofs.Steps.{steps_too}
use Rattle.fl_noninterference_laws.proofs.laws.law_others.Goals as goal

pub returns-clause-act : goal.returns-clause-act
returns-clause-act c = λ tag number s r act o alike shown all ample step.
    steps_too number act alike shown all ample step

pub returns-clause-reply : goal.returns-clause-reply
returns-clause-reply c = λ tag n m x y desk other upto up job reply said alike shown all more
    does also. replies_same tag alike shown all more does also
