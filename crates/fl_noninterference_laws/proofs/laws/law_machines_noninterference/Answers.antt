use Rattle.fl_noninterference_laws.proofs.Emitting.{emits_behind}
use Rattle.fl_noninterference_laws.proofs.Together.{turns_too, shown_too, same_all, none_safe}
use Rattle.fl_noninterference_laws.proofs.laws.law_machines_noninterference.Goals as goal

pub returns-clause-purged : goal.returns-clause-purged
returns-clause-purged c = λ tag m w turns safe alike run. turns_too tag m w turns safe alike run

pub returns-clause-shown : goal.returns-clause-shown
returns-clause-shown c = λ tag m w number s alike at. shown_too tag m w number s alike at

pub returns-clause-same : goal.returns-clause-same
returns-clause-same c = λ tag m. same_all tag m

pub returns-clause-none : goal.returns-clause-none
returns-clause-none c = λ desks. none_safe desks

pub returns-clause-behind : goal.returns-clause-behind
returns-clause-behind c = λ number desk upto s pid bytes o all step says.
    emits_behind s all step says
