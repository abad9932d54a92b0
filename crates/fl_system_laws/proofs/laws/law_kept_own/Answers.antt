use Rattle.fl_system_laws.specs.laws.Owning.{begins_own, cancels_own, jobs_own, publishes_own, receives_own, reopened_own, restarts_own, saves_own}
use Rattle.fl_system_laws.proofs.laws.law_kept_own.Goals as goal

pub returns-clause-begins : goal.returns-clause-begins
returns-clause-begins c = λ n n' k body maker desk result own h. begins_own own h

pub returns-clause-jobs : goal.returns-clause-jobs
returns-clause-jobs c = λ n n' k desk upto job result own h. jobs_own own h

pub returns-clause-receives : goal.returns-clause-receives
returns-clause-receives c = λ n n' k ops result own h. receives_own own h

pub returns-clause-saves : goal.returns-clause-saves
returns-clause-saves c = λ n n' k k' result own h. saves_own own h

pub returns-clause-publishes : goal.returns-clause-publishes
returns-clause-publishes c = λ n n' k result own h. publishes_own own h

pub returns-clause-cancels : goal.returns-clause-cancels
returns-clause-cancels c = λ n n' k result own h. cancels_own own h

pub returns-clause-restarts : goal.returns-clause-restarts
returns-clause-restarts c = λ n n' k k' keeps result own h. restarts_own own h

pub returns-clause-reopens : goal.returns-clause-reopens
returns-clause-reopens c = λ n n' k k' boot h. reopened_own h
