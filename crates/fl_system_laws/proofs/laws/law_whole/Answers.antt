use Rattle.fl_system_laws.specs.laws.Wholes.{begins_whole, cancels_whole, idle_whole, jobs_whole, publishes_whole, receives_whole, reopens_whole, restarts_whole, saves_whole}
use Rattle.fl_system_laws.proofs.laws.law_whole.Goals as goal

pub returns-clause-begins : goal.returns-clause-begins
returns-clause-begins c = λ n n' body maker desk result whole h. begins_whole whole h

pub returns-clause-jobs : goal.returns-clause-jobs
returns-clause-jobs c = λ n n' desk upto job result whole h. jobs_whole whole h

pub returns-clause-receives : goal.returns-clause-receives
returns-clause-receives c = λ n n' ops result whole h. receives_whole whole h

pub returns-clause-saves : goal.returns-clause-saves
returns-clause-saves c = λ n n' k k' result whole h. saves_whole whole h

pub returns-clause-publishes : goal.returns-clause-publishes
returns-clause-publishes c = λ n n' result whole h. publishes_whole whole h

pub returns-clause-cancels : goal.returns-clause-cancels
returns-clause-cancels c = λ n n' result whole h. cancels_whole whole h

pub returns-clause-restarts : goal.returns-clause-restarts
returns-clause-restarts c = λ n n' k k' keeps result whole h. restarts_whole whole h

pub returns-clause-reopens : goal.returns-clause-reopens
returns-clause-reopens c = λ n n' k k' result whole h. reopens_whole whole h

pub returns-clause-idle : goal.returns-clause-idle
returns-clause-idle c = λ n op whole is i. idle_whole whole is op i
