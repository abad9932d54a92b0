use Rattle.fl_system_laws.proofs.Growing.{jobs_same, publishes_same, cancels_same, saves_grow, restarts_grow, reopens_grow}
use Rattle.fl_system_laws.proofs.laws.law_saved_grows.Goals as goal

pub returns-clause-jobs : goal.returns-clause-jobs
returns-clause-jobs c = λ n n' desk upto job result h. jobs_same n desk upto job h

pub returns-clause-publishes : goal.returns-clause-publishes
returns-clause-publishes c = λ n n' result h. publishes_same n h

pub returns-clause-cancels : goal.returns-clause-cancels
returns-clause-cancels c = λ n n' result h. cancels_same n h

pub returns-clause-saves : goal.returns-clause-saves
returns-clause-saves c = λ n n' k k' result op h. saves_grow op n k h

pub returns-clause-restarts : goal.returns-clause-restarts
returns-clause-restarts c = λ n n' k k' keeps result op h. restarts_grow op n k keeps h

pub returns-clause-reopens : goal.returns-clause-reopens
returns-clause-reopens c = λ n n' k k' result op h. reopens_grow op n k h
