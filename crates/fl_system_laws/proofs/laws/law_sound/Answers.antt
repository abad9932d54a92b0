use Rattle.fl_system_laws.specs.laws.Steps.{begins_step, cancels_step, jobs_step, publishes_step, receives_step, reopens_step, restarts_step, saves_step}
use Rattle.fl_system_laws.proofs.laws.law_sound.Goals as goal

pub returns-clause-begins : goal.returns-clause-begins
returns-clause-begins c = λ known n n' body maker desk result s h. begins_step s h

pub returns-clause-jobs : goal.returns-clause-jobs
returns-clause-jobs c = λ known n n' desk upto job result s h. jobs_step s h

pub returns-clause-receives : goal.returns-clause-receives
returns-clause-receives c = λ known ops n n' result names from s h. receives_step names from s h

pub returns-clause-saves : goal.returns-clause-saves
returns-clause-saves c = λ known n n' k k' result s h. saves_step s h

pub returns-clause-publishes : goal.returns-clause-publishes
returns-clause-publishes c = λ known n n' result s h. publishes_step s h

pub returns-clause-cancels : goal.returns-clause-cancels
returns-clause-cancels c = λ known n n' result s h. cancels_step s h

pub returns-clause-restarts : goal.returns-clause-restarts
returns-clause-restarts c = λ known n n' k k' keeps result s h. restarts_step s h

pub returns-clause-reopens : goal.returns-clause-reopens
returns-clause-reopens c = λ known n n' k k' result s h. reopens_step s h
