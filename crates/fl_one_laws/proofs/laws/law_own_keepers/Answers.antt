use Rattle.fl_one_laws.specs.laws.Owners.{empty_owned, step_owned, step_settled, joins_owned, run_settled}
use Rattle.fl_one_laws.proofs.laws.law_own_keepers.Goals as goal

pub returns-clause-empty : goal.returns-clause-empty
returns-clause-empty c = empty_owned

pub returns-clause-step : goal.returns-clause-step
returns-clause-step c = λ w w1 event r h does. (step_owned h does, step_settled h does)

pub returns-clause-joins : goal.returns-clause-joins
returns-clause-joins c = λ w w1 number k r. joins_owned

pub returns-clause-run : goal.returns-clause-run
returns-clause-run c = λ w w1 events rs. run_settled w events rs w1
