use Rattle.fl_one_laws.specs.laws.Steps.{one_step, refused_restart}
use Rattle.fl_one_laws.specs.laws.Desks.{reached_desks, at_desk}
use Rattle.fl_one_laws.proofs.laws.law_one_step.Goals as goal

pub returns-clause-one : goal.returns-clause-one
returns-clause-one c = λ w w1 w2 event r1 r2. one_step w event r1 r2 w1 w2

pub returns-clause-boot : goal.returns-clause-boot
returns-clause-boot c = λ w w1 w2 number keeps. refused_restart w number keeps w1 w2

pub returns-clause-desk : goal.returns-clause-desk
returns-clause-desk c = λ w event reached. at_desk w (reached_desks w reached) event
