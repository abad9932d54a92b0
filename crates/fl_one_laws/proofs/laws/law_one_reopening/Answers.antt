use Rattle.fl_one_laws.specs.laws.Restarts.{one_reopening, refused_reopening}
use Rattle.fl_one_laws.proofs.laws.law_one_reopening.Goals as goal

pub returns-clause-one : goal.returns-clause-one
returns-clause-one c = λ w w1 w2 number k r1 r2. one_reopening

pub returns-clause-boot : goal.returns-clause-boot
returns-clause-boot c = λ w w1 w2 number k. refused_reopening
