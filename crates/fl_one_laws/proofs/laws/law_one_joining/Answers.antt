use Rattle.fl_one_laws.specs.laws.Joinings.{one_joining}
use Rattle.fl_one_laws.proofs.laws.law_one_joining.Goals as goal

pub returns : goal.returns
returns c = λ w w1 w2 number k r1 r2. one_joining
