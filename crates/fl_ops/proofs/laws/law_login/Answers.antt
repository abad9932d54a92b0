use Rattle.fl_labels.specs.Caps.{Among}
use Rattle.fl_ops.specs.laws.Logins.{one_first, answer_kept}
use Rattle.fl_ops.proofs.laws.law_login.Goals as goal

pub returns-clause-one : goal.returns-clause-one
returns-clause-one c = λ ops. one_first (Among ops)

pub returns-clause-same : goal.returns-clause-same
returns-clause-same c = λ ops others login found to from. answer_kept (λ op. (to op, from op)) login found
