use Rattle.std.proofs.Common.{refl}
use Rattle.std.specs.Cmp.{on_total}
use Rattle.std.specs.Cmp.Lexicographic.{lists_total}
use Rattle.fl_labels.specs.NameOrder.{name_total, name_exact, name_tied}
use Rattle.fl_labels.specs.CapOrder.{cap_total, cap_exact, cap_tied}
use Rattle.fl_labels.specs.PidOrder.{pid_total, pid_exact}
use Rattle.fl_labels.specs.Endpoint.{endpoint_total, endpoint_exact}
use Rattle.fl_labels.specs.SetBy.{members}
use Rattle.fl_labels.specs.laws.Orders.{equals, set_exact, pid_tied, endpoint_tied}
use Rattle.fl_labels.proofs.laws.law_equality.Goals as goal

pub returns-clause-names : goal.returns-clause-names
returns-clause-names c = equals name_total name_exact _ name_tied

pub returns-clause-caps : goal.returns-clause-caps
returns-clause-caps c = equals cap_total cap_exact _ cap_tied

pub returns-clause-pids : goal.returns-clause-pids
returns-clause-pids c = equals pid_total pid_exact _ pid_tied

pub returns-clause-endpoints : goal.returns-clause-endpoints
returns-clause-endpoints c = equals endpoint_total endpoint_exact _ endpoint_tied

pub returns-clause-labels : goal.returns-clause-labels
returns-clause-labels c = equals (on_total members (lists_total name_total)) (set_exact name_total name_exact) _ (λ s t. refl)

pub returns-clause-cap_sets : goal.returns-clause-cap_sets
returns-clause-cap_sets c = equals (on_total members (lists_total cap_total)) (set_exact cap_total cap_exact) _ (λ s t. refl)
