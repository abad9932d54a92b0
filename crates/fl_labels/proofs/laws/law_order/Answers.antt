use Rattle.fl_labels.specs.NameOrder.{name_total, name_exact}
use Rattle.fl_labels.specs.CapOrder.{cap_total, cap_exact}
use Rattle.fl_labels.specs.PidOrder.{pid_total, pid_exact}
use Rattle.fl_labels.specs.Endpoint.{endpoint_total, endpoint_exact}
use Rattle.fl_labels.specs.laws.Orders.{ties}
use Rattle.fl_labels.proofs.laws.law_order.Goals as goal

pub returns-clause-names : goal.returns-clause-names
returns-clause-names c = ties name_total name_exact

pub returns-clause-caps : goal.returns-clause-caps
returns-clause-caps c = ties cap_total cap_exact

pub returns-clause-pids : goal.returns-clause-pids
returns-clause-pids c = ties pid_total pid_exact

pub returns-clause-endpoints : goal.returns-clause-endpoints
returns-clause-endpoints c = ties endpoint_total endpoint_exact
