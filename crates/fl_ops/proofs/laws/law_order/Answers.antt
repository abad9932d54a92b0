use Rattle.std.proofs.Common.{refl}
use Rattle.fl_labels.specs.laws.Orders.{ties, equals}
use Rattle.fl_ops.specs.OpLaws.{op_total, op_exact}
use Rattle.fl_ops.proofs.BytesOrder.{by_bytes}
use Rattle.fl_ops.proofs.laws.law_order.Goals as goal

pub returns-clause-bytes : goal.returns-clause-bytes
returns-clause-bytes c = by_bytes

pub returns-clause-ties : goal.returns-clause-ties
returns-clause-ties c = ties op_total op_exact

pub returns-clause-equality : goal.returns-clause-equality
returns-clause-equality c = equals op_total op_exact _ (λ a b. refl)
