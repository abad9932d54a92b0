use Rattle.fl_ops.specs.OpLaws.{op_total, op_exact}
use Rattle.fl_opset.specs.laws.Unions.{union_assoc, union_comm, union_same, union_upper, union_least}
use Rattle.fl_opset.proofs.laws.law_join.Goals as goal

pub returns-clause-associative : goal.returns-clause-associative
returns-clause-associative c = union_assoc op_total op_exact

pub returns-clause-commutative : goal.returns-clause-commutative
returns-clause-commutative c = union_comm op_total op_exact

pub returns-clause-idempotent : goal.returns-clause-idempotent
returns-clause-idempotent c = union_same op_total op_exact

pub returns-clause-upper : goal.returns-clause-upper
returns-clause-upper c = union_upper op_total

pub returns-clause-least : goal.returns-clause-least
returns-clause-least c = union_least op_total
