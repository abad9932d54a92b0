use Rattle.std.proofs.Common.{ap}
use Rattle.fl_ops.specs.OpLaws.{op_total, op_exact}
use Rattle.fl_opset.specs.RegistryText.{registry_text}
use Rattle.fl_opset.specs.laws.Unions.{same_members}
use Rattle.fl_opset.proofs.laws.law_equal_text.Goals as goal

pub returns-clause-equal : goal.returns-clause-equal
returns-clause-equal c = same_members op_total op_exact

pub returns-clause-text : goal.returns-clause-text
returns-clause-text c = λ s t is. ap registry_text (same_members op_total op_exact s t is)
