use Rattle.std.proofs.Common.{refl}
use Rattle.fl_ops.specs.OpLaws.{op_total, op_exact}
use Rattle.fl_labels.specs.laws.SortedVec.{len_listed, empty_test}
use Rattle.fl_opset.proofs.set.OpSet.is_empty.Goals as goal

pub returns : goal.returns
returns c = empty_test _ _ _ _ refl c.self.invariant.counted (len_listed op_total op_exact _ _ c.self.invariant.kept.rises c.self.view_is)
