use Rattle.std.proofs.Common.{sym, ◌∙◌}
use Rattle.fl_ops.specs.OpLaws.{op_total, op_exact}
use Rattle.fl_labels.specs.laws.SortedVec.{len_listed}
use Rattle.fl_opset.proofs.set.OpSet.len.Goals as goal

pub returns : goal.returns
returns c = c.self.invariant.counted ∙ sym (len_listed op_total op_exact _ _ c.self.invariant.kept.rises c.self.view_is)
