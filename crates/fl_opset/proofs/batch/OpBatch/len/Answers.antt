use Rattle.std.proofs.Common.{sym, ◌∙◌}
use Rattle.fl_ops.specs.OpLaws.{op_total, op_exact}
use Rattle.fl_labels.specs.laws.SortedVec.{len_listed}
use Rattle.fl_opset.proofs.batch.OpBatch.len.Goals as goal

pub returns : goal.returns
returns c = c.len.ensures ∙ c.self.inside.ops.ok.0 ∙ sym (len_listed op_total op_exact _ _ c.self.invariant c.self.view_is)
