use Rattle.std.proofs.Common.{sym, ap, ◌∙◌}
use Rattle.fl_ops.specs.OpLaws.{op_total, op_exact}
use Rattle.fl_labels.specs.SetBy.{members, members-of_list}
use Rattle.fl_opset.proofs.batch.OpBatch.as_slice.Goals as goal

pub returns : goal.returns
returns c = c.deref.ensures.value ∙ sym (members-of_list op_total op_exact _ c.self.invariant) ∙ ap members c.self.view_is
