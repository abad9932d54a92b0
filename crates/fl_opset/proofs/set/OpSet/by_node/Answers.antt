use Rattle.std.proofs.Common.{sym, ap, ◌∙◌}
use Rattle.fl_labels.specs.SetBy.{members, members-of_list}
use Rattle.fl_ops.specs.OpLaws.{op_total, op_exact}
use Rattle.fl_opset.specs.ByNode.{all_ops}
use Rattle.fl_opset.proofs.set.OpSet.by_node.Goals as goal

pub returns-clause-whole : goal.returns-clause-whole
returns-clause-whole c =
    ap (λ ns. all_ops ns) c.deref.ensures.value ∙ sym (members-of_list op_total op_exact _ c.self.invariant.kept.rises) ∙ ap members c.self.view_is
