use Rattle.std.proofs.Common.{sym, ap, subst, ◌∙◌}
use Rattle.fl_labels.specs.SetBy.{of_list}
use Rattle.fl_opset.specs.ByNode.{all_ops, AreByNode}
use Rattle.fl_opset.proofs.Each.{members_within}
use Rattle.fl_opset.proofs.set.OpSet.has_each.Goals as goal

pub has_each-requires-clause-these : goal.has_each-requires-clause-these
has_each-requires-clause-these c = subst AreByNode (sym c.deref.ensures.value) c.self.invariant.by_node

pub has_each-requires-clause-those : goal.has_each-requires-clause-those
has_each-requires-clause-those c = subst AreByNode (sym c.deref-2.ensures.value) c.other.invariant.by_node

pub returns : goal.returns
returns c =
    members_within _ _ c.args.self.now c.args.other.now _
    (ap (λ ns. of_list (all_ops ns)) c.deref.ensures.value ∙ c.self.view_is) (ap (λ ns. of_list (all_ops ns)) c.deref-2.ensures.value ∙ c.other.view_is) c.has_each.ensures
