use Rattle.std.proofs.Common.{List, refl, ap, ◌∙◌}
use Rattle.fl_labels.specs.SetBy.{of_list}
use Rattle.fl_ops.specs.OpOrder.{op_cmp}
use Rattle.fl_ops.specs.OpLaws.{op_total, op_exact}
use Rattle.fl_opset.specs.declared.node_ops.NodeOps.{NodeOps}
use Rattle.fl_opset.specs.ByNode.{all_ops}
use Rattle.fl_opset.proofs.ByNode.{all_rise}
use Rattle.fl_opset.proofs.Each.{members_within}
use Rattle.fl_opset.proofs.Kept.{kept_union}
use Rattle.fl_opset.proofs.MergeLemmas.{merged_lists, none_new}
use Rattle.fl_opset.proofs.set.OpSet.merge_counted.Goals as goal

pub returns-then-has_each-clause-ok : goal.returns-then-has_each-clause-ok
returns-then-has_each-clause-ok c =
    let view = ap of_list c.in_default.ensures.err ∙ c.self.view_is in
    let tells = members_within _ _ c.args.self.now _ c.has_each.result (ap (λ (ns : List NodeOps). of_list {R = op_cmp} (all_ops ns)) c.deref.ensures.value ∙ view) refl c.has_each.ensures in
    view ∙ none_new c.args.self.now _ (tells.holds c.if-has_each.true)

pub returns-in_default-clause-new : goal.returns-in_default-clause-new
returns-in_default-clause-new c =
    let view = ap of_list c.in_default.ensures.err ∙ c.self.view_is in
    let tells = members_within _ _ c.args.self.now _ c.has_each.result (ap (λ (ns : List NodeOps). of_list {R = op_cmp} (all_ops ns)) c.deref.ensures.value ∙ view) refl c.has_each.ensures in
    tells.fails c.if-has_each.false

pub invariant_of-self-2 : goal.invariant_of-self-2
invariant_of-self-2 c =
    let more = all_ops c.args.others.now in
    let new = merged_lists op_total op_exact _ more _ _ _ c.args.self.now (of_list more) c.self.invariant.kept.rises (all_rise c.args.others.now c.requires.by_node) c.self.view_is refl refl refl c.in-Ok.ensures.ok in
    record {
      by_node = c.in-Ok.ensures.by_node;
      counted = c.in-Ok.ensures.count;
      kept = kept_union _ _ _ c.args.self.now c.self.invariant.kept c.self.view_is _ _ _ _ new c.add_near_names-added.result (of_list more) more c.still_known-self-inside.ensures refl refl
          c.add_near_names-added.ensures.fits c.add_near_names-added.ensures.ok;
    }

pub returns-clause-ok : goal.returns-clause-ok
returns-clause-ok c =
    let more = all_ops c.args.others.now in
    c.find_spans.ensures
    ∙ (merged_lists op_total op_exact _ more _ _ _ c.args.self.now (of_list more) c.self.invariant.kept.rises (all_rise c.args.others.now c.requires.by_node) c.self.view_is refl refl refl c.in-Ok.ensures.ok).view
