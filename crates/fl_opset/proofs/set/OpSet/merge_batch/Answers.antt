use Rattle.std.proofs.Common.{◌≡◌, List, length, sym, ap, subst, ◌∙◌, OnOk, OnErr}
use Rattle.std.specs.List.{Contains}
use Rattle.std.specs.List.Sorted.{IsStrictlySortedBy}
use Rattle.fl_labels.specs.Found.{Within}
use Rattle.fl_labels.specs.SetBy.{SetBy, In, of_list, members_rise, len-members, of_list-members}
use Rattle.fl_labels.specs.SetBy as set
use Rattle.fl_ops.specs.declared.op.Op.{Op}
use Rattle.fl_ops.specs.OpOrder.{op_cmp}
use Rattle.fl_ops.specs.OpLaws.{op_total, op_exact}
use Rattle.fl_opset.specs.declared.node_ops.NodeOps.{NodeOps}
use Rattle.fl_opset.specs.ByNode.{all_ops}
use Rattle.fl_opset.specs.laws.Members.{member_listed, listed_member}
use Rattle.fl_opset.proofs.MergeLemmas.{none_new}
use Rattle.fl_opset.proofs.set.OpSet.merge_batch.Goals as goal

pub by_node_of-requires : goal.by_node_of-requires
by_node_of-requires c = subst (IsStrictlySortedBy op_cmp) (sym c.as_slice.ensures) (members_rise c.args.batch.now)

pub returns-then-has_all-clause-ok : goal.returns-then-has_all-clause-ok
returns-then-has_all-clause-ok c =
    none_new c.args.self.now c.args.batch.now
    (λ op in_batch. c.has_all.ensures.holds c.if-has_all.true op (subst (λ (l : List Op). Contains l op) (sym c.as_slice-in_default.ensures) (member_listed c.args.batch.now op in_batch)))

pub returns-in_default-clause-new : goal.returns-in_default-clause-new
returns-in_default-clause-new c = λ within.
    c.has_all.ensures.fails c.if-has_all.false
    (λ op listed. within op (listed_member c.args.batch.now op (subst (λ (l : List Op). Contains l op) c.as_slice-in_default.ensures listed)))

pub merge_counted-requires-clause-counted : goal.merge_counted-requires-clause-counted
merge_counted-requires-clause-counted c =
    let whole = ap (λ (ns : List NodeOps). all_ops ns) c.deref.ensures.value ∙ c.in-Ok.ensures.whole ∙ c.as_slice.ensures in
    c.len.ensures ∙ len-members c.args.batch.now ∙ ap length (sym whole)

pub returns-clause-ok : goal.returns-clause-ok
returns-clause-ok c =
    let whole = ap (λ (ns : List NodeOps). all_ops ns) c.deref.ensures.value ∙ c.in-Ok.ensures.whole ∙ c.as_slice.ensures in
    subst (λ (t : SetBy op_cmp). OnOk c.merge_counted.result (c.merge_counted.new.self ≡ set.union c.args.self.now t))
    (ap of_list whole ∙ of_list-members op_total op_exact c.args.batch.now) c.merge_counted.ensures.ok

pub returns-clause-new : goal.returns-clause-new
returns-clause-new c =
    let whole = ap (λ (ns : List NodeOps). all_ops ns) c.deref.ensures.value ∙ c.in-Ok.ensures.whole ∙ c.as_slice.ensures in
    subst (λ (t : SetBy op_cmp). OnErr c.merge_counted.result (¬ Within (In t) (In c.args.self.now)))
    (ap of_list whole ∙ of_list-members op_total op_exact c.args.batch.now) c.merge_counted.ensures.new
