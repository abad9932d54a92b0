use Rattle.std.proofs.Common.{◌+◌, not, length, refl, sym, ap, ◌∙◌, Ok, Err}
use Rattle.fl_labels.specs.SetBy.{of_list}
use Rattle.fl_labels.specs.laws.Rising.{insert_member}
use Rattle.fl_ops.specs.OpLaws.{op_total, op_exact}
use Rattle.fl_opset.specs.declared.node_ops.NodeOps.{NodeOps}
use Rattle.fl_opset.proofs.Kept.{kept_add, kept_alike}
use Rattle.fl_opset.proofs.MergeLemmas.{on_error}
use Rattle.fl_opset.proofs.OneEntry.{kept_with, no_member, same_entry, entry_tells, put_in}
use Rattle.fl_opset.proofs.set.OpSet.add.Goals as goal

pub returns-in_err-at-clause-err_only_new : goal.returns-in_err-at-clause-err_only_new
returns-in_err-at-clause-err_only_new c =
    on_error c.from_residual.result (no_member _ c.args.self.now c.args.op c.self.view_is c.in_err-at.ensures.lacking)

pub returns-in_default-clause-ok : goal.returns-in_default-clause-ok
returns-in_default-clause-ok c =
    let it = c.index_mut.result.now in
    let view = ap of_list c.in_ok-at.ensures.same ∙ c.self.view_is in
    let of = sym (ap (λ (m : NodeOps). m.node) c.index_mut.ensures.value ∙ c.in_ok-at.ensures.here it) in
    (same_entry _ _ it c.in_ok-at.ensures.by_node c.in_ok-at.ensures.bound c.index_mut.ensures.value c.args.self.now view it refl refl).view
    ∙ sym (insert_member op_total op_exact c.args.self.now c.args.op
    (entry_tells _ _ it c.in_ok-at.ensures.by_node c.in_ok-at.ensures.bound c.index_mut.ensures.value c.args.self.now view c.args.op of _ c.deref.ensures.value (Ok c.in_default.field-0) c.in_default.ensures.bound c.in_default.ensures.position))

pub returns-in_default-clause-new : goal.returns-in_default-clause-new
returns-in_default-clause-new c =
    let it = c.index_mut.result.now in
    let view = ap of_list c.in_ok-at.ensures.same ∙ c.self.view_is in
    let of = sym (ap (λ (m : NodeOps). m.node) c.index_mut.ensures.value ∙ c.in_ok-at.ensures.here it) in
    ap not (sym (entry_tells _ _ it c.in_ok-at.ensures.by_node c.in_ok-at.ensures.bound c.index_mut.ensures.value c.args.self.now view c.args.op of _ c.deref.ensures.value (Ok c.in_default.field-0) c.in_default.ensures.bound c.in_default.ensures.position))

pub returns-in_default-checked_add-clause-err_only_new : goal.returns-in_default-checked_add-clause-err_only_new
returns-in_default-checked_add-clause-err_only_new c =
    let it = c.index_mut.result.now in
    let view = ap of_list c.in_ok-at.ensures.same ∙ c.self.view_is in
    let of = sym (ap (λ (m : NodeOps). m.node) c.index_mut.ensures.value ∙ c.in_ok-at.ensures.here it) in
    entry_tells _ _ it c.in_ok-at.ensures.by_node c.in_ok-at.ensures.bound c.index_mut.ensures.value c.args.self.now view c.args.op of _ c.deref.ensures.value (Err c.in-Err.place) c.in-Err.ensures.bound c.in-Err.ensures.position

pub invariant_of-self-in_err-insert : goal.invariant_of-self-in_err-insert
invariant_of-self-in_err-insert c =
    let it = c.index_mut.result.now in
    let view = ap of_list c.in_ok-at.ensures.same ∙ c.self.view_is in
    kept_with _ c.args.self.now _ _ _ _ (same_entry _ _ it c.in_ok-at.ensures.by_node c.in_ok-at.ensures.bound c.index_mut.ensures.value c.args.self.now view (record it { ops = c.insert.new.self }) refl c.in_err-insert.ensures.items)
    (c.self.invariant.counted ∙ ap length (sym c.in_ok-at.ensures.same))
    (λ new. kept_alike _ _ _ c.args.self.now c.self.invariant.kept c.self.view_is _ new)

pub returns-in_err-insert-clause-err : goal.returns-in_err-insert-clause-err
returns-in_err-insert-clause-err c =
    let it = c.index_mut.result.now in
    let view = ap of_list c.in_ok-at.ensures.same ∙ c.self.view_is in
    on_error c.from_residual-in_err-insert.result
    (same_entry _ _ it c.in_ok-at.ensures.by_node c.in_ok-at.ensures.bound c.index_mut.ensures.value c.args.self.now view (record it { ops = c.insert.new.self }) refl c.in_err-insert.ensures.items).view

pub returns-in_err-insert-clause-err_only_new : goal.returns-in_err-insert-clause-err_only_new
returns-in_err-insert-clause-err_only_new c =
    let it = c.index_mut.result.now in
    let view = ap of_list c.in_ok-at.ensures.same ∙ c.self.view_is in
    let of = sym (ap (λ (m : NodeOps). m.node) c.index_mut.ensures.value ∙ c.in_ok-at.ensures.here it) in
    on_error c.from_residual-in_err-insert.result
    (entry_tells _ _ it c.in_ok-at.ensures.by_node c.in_ok-at.ensures.bound c.index_mut.ensures.value c.args.self.now view c.args.op of _ c.deref.ensures.value (Err c.in-Err.place) c.in-Err.ensures.bound c.in-Err.ensures.position)

pub invariant_of-self-2 : goal.invariant_of-self-2
invariant_of-self-2 c =
    let it = c.index_mut.result.now in
    let view = ap of_list c.in_ok-at.ensures.same ∙ c.self.view_is in
    let of = sym (ap (λ (m : NodeOps). m.node) c.index_mut.ensures.value ∙ c.in_ok-at.ensures.here it) in
    kept_with _ _ _ _ _ _
    (put_in _ _ it c.in_ok-at.ensures.by_node c.in_ok-at.ensures.bound c.index_mut.ensures.value c.args.self.now view c.args.op of _ c.deref.ensures.value (record it { ops = c.insert.new.self }) refl c.in-Err.place
    c.in-Err.ensures.bound c.in-Err.ensures.position c.in_ok-insert.ensures.items)
    (c.in-Some.ensures.1 ∙ ap (λ n. n + 1) (c.self.invariant.counted ∙ ap length (sym c.in_ok-at.ensures.same)))
    (λ new. kept_add _ _ _ c.args.self.now c.self.invariant.kept c.self.view_is _ _ _ _ new c.add_name-added.result c.args.op c.add_name-added.ensures.err c.still_known-self-inside.ensures refl c.add_name-added.ensures.ok)

pub returns-clause-ok : goal.returns-clause-ok
returns-clause-ok c =
    let it = c.index_mut.result.now in
    let view = ap of_list c.in_ok-at.ensures.same ∙ c.self.view_is in
    let of = sym (ap (λ (m : NodeOps). m.node) c.index_mut.ensures.value ∙ c.in_ok-at.ensures.here it) in
    (put_in _ _ it c.in_ok-at.ensures.by_node c.in_ok-at.ensures.bound c.index_mut.ensures.value c.args.self.now view c.args.op of _ c.deref.ensures.value (record it { ops = c.insert.new.self }) refl c.in-Err.place
    c.in-Err.ensures.bound c.in-Err.ensures.position c.in_ok-insert.ensures.items).view

pub returns-clause-new : goal.returns-clause-new
returns-clause-new c =
    let it = c.index_mut.result.now in
    let view = ap of_list c.in_ok-at.ensures.same ∙ c.self.view_is in
    let of = sym (ap (λ (m : NodeOps). m.node) c.index_mut.ensures.value ∙ c.in_ok-at.ensures.here it) in
    ap not (sym (entry_tells _ _ it c.in_ok-at.ensures.by_node c.in_ok-at.ensures.bound c.index_mut.ensures.value c.args.self.now view c.args.op of _ c.deref.ensures.value (Err c.in-Err.place) c.in-Err.ensures.bound c.in-Err.ensures.position))
