use Rattle.std.proofs.Common.{◌≡◌, ◌∙◌, ap}
use Rattle.fl_labels.specs.SetBy as set
use Rattle.fl_ops.specs.OpLaws.{op_total, op_exact}
use Rattle.fl_store.specs.Kept.{with_ops}
use Rattle.fl_store.specs.laws.KeptSets.{union-nothing}
use Rattle.fl_system.specs.State.{ops_of}
use Rattle.fl_node.proofs.RecoverLemmas.{not_own, own_by}
use Rattle.fl_node.proofs.recovering.is_own.Goals as goal

pub returns-in_default : goal.returns-in_default
returns-in_default c = rw c.in_default.is (not_own _ _ (c.same.ensures.fails c.if-same.false))

pub returns : goal.returns
returns c =
    let saved = c.args.saved.now in
    let batch = c.in-Some.batch.now in
    let both : c.add_batch.new.saved ≡ with_ops saved (ops_of batch) =
    c.in_ok-add_batch.ensures.ok ∙ ap (λ s. with_ops s (ops_of batch)) (c.in_ok-merge.ensures.ok ∙ ap (λ s. set.union s saved) c.new-both.ensures ∙ union-nothing op_total op_exact saved) in
    rw c.in-Some.is (own_by _ _ _ _ (ops_of batch) (c.same.ensures.fails c.if-same.false) both c.same-2.ensures)
