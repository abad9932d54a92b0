use Rattle.std.proofs.Common.{◌≡◌, ◌∙◌, ◌+◌, sym, ap, take, ◌++◌, ◌∷◌, []}
use Rattle.std.proofs.lemmas.List.{take_more}
use Rattle.fl_labels.specs.SetBy as set
use Rattle.fl_opset.specs.Without.{without}
use Rattle.fl_opset.specs.laws.Withouts.{without-push}
use Rattle.fl_node.proofs.keeping.remove_all.Goals as goal

pub loop-op-preserved : goal.loop-op-preserved
loop-op-preserved c =
    let i = c.loop-op.op-index in
    let ops = c.args.ops.now in
    let op = c.op-item.result in
    let saved = c.args.saved.now in
    let taken : take (i + 1) ops ≡ take i ops ++ op ∷ [] = take_more ops i op c.loop-op-test.true ∙ ap (λ x. take i ops ++ x ∷ []) (sym c.op-item.is) in
    c.remove.ensures.after ∙ ap (λ s. set.remove s op) c.loop-op.invariant ∙ sym (ap (without saved) taken ∙ without-push saved (take i ops) op)
