use Rattle.std.proofs.Common.{◌⊎◌, ◌≤◌, inl, inr, ap, sym, ◌∙◌, ◌++◌, length, drop, append_assoc, true}
use Rattle.std.proofs.lemmas.List.{take_rest}
use Rattle.fl_ops.specs.OpOrder.{op_cmp}
use Rattle.fl_opset.proofs.MergeLemmas.{merge_ends}
use Rattle.fl_opset.proofs.merging.merged.Goals as goal
use Rattle.fl_opset.proofs.merging.merged.Goals.{then-loop-i-test+else-j-right, else-loop-i-test}

pub returns : goal.returns
returns c =
    let left = c.args.left.now in
    let right = c.args.right.now in
    let ended : (length left ≤ c.loop-i.i) ⊎ (length right ≤ c.loop-i.j) = elim c.loop-i-test.branch [ then-loop-i-test+else-j-right w ↦ inr w.if-j-right.false | else-loop-i-test w ↦ inl w.loop-i-test.false ] in
    c.in_ok-extend_from_slice-2.ensures.items
    ∙ (λ k. (c.in_ok-extend_from_slice.ensures.items ∙ ap (λ l. c.loop-i.ops.items ++ l) (take_rest left c.loop-i.i)) k ++ take_rest right c.loop-i.j k)
    ∙ append_assoc c.loop-i.ops.items (drop c.loop-i.i left) (drop c.loop-i.j right)
    ∙ ap (λ l. c.loop-i.ops.items ++ l) (sym (merge_ends op_cmp true left right c.loop-i.i c.loop-i.j ended))
    ∙ c.loop-i.invariant.2
