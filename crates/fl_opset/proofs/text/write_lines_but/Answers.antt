use Rattle.std.proofs.Common.{◌≡◌, ◌∙◌, sym, ap, subst, true, false}
use Rattle.std.specs.Prelude.{not}
use Rattle.fl_sink.specs.laws.Passing.{passes_then, puts_then, puts_stop}
use Rattle.fl_opset.specs.RegistryText.{op_line}
use Rattle.fl_opset.specs.Without.{is_outside}
use Rattle.fl_opset.specs.laws.Withouts.{among}
use Rattle.fl_opset.proofs.Outside.{kept_more, lost_more, kept_at}
use Rattle.fl_opset.proofs.text.write_lines_but.Goals as goal
use Rattle.fl_opset.proofs.text.write_lines_but.Goals.{then-not-contains+in_ok-write_line, else-not-contains}

pub loop-op-preserved : goal.loop-op-preserved
loop-op-preserved g c =
    let inside = c.loop-op-test.true in
    let those = c.args.those.now in
    let outside : is_outside those c.op-item.result ≡ not c.contains.result = ap not (sym (c.contains.ensures.value ∙ among those c.op-item.result)) in
    elim c.if-not-contains.branch [
      | then-not-contains+in_ok-write_line w ↦
          let kept = subst (λ op. is_outside those op ≡ true) c.op-item.is (outside ∙ ap not w.if-not-contains.true) in
          rw (w.sink-is, w.output-is, kept_more op_line (is_outside those) c.args.ops.now c.loop-op.op-index c.op-item.result inside kept, ← c.op-item.is)
          (passes_then _ _ _ c.loop-op.invariant w.in_ok-write_line.ensures.puts.is)
      | else-not-contains w ↦
          let lost = subst (λ op. is_outside those op ≡ false) c.op-item.is (outside ∙ ap not w.if-not-contains.false) in
          rw (w.sink-is, w.output-is, lost_more op_line (is_outside those) c.args.ops.now c.loop-op.op-index c.op-item.result inside lost) c.loop-op.invariant
    ]

pub returns-in_err-write_line-clause-puts : goal.returns-in_err-write_line-clause-puts
returns-in_err-write_line-clause-puts g c =
    let inside = c.loop-op-test.true in
    let those = c.args.those.now in
    let outside : is_outside those c.op-item.result ≡ not c.contains.result = ap not (sym (c.contains.ensures.value ∙ among those c.op-item.result)) in
    let kept = subst (λ op. is_outside those op ≡ true) c.op-item.is (outside ∙ ap not c.if-not-contains.true) in
    rw (kept_at op_line (is_outside those) c.args.ops.now c.loop-op.op-index c.op-item.result inside kept, ← c.op-item.is)
    (puts_then c.loop-op.invariant (puts_stop _ _ c.in_err-write_line.ensures.puts.is c.from_residual.ensures.0))
