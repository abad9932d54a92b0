use Rattle.std.proofs.Common.{◌≡◌, ◌≢◌, ◌+◌, slice_index_or, not, inl, inr, length, sym, ap, subst, ◌∙◌, arith, rules}
use Rattle.std.specs.Ordering.{is_lt}
use Rattle.std.proofs.lemmas.Bool.{cases_lt}
use Rattle.std.proofs.lemmas.List.{length-drop, take_rest}
use Rattle.std.proofs.lemmas.List.Sorted.{IsPartitionPoint-from_clause}
use Rattle.fl_labels.specs.Name.{name_cmp}
use Rattle.fl_labels.specs.NameOrder.{name_total, name_exact, name_tied}
use Rattle.fl_ops.specs.declared.op.Op.{Op}
use Rattle.fl_ops.specs.OpLaws.{op_total, op_exact}
use Rattle.fl_opset.proofs.Partition.{rest_item, apart, alike}
use Rattle.fl_opset.proofs.Names.{names_parted, no_other}
use Rattle.fl_opset.proofs.search.has_other.Goals as goal

pub loop-other-init : goal.loop-other-init
loop-other-init c = λ k d low high. absurd (omega arith)

pub returns-then-ne-clause-none : goal.returns-then-ne-clause-none
returns-then-ne-clause-none c = λ _.
    let point = IsPartitionPoint-from_clause (λ op. is_lt (name_cmp op.name c.args.op.now.name)) _ _ c.partition_point-first.ensures.partitioned (names_parted _ c.requires c.args.op.now.name) (λ a r f k. search rules) in
    let here = rest_item c.args.ops.now c.partition_point-first.result c.loop-other.other-index c.other-item.result c.loop-other-test.true c.other-item.is in
    let new = apart name_total c.other-item.result.name c.args.op.now.name _ (c.ne.ensures ∙ ap not (name_tied c.other-item.result.name c.args.op.now.name)) c.if-ne.true in
    no_other _ c.requires c.args.op.now _ (c.partition_point-first.result + c.loop-other.other-index) point (omega arith) c.loop-other.invariant
    (λ d _. subst (λ (op : Op). op.name ≢ c.args.op.now.name) (sym (here.1 d)) new)

pub returns-then-ne-2-clause-some : goal.returns-then-ne-2-clause-some
returns-then-ne-2-clause-some c = λ _.
    let here = rest_item c.args.ops.now c.partition_point-first.result c.loop-other.other-index c.other-item.result c.loop-other-test.true c.other-item.is in
    let same = alike name_total name_exact c.other-item.result.name c.args.op.now.name _ (c.ne.ensures ∙ ap not (name_tied c.other-item.result.name c.args.op.now.name)) c.if-ne.false in
    (c.partition_point-first.result + c.loop-other.other-index, c.other-item.result, here.0, here.1 _, (same, apart op_total _ c.args.op.now _ c.ne-in-loop-other.ensures c.if-ne-2.true))

pub loop-other-preserved : goal.loop-other-preserved
loop-other-preserved c = λ k d low high.
    let here = rest_item c.args.ops.now c.partition_point-first.result c.loop-other.other-index c.other-item.result c.loop-other-test.true c.other-item.is in
    elim (cases_lt k (c.partition_point-first.result + c.loop-other.other-index)) [
      | inl before ↦ c.loop-other.invariant k d low before
      | inr after ↦
          let at : k ≡ c.partition_point-first.result + c.loop-other.other-index = omega arith in
          ap (λ n. slice_index_or c.args.ops.now n d) at ∙ here.1 d ∙ alike op_total op_exact _ c.args.op.now _ c.ne-in-loop-other.ensures c.if-ne-2.false
    ]

pub returns-clause-none : goal.returns-clause-none
returns-clause-none c = λ _.
    let point = IsPartitionPoint-from_clause (λ op. is_lt (name_cmp op.name c.args.op.now.name)) _ _ c.partition_point-first.ensures.partitioned (names_parted _ c.requires c.args.op.now.name) (λ a r f k. search rules) in
    no_other _ c.requires c.args.op.now _ (c.partition_point-first.result + c.loop-other.other-index) point (omega arith) c.loop-other.invariant
    (λ d reach. absurd (omega (arith, length-drop c.partition_point-first.result c.args.ops.now, ap length (take_rest c.args.ops.now c.partition_point-first.result), c.loop-other-test.false)))
