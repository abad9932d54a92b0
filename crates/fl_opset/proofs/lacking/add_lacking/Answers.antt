use Rattle.std.proofs.lemmas.Result.{on_ok_weaker, on_err_weaker}
use Rattle.std.proofs.Common.{◌≡◌, ◌++◌, length, take, arith, sym, ap, subst, ◌∙◌, refl, true, []}
use Rattle.fl_opset.specs.Rank.{name_rank}
use Rattle.fl_opset.specs.Spans.{fit}
use Rattle.fl_opset.proofs.Front.{front_short, next_front}
use Rattle.fl_opset.proofs.Lacks.{window_kept, gap_taken}
use Rattle.fl_opset.proofs.MergeLemmas.{on_error}
use Rattle.fl_opset.proofs.Passed.{window_fits, left, left_fits, passed_same, no_length, none_left, none_more, rest_front}
use Rattle.fl_opset.proofs.Wants.{more_taken, gap_wanted, rest_wanted}
use Rattle.fl_opset.proofs.lacking.add_lacking.Goals as goal
use Rattle.fl_opset.proofs.lacking.add_lacking.Goals.{then-is_empty-via-then-is_empty, then-is_empty-via-else-is_empty+then-len-most}

pub returns-in_default-clause-ok : goal.returns-in_default-clause-ok
returns-in_default-clause-ok c =
    let w = c.args.window.now in
    let kept = window_kept w _ _ _ _ _ w.spans [] _ _ c.cut.ensures.whole c.cut-2.ensures.whole refl refl c.rank.ensures c.rank-2.ensures
    c.cut.ensures.below c.cut.ensures.above c.cut-2.ensures.below c.cut-2.ensures.above in
    none_left c.args.most w.spans c.cut-2.result.0.now c.args.lacking.now.items _ c.requires.few (omega (arith, c.in_default.ensures.item.3)) (ap (λ l. take c.args.most (c.args.lacking.now.items ++ l)) kept)

pub count_below-passed-requires : goal.count_below-passed-requires
count_below-passed-requires c = window_fits c.args.window.now _ c.as_slice-spans.ensures

pub loop-span-init : goal.loop-span-init
loop-span-init c =
    let w = c.args.window.now in
    let kept = window_kept w _ _ _ _ _ c.as_slice-spans.result.now [] _ _ c.cut.ensures.whole c.cut-2.ensures.whole c.as_slice-spans.ensures refl c.rank.ensures c.rank-2.ensures
    c.cut.ensures.below c.cut.ensures.above c.cut-2.ensures.below c.cut-2.ensures.above in
    let same = passed_same c.as_slice-spans.result.now c.count_below-passed.result c.cut-2.result.0.now c.rank-3.result c.in-Some.first.now c.cut-2.ensures.first
    c.in-Some.ensures.item.3.0 (c.in-Some.ensures.item.3.1 c.in-Some.first.now) c.rank-3.ensures c.count_below-passed.ensures.below in
    record {
      rises = c.cut-2.ensures.first;
      few = c.requires.few;
      grown = omega arith;
      taken = ap (λ l. take c.args.most (c.args.lacking.now.items ++ l)) (same ∙ kept);
    }

pub returns-then-is_empty-clause-ok : goal.returns-then-is_empty-clause-ok
returns-then-is_empty-clause-ok c = elim c.then-is_empty.branch [
  | then-is_empty-via-then-is_empty w ↦
      none_left c.args.most _ c.loop-span.rest.now c.loop-span.lacking.items _ c.loop-span.invariant.few (no_length _ (sym c.is_empty.ensures ∙ w.if-is_empty.true)) c.loop-span.invariant.taken
  | then-is_empty-via-else-is_empty+then-len-most w ↦
      none_more c.args.most w.len.result _ c.loop-span.rest.now c.loop-span.lacking.items _ (omega (arith, w.len.ensures, c.loop-span.lacking.ok)) (omega (arith, w.if-len-most.true)) c.loop-span.invariant.taken
]

pub cut-requires-in-loop-span : goal.cut-requires-in-loop-span
cut-requires-in-loop-span c = c.loop-span.invariant.rises

pub loop-span-preserved : goal.loop-span-preserved
loop-span-preserved c =
    let w = c.args.window.now in
    let spans = c.as_slice-spans in
    let passed = c.count_below-passed.result in
    let fits : fit (name_rank w.from) (name_rank w.to) spans.result.now ≡ true = subst (λ l. fit (name_rank w.from) (name_rank w.to) l ≡ true) (sym spans.ensures) w.fitting in
    let later = left_fits spans.result.now passed (name_rank w.from) (name_rank w.to) fits in
    record {
      rises = c.cut-in-loop-span-2.ensures.second;
      few = omega (arith, ap length c.in_ok-add_front.ensures.ok, front_short c.args.most (c.loop-span.lacking.items ++ c.cut-in-loop-span.result.0.now));
      grown = more_taken c.args.most _ _ _ _ c.in_ok-add_front.ensures.ok c.loop-span.invariant.grown c.loop-span.invariant.few;
      taken = next_front c.args.most c.loop-span.lacking.items c.cut-in-loop-span.result.0.now _ _ _ c.in_ok-add_front.ensures.ok (gap_taken later.0 (name_rank w.to) (left spans.result.now passed) c.loop-span.span-index c.span-item.result _ c.loop-span.rest.now _ _ _ _ c.loop-span.lacking.items _ _ _ later.1 c.loop-span-test.true c.span-item.is
          c.cut-in-loop-span.ensures.whole c.cut-in-loop-span-2.ensures.whole c.rank-in-loop-span.ensures c.last_rank_of.ensures
          c.cut-in-loop-span.ensures.below c.cut-in-loop-span.ensures.above c.cut-in-loop-span-2.ensures.below c.cut-in-loop-span-2.ensures.above
          refl refl) c.loop-span.invariant.taken;
    }

pub returns-clause-ok : goal.returns-clause-ok
returns-clause-ok c =
    on_ok_weaker c.add_front-2.result (λ done. done ∙ rest_front c.args.most (left c.as_slice-spans.result.now c.count_below-passed.result) c.loop-span.span-index c.loop-span.rest.now c.loop-span.lacking.items _
    c.loop-span-test.false c.loop-span.invariant.taken) c.add_front-2.ensures.ok

pub returns-in_err-add_front-clause-wants : goal.returns-in_err-add_front-clause-wants
returns-in_err-add_front-clause-wants c =
    let w = c.args.window.now in
    let spans = c.as_slice-spans in
    let passed = c.count_below-passed.result in
    let fits : fit (name_rank w.from) (name_rank w.to) spans.result.now ≡ true = subst (λ l. fit (name_rank w.from) (name_rank w.to) l ≡ true) (sym spans.ensures) w.fitting in
    let later = left_fits spans.result.now passed (name_rank w.from) (name_rank w.to) fits in
    let wanted = gap_taken later.0 (name_rank w.to) (left spans.result.now passed) c.loop-span.span-index c.span-item.result _ c.loop-span.rest.now _ _ _ _ _ _ _ _ later.1 c.loop-span-test.true c.span-item.is
    c.cut-in-loop-span.ensures.whole c.cut-in-loop-span-2.ensures.whole c.rank-in-loop-span.ensures c.last_rank_of.ensures
    c.cut-in-loop-span.ensures.below c.cut-in-loop-span.ensures.above c.cut-in-loop-span-2.ensures.below c.cut-in-loop-span-2.ensures.above
    refl refl in
    on_error c.from_residual.result (gap_wanted c.args.most _ c.loop-span.lacking.items _ _ _ c.in_err-add_front.ensures.wants c.loop-span.invariant.grown (ap (take c.args.most) wanted ∙ c.loop-span.invariant.taken))

pub returns-clause-wants : goal.returns-clause-wants
returns-clause-wants c =
    on_err_weaker c.add_front-2.result (λ some.
    rest_wanted c.args.most (left c.as_slice-spans.result.now c.count_below-passed.result) c.loop-span.span-index _ c.loop-span.lacking.items c.loop-span.rest.now _ c.loop-span-test.false
    some c.loop-span.invariant.grown c.loop-span.invariant.taken)
    c.add_front-2.ensures.wants
