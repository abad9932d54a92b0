use Rattle.std.specs.Prelude.{⊤}
use Rattle.fl_labels.specs.laws.Searches.{passed_by, stopped_at, at_end}
use Rattle.fl_labels.specs.Caps.{Dual}
use Rattle.fl_labels.specs.laws.Duals.{dual_same}
use Rattle.fl_rules.proofs.emission.first_kept.Goals as goal

pub returns-then-not-has_both-clause-first : goal.returns-then-not-has_both-clause-first
returns-then-not-has_both-clause-first g c =
    let alike = dual_same (g.met.H.Has.keeps_effective _ _ c.loop-tag.invariant.same) _ in
    c.loop-tag.invariant.first _ (stopped_at (λ _. ⊤) (Dual (g.H.Has.effective c.args.has.now)) c.args.tags.now c.loop-tag.tag-index c.tag-item.result c.loop-tag-test.true c.tag-item.is tt (λ d. c.has_both.ensures.answer.fails c.if-not-has_both.true (alike.1 d)))

pub returns-then-not-has_both-clause-same : goal.returns-then-not-has_both-clause-same
returns-then-not-has_both-clause-same g c = g.met.H.Has.keeps_on _ _ _ c.loop-tag.invariant.same c.has_both.ensures.same

pub loop-tag-preserved : goal.loop-tag-preserved
loop-tag-preserved g c =
    let alike = dual_same (g.met.H.Has.keeps_effective _ _ c.loop-tag.invariant.same) _ in
    record {
      same = g.met.H.Has.keeps_on _ _ _ c.loop-tag.invariant.same c.has_both.ensures.same;
      first =
          λ r h. c.loop-tag.invariant.first r (passed_by (λ _. ⊤) (Dual (g.H.Has.effective c.args.has.now)) c.args.tags.now c.loop-tag.tag-index c.tag-item.result c.loop-tag-test.true c.tag-item.is (λ _. alike.0 (c.has_both.ensures.answer.holds c.if-not-has_both.false)) r h);
    }

pub returns-clause-first : goal.returns-clause-first
returns-clause-first g c =
    c.loop-tag.invariant.first _ (at_end (λ _. ⊤) (Dual (g.H.Has.effective c.args.has.now)) c.args.tags.now c.loop-tag.tag-index c.loop-tag-test.false)
