use Rattle.std.specs.Prelude.{⊤}
use Rattle.fl_labels.specs.laws.Searches.{passed_by, stopped_at, at_end}
use Rattle.fl_monitor.proofs.grant.first_unheld.Goals as goal

pub returns-then-not-has-clause-first : goal.returns-then-not-has-clause-first
returns-then-not-has-clause-first g c =
    let alike = g.met.H.Has.keeps_effective _ _ c.loop-cap.invariant.same _ in
    c.loop-cap.invariant.first _ (stopped_at (λ _. ⊤) (g.H.Has.effective c.args.has.now) c.args.caps.now c.loop-cap.cap-index c.cap-item.result c.loop-cap-test.true c.cap-item.is tt (λ d. c.has.ensures.answer.fails c.if-not-has.true (alike.1 d)))

pub returns-then-not-has-clause-same : goal.returns-then-not-has-clause-same
returns-then-not-has-clause-same g c = g.met.H.Has.keeps_on _ _ _ c.loop-cap.invariant.same c.has.ensures.same

pub loop-cap-preserved : goal.loop-cap-preserved
loop-cap-preserved g c =
    let alike = g.met.H.Has.keeps_effective _ _ c.loop-cap.invariant.same _ in
    record {
      same = g.met.H.Has.keeps_on _ _ _ c.loop-cap.invariant.same c.has.ensures.same;
      first = λ r h. c.loop-cap.invariant.first r (passed_by (λ _. ⊤) (g.H.Has.effective c.args.has.now) c.args.caps.now c.loop-cap.cap-index c.cap-item.result c.loop-cap-test.true c.cap-item.is (λ _. alike.0 (c.has.ensures.answer.holds c.if-not-has.false)) r h);
    }

pub returns-clause-first : goal.returns-clause-first
returns-clause-first g c = c.loop-cap.invariant.first _ (at_end (λ _. ⊤) (g.H.Has.effective c.args.has.now) c.args.caps.now c.loop-cap.cap-index c.loop-cap-test.false)
