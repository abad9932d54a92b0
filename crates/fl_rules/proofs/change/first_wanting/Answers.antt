use Rattle.fl_rules.proofs.Walks.{passed, stopped, skipped, at_end}
use Rattle.fl_rules.proofs.change.first_wanting.Goals as goal
use Rattle.fl_rules.proofs.change.first_wanting.Goals.{in-Some-cap+else-not-has, in_default-cap}

pub returns-then-not-has-clause-found : goal.returns-then-not-has-clause-found
returns-then-not-has-clause-found g c =
    let alike = g.met.H.Has.keeps_effective _ _ c.loop-step.invariant.same c.in-Some-cap.cap in
    c.loop-step.invariant.rest _ (stopped _ _ _ _ c.in-Some.ensures.leads _ c.in-Some-cap.is (λ e. c.has.ensures.answer.fails c.if-not-has.true (alike.1 e)))

pub loop-step-preserved : goal.loop-step-preserved
loop-step-preserved g c =
    let E = g.H.Has.effective c.args.has.now in
    elim c.match-step.branch [
      | in-Some-cap+else-not-has w ↦
          let alike = g.met.H.Has.keeps_effective _ _ c.loop-step.invariant.same w.in-Some-cap.cap in
          record {
            same = rw w.has-is (g.met.H.Has.keeps_on _ _ _ c.loop-step.invariant.same w.has.ensures.same);
            old_rises = c.in-Some.ensures.old_rises;
            new_rises = c.in-Some.ensures.new_rises;
            rest =
                λ r h. c.loop-step.invariant.rest r (passed E _ c.in-Some.ensures.leads _ w.in-Some-cap.is (alike.0 (w.has.ensures.answer.holds w.if-not-has.false)) r h);
          }
      | in_default-cap w ↦ record {
        same = rw w.has-is c.loop-step.invariant.same;
        old_rises = c.in-Some.ensures.old_rises;
        new_rises = c.in-Some.ensures.new_rises;
        rest = λ r h. c.loop-step.invariant.rest r (skipped E _ c.in-Some.ensures.leads w.in_default-cap.is r h);
      }
    ]

pub returns-clause-found : goal.returns-clause-found
returns-clause-found g c = c.loop-step.invariant.rest _ (at_end _ _ _ c.in_default.ensures.0 c.in_default.ensures.1)
