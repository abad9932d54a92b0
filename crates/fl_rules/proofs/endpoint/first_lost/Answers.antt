use Rattle.fl_labels.specs.laws.Duals.{dual_same}
use Rattle.fl_rules.proofs.Losses.{passed, skipped, stopped, at_end}
use Rattle.fl_rules.proofs.Walks.{members_up}
use Rattle.fl_rules.proofs.Endpoints.{missing_found}
use Rattle.fl_labels.specs.Caps.{Dual}
use Rattle.fl_rules.proofs.endpoint.first_lost.Goals as goal
use Rattle.fl_rules.proofs.endpoint.first_lost.Goals.{in-Some-tag_lost+else-not-has_both, in_default-tag_lost}

pub loop-step-init : goal.loop-step-init
loop-step-init g c = record {
  same = g.met.H.Has.keeps_itself _;
  old_rises = members_up c.args.from.now _ c.as_slice-old.ensures;
  new_rises = members_up c.args.to.now _ c.as_slice-new.ensures;
  rest = λ r h. missing_found _ _ _ _ _ r c.as_slice-old.ensures c.as_slice-new.ensures h;
}

pub returns-then-not-has_both-clause-found : goal.returns-then-not-has_both-clause-found
returns-then-not-has_both-clause-found g c =
    let alike = dual_same (g.met.H.Has.keeps_effective _ _ c.loop-step.invariant.same) _ in
    c.loop-step.invariant.rest _ (stopped _ _ _ _ c.in-Some.ensures.leads _ c.in-Some-tag_lost.ensures (λ d. c.has_both.ensures.answer.fails c.if-not-has_both.true (alike.1 d)))

pub loop-step-preserved : goal.loop-step-preserved
loop-step-preserved g c =
    let D = Dual (g.H.Has.effective c.args.has.now) in
    elim c.match-tag_lost.branch [
      | in-Some-tag_lost+else-not-has_both w ↦
          let alike = dual_same (g.met.H.Has.keeps_effective _ _ c.loop-step.invariant.same) _ in
          record {
            same = rw w.has-is (g.met.H.Has.keeps_on _ _ _ c.loop-step.invariant.same w.has_both.ensures.same);
            old_rises = c.in-Some.ensures.old_rises;
            new_rises = c.in-Some.ensures.new_rises;
            rest =
                λ r h. c.loop-step.invariant.rest r (passed D _ c.in-Some.ensures.leads _ w.in-Some-tag_lost.ensures (alike.0 (w.has_both.ensures.answer.holds w.if-not-has_both.false)) r h);
          }
      | in_default-tag_lost w ↦ record {
        same = rw w.has-is c.loop-step.invariant.same;
        old_rises = c.in-Some.ensures.old_rises;
        new_rises = c.in-Some.ensures.new_rises;
        rest =
            λ r h. c.loop-step.invariant.rest r (skipped D _ c.in-Some.ensures.leads w.in_default-tag_lost.ensures r h);
      }
    ]

pub returns-clause-found : goal.returns-clause-found
returns-clause-found g c = c.loop-step.invariant.rest _ (at_end _ _ _ c.in_default.ensures)
