use Rattle.std.proofs.Common.{◌≡◌, ◌∙◌, sym, subst}
use Rattle.fl_monitor.specs.parts.Gathers.{Gathers}
use Rattle.fl_monitor.proofs.Given.{on_err}
use Rattle.fl_monitor.proofs.Gathering.{all_tags, next_tag, skipped_tag, tag_lacks, under}
use Rattle.fl_monitor.proofs.wanting.note_tags.Goals as goal
use Rattle.fl_monitor.proofs.wanting.note_tags.Goals.{then-not-contains+in_ok-note, else-not-contains}

pub loop-tag-preserved : goal.loop-tag-preserved
loop-tag-preserved g c =
    let met = g.met.H.Has in
    let E = g.H.Has.effective c.args.has.now in
    let label = c.args.label.now in
    let tags = c.args.tags.now in
    let i = c.loop-tag.tag-index in
    let tag = c.tag-item.result in
    let same = c.loop-tag.invariant.same in
    elim c.if-not-contains.branch [
      | then-not-contains+in_ok-note w ↦
          let first = under _ E _ _ _ (met.keeps_effective _ _ same) w.in_ok-note.ensures.ok in
          let first = subst (λ x. Gathers E (λ k. k ≡ x) c.loop-tag.wanting w.note.new.wanting) w.of.ensures first in
          rw (w.has-is, w.wanting-is) (record {
            same = met.keeps_on _ _ _ same w.note.ensures.same;
            rest = λ s h. c.loop-tag.invariant.rest s (next_tag c.args.sign label E tags i tag c.loop-tag-test.true c.tag-item.is (sym c.contains.ensures ∙ w.if-not-contains.true) c.loop-tag.wanting w.note.new.wanting s first h);
          })
      | else-not-contains w ↦
          rw (w.has-is, w.wanting-is) (record {
            same = same;
            rest = λ s h. c.loop-tag.invariant.rest s (skipped_tag c.args.sign label E tags i tag c.loop-tag-test.true c.tag-item.is (sym c.contains.ensures ∙ w.if-not-contains.false) c.loop-tag.wanting s h);
          })
    ]

pub returns-clause-ok : goal.returns-clause-ok
returns-clause-ok g c =
    c.loop-tag.invariant.rest _ (all_tags c.args.sign c.args.label.now _ c.args.tags.now c.loop-tag.tag-index c.loop-tag-test.false c.loop-tag.wanting)

pub returns-in_err-note-clause-err : goal.returns-in_err-note-clause-err
returns-in_err-note-clause-err g c =
    let E = g.H.Has.effective c.args.has.now in
    let F = g.H.Has.effective c.loop-tag.has in
    let alike = g.met.H.Has.keeps_effective _ _ c.loop-tag.invariant.same in
    on_err c.from_residual.result (tag_lacks c.args.sign c.args.label.now E c.args.tags.now c.loop-tag.tag-index c.tag-item.result c.loop-tag-test.true c.tag-item.is (sym c.contains.ensures ∙ c.if-not-contains.true)
    (λ e. c.in_err-note.ensures.err (subst F (sym c.of.ensures) ((alike _).1 e))))

pub returns-in_err-note-clause-same : goal.returns-in_err-note-clause-same
returns-in_err-note-clause-same g c = g.met.H.Has.keeps_on _ _ _ c.loop-tag.invariant.same c.note.ensures.same
