use Rattle.std.proofs.Common.{◌≡◌, ◌∙◌, sym, ap, subst}
use Rattle.fl_rules.specs.Safety.{Takes}
use Rattle.fl_labels.specs.SetBy.{empty}
use Rattle.fl_monitor.specs.parts.Gathers.{Gathers, IsLacking}
use Rattle.fl_monitor.proofs.Given.{on_err}
use Rattle.fl_monitor.proofs.Gathering.{both_from, both_gathered, both_to, err_then, lacks_under, ok_then, to_or_from, under}
use Rattle.fl_monitor.proofs.wanting.note_both.Goals as goal

pub returns-in_err-note_change-clause-err : goal.returns-in_err-note_change-clause-err
returns-in_err-note_change-clause-err g c =
    let lacks = subst (λ l. IsLacking (g.H.Has.effective c.args.has.now) (Takes l c.args.label.now)) c.new-nothing.ensures c.in_err-note_change.ensures.err in
    on_err c.from_residual.result (lacks_under _ _ _ _ (λ k. (λ e. e, λ e. e)) (both_from c.args.label.now) lacks)

pub returns-clause-ok : goal.returns-clause-ok
returns-clause-ok g c =
    let E = g.H.Has.effective c.args.has.now in
    let F = g.H.Has.effective c.note_change.new.has in
    let label = c.args.label.now in
    let alike = g.met.H.Has.keeps_effective _ _ c.note_change.ensures.same in
    let first = subst (λ l. Gathers E (Takes l label) c.args.wanting.now c.note_change.new.wanting)
    c.new-nothing.ensures c.in_ok-note_change.ensures.ok in
    ok_then c.note_change-2.result c.note_change-2.ensures.ok (λ h.
    let second = subst (λ l. Gathers F (Takes label l) c.note_change.new.wanting c.note_change-2.new.wanting)
    c.new-nothing.ensures h in
    both_gathered E _ _ _ _ _ _ first (under F E _ _ _ alike second) (to_or_from label) (both_from label) (both_to label))

pub returns-clause-err : goal.returns-clause-err
returns-clause-err g c =
    let E = g.H.Has.effective c.args.has.now in
    let F = g.H.Has.effective c.note_change.new.has in
    let label = c.args.label.now in
    let alike = g.met.H.Has.keeps_effective _ _ c.note_change.ensures.same in
    err_then c.note_change-2.result c.note_change-2.ensures.err (λ h.
    let lacks = subst (λ l. IsLacking F (Takes label l)) c.new-nothing.ensures h in
    lacks_under F E _ _ alike (both_to label) lacks)
