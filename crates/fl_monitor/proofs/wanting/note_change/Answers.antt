use Rattle.std.proofs.Common.{◌≡◌, ◌∙◌, sym, ap, subst}
use Rattle.fl_labels.specs.Name.{name_cmp}
use Rattle.fl_labels.specs.NameOrder.{name_total, name_exact}
use Rattle.fl_labels.specs.SetBy.{SetBy, of_list, of_list-members}
use Rattle.fl_monitor.specs.declared.wanting.Sign.TheVariants.{Plus, Minus}
use Rattle.fl_monitor.specs.parts.Gathers.{Gathers, IsLacking, OfMissing}
use Rattle.fl_monitor.proofs.Given.{on_err}
use Rattle.fl_monitor.proofs.Gathering.{both_gathered, err_then, gains, gains_or_losses, lacks_under, losses, ok_then, under}
use Rattle.fl_monitor.proofs.wanting.note_change.Goals as goal

pub returns-in_err-note_tags-clause-err : goal.returns-in_err-note_tags-clause-err
returns-in_err-note_tags-clause-err g c =
    let is = ap of_list c.as_slice.ensures ∙ of_list-members name_total name_exact c.args.to.now in
    let lacks = subst (λ l. IsLacking (g.H.Has.effective c.args.has.now) (OfMissing Plus l c.args.from.now)) is c.in_err-note_tags.ensures.err in
    on_err c.from_residual.result (lacks_under _ _ _ _ (λ k. (λ e. e, λ e. e)) (gains c.args.from.now c.args.to.now) lacks)

pub returns-clause-ok : goal.returns-clause-ok
returns-clause-ok g c =
    let E = g.H.Has.effective c.args.has.now in
    let F = g.H.Has.effective c.note_tags.new.has in
    let from = c.args.from.now in
    let to = c.args.to.now in
    let alike = g.met.H.Has.keeps_effective _ _ c.note_tags.ensures.same in
    let first = subst (λ l. Gathers E (OfMissing Plus l from) c.args.wanting.now c.note_tags.new.wanting)
    (ap of_list c.as_slice.ensures ∙ of_list-members name_total name_exact to) c.in_ok-note_tags.ensures.ok in
    ok_then c.note_tags-2.result c.note_tags-2.ensures.ok (λ h.
    let second = subst (λ l. Gathers F (OfMissing Minus l to) c.note_tags.new.wanting c.note_tags-2.new.wanting)
    (ap of_list c.as_slice-2.ensures ∙ of_list-members name_total name_exact from) h in
    both_gathered E _ _ _ _ _ _ first (under F E _ _ _ alike second) (gains_or_losses from to) (gains from to) (losses from to))

pub returns-clause-err : goal.returns-clause-err
returns-clause-err g c =
    let E = g.H.Has.effective c.args.has.now in
    let F = g.H.Has.effective c.note_tags.new.has in
    let from = c.args.from.now in
    let to = c.args.to.now in
    let alike = g.met.H.Has.keeps_effective _ _ c.note_tags.ensures.same in
    err_then c.note_tags-2.result c.note_tags-2.ensures.err (λ h.
    let lacks = subst (λ l. IsLacking F (OfMissing Minus l to))
    (ap of_list c.as_slice-2.ensures ∙ of_list-members name_total name_exact from) h in
    lacks_under F E _ _ alike (losses from to) lacks)
