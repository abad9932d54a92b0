use Rattle.std.proofs.Common.{◌≡◌, ◌∙◌, inl, inr, sym}
use Rattle.std.proofs.lemmas.Bool.{false≢true}
use Rattle.fl_labels.specs.SetBy.{In}
use Rattle.fl_bench.specs.Foresight.{Both}
use Rattle.fl_bench.specs.Process.{order_takes}
use Rattle.fl_monitor.specs.parts.Gathers.{OrderDemands}
use Rattle.fl_monitor.proofs.Given.{on_err}
use Rattle.fl_monitor.proofs.Gathering.{all_of, both_gathered, lack_of, lacks_under, retold, under}
use Rattle.fl_monitor.proofs.wanting.note_order.Goals as goal

pub returns-in_err-note_all-clause-err : goal.returns-in_err-note_all-clause-err
returns-in_err-note_all-clause-err g c =
    let E = g.H.Has.effective c.args.has.now in
    let lacks = lack_of E (order_takes c.args.order) _ (c.as_slice.ensures ∙ c.by-taken.ensures) c.in_err-note_all.ensures.err in
    on_err c.from_residual.result (lacks_under E E _ (OrderDemands c.args.guards c.args.labels.now c.args.order) (λ k. (λ e. e, λ e. e)) (λ k m. inl m) lacks)

pub returns-in_err-note_both-clause-err : goal.returns-in_err-note_both-clause-err
returns-in_err-note_both-clause-err g c =
    let E = g.H.Has.effective c.args.has.now in
    let F = g.H.Has.effective c.note_all.new.has in
    let alike = g.met.H.Has.keeps_effective _ _ c.note_all.ensures.same in
    on_err c.from_residual-in_err-note_both.result (lacks_under F E (Both c.args.labels.now.secrecy) (OrderDemands c.args.guards c.args.labels.now c.args.order) alike (λ k m. inr (c.if-guards.true, m)) c.in_err-note_both.ensures.err)

pub returns-in_ok-note_both-clause-ok : goal.returns-in_ok-note_both-clause-ok
returns-in_ok-note_both-clause-ok g c =
    let E = g.H.Has.effective c.args.has.now in
    let F = g.H.Has.effective c.note_all.new.has in
    let alike = g.met.H.Has.keeps_effective _ _ c.note_all.ensures.same in
    let first = all_of E (order_takes c.args.order) _ (c.as_slice.ensures ∙ c.by-taken.ensures) _ _ c.in_ok-note_all.ensures.ok in
    let second = under F E (Both c.args.labels.now.secrecy) _ _ alike c.in_ok-note_both.ensures.ok in
    both_gathered E (In (order_takes c.args.order)) (Both c.args.labels.now.secrecy) (OrderDemands c.args.guards c.args.labels.now c.args.order) _ _ _ first second
    (λ k h. elim h [ inl a ↦ inl a | inr b ↦ inr b.1 ]) (λ k m. inl m) (λ k m. inr (c.if-guards.true, m))

pub returns-else-guards-clause-ok : goal.returns-else-guards-clause-ok
returns-else-guards-clause-ok g c =
    let E = g.H.Has.effective c.args.has.now in
    let first = all_of E (order_takes c.args.order) _ (c.as_slice.ensures ∙ c.by-taken.ensures) _ _ c.in_ok-note_all.ensures.ok in
    retold E (In (order_takes c.args.order)) (OrderDemands c.args.guards c.args.labels.now c.args.order) _ _ (λ k m. inl m)
    (λ k h. elim h [ inl a ↦ a | inr b ↦ absurd (false≢true (sym c.if-guards.false ∙ b.0)) ]) first
