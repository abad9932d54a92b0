use Rattle.std.proofs.Common.{refl, sym, ◌∙◌}
use Rattle.std.proofs.lemmas.Bool.{false≢true}
use Rattle.fl_labels.specs.Cap.{cap_cmp}
use Rattle.fl_labels.specs.CapOrder.{cap_total}
use Rattle.fl_labels.specs.SetBy.{In}
use Rattle.fl_chains.proofs.Leasts.{Itself, least_none, least_passed, least_taken, least_all, least_itself}
use Rattle.fl_chains.proofs.legs.least_near.Goals.{then-contains, else-contains}
use Rattle.fl_chains.proofs.legs.least_near.Goals as goal

pub loop-cap-init : goal.loop-cap-init
loop-cap-init c = least_none cap_total (Itself (In c.args.near.now))

pub loop-cap-preserved : goal.loop-cap-preserved
loop-cap-preserved c = elim c.if-contains.branch [
  | then-contains w ↦ rw (w.best-is)
      (least_taken cap_total (Itself (In c.args.near.now)) c.args.caps.now _ c.cap-item.result
      c.loop-cap-test.true c.cap-item.is
      c.cap-item.result (sym c.contains.ensures ∙ w.if-contains.true, refl) (λ x h. sym h.1)
      c.loop-cap.best _ c.loop-cap.invariant w.lesser.ensures)
  | else-contains w ↦ rw (w.best-is)
      (least_passed cap_total (Itself (In c.args.near.now)) c.args.caps.now _ c.cap-item.result
      c.loop-cap-test.true c.cap-item.is
      c.loop-cap.best (λ x h. false≢true (sym w.if-contains.false ∙ c.contains.ensures ∙ h.0))
      c.loop-cap.invariant)
]

pub returns : goal.returns
returns c = least_itself cap_cmp (In c.args.near.now) c.args.caps.now _
    (least_all cap_total (Itself (In c.args.near.now)) c.args.caps.now _ _ c.loop-cap-test.false
    c.loop-cap.invariant)
