use Rattle.std.proofs.Common.{refl, sym, ◌∙◌}
use Rattle.fl_chains.specs.parts.Legs.{IsLegOf}
use Rattle.fl_chains.proofs.Equal.{caps_same, caps_other}
use Rattle.fl_chains.proofs.StepOrder.{step_total}
use Rattle.fl_chains.proofs.Leasts.{least_none, least_passed, least_taken, least_all}
use Rattle.fl_chains.proofs.legs.least_leg.Goals.{then-leg-left+then-eq, else-leg-left, else-leg-left-via-then-leg-left+else-eq, else-leg-left-via-else-leg-left}
use Rattle.fl_chains.proofs.legs.least_leg.Goals as goal

pub loop-leg-init : goal.loop-leg-init
loop-leg-init c = least_none step_total (IsLegOf c.args.at c.args.left)

pub loop-leg-preserved : goal.loop-leg-preserved
loop-leg-preserved c = elim c.if-leg-left.branch [
  | then-leg-left+then-eq w ↦ rw (w.best-is)
      (least_taken step_total (IsLegOf c.args.at c.args.left) c.args.legs.now _ c.leg-item.result
      c.loop-leg-test.true c.leg-item.is
      c.leg-item.result.step (w.if-leg-left.true, caps_same (sym w.eq.ensures ∙ w.if-eq.true), refl)
      (λ x h. sym h.2)
      c.loop-leg.best _ c.loop-leg.invariant w.lesser.ensures)
  | else-leg-left w ↦ rw (w.best-is)
      (least_passed step_total (IsLegOf c.args.at c.args.left) c.args.legs.now _ c.leg-item.result
      c.loop-leg-test.true c.leg-item.is
      c.loop-leg.best (λ x h. elim w.else-leg-left.branch [
        | else-leg-left-via-then-leg-left+else-eq v ↦ caps_other (sym v.eq.ensures ∙ v.if-eq.false)
            h.1
        | else-leg-left-via-else-leg-left v ↦ v.if-leg-left.false h.0
      ]) c.loop-leg.invariant)
]

pub returns : goal.returns
returns c = least_all step_total (IsLegOf c.args.at c.args.left) c.args.legs.now _ _
    c.loop-leg-test.false c.loop-leg.invariant
