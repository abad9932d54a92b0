use Rattle.std.proofs.Common.{sym, ◌∙◌}
use Rattle.fl_labels.specs.NameOrder.{name_total}
use Rattle.fl_ops.specs.Registry.{Listed}
use Rattle.fl_chains.specs.Giver.{Gives}
use Rattle.fl_chains.proofs.Equal.{told_same, told_other}
use Rattle.fl_chains.proofs.Gifts.{gives_this, gives_none, least_global}
use Rattle.fl_chains.proofs.Leasts.{least_none, least_passed, least_taken, least_all}
use Rattle.fl_chains.proofs.giver.giver.Goals.{then-eq, else-eq}
use Rattle.fl_chains.proofs.giver.giver.Goals as goal

pub loop-op-init : goal.loop-op-init
loop-op-init c = least_none name_total (Gives c.args.cap)

pub loop-op-preserved : goal.loop-op-preserved
loop-op-preserved c = elim c.if-eq.branch [
  | then-eq w ↦ rw (w.best-is) (least_taken name_total (Gives c.args.cap) c.args.ops.now _
      c.op-item.result c.loop-op-test.true c.op-item.is
      c.op-item.result.name
      (gives_this c.op-item.result c.gift.result c.args.cap c.gift.ensures
      (told_same c.gift.result c.args.cap (sym c.eq.ensures ∙ w.if-eq.true)))
      (λ x h. sym h.1) c.loop-op.best _ c.loop-op.invariant w.lesser.ensures)
  | else-eq w ↦ rw (w.best-is) (least_passed name_total (Gives c.args.cap) c.args.ops.now _
      c.op-item.result c.loop-op-test.true c.op-item.is
      c.loop-op.best
      (gives_none c.op-item.result c.gift.result c.args.cap c.gift.ensures
      (told_other c.gift.result c.args.cap (sym c.eq.ensures ∙ w.if-eq.false)))
      c.loop-op.invariant)
]

pub returns-clause-least : goal.returns-clause-least
returns-clause-least c = least_all name_total (Gives c.args.cap) c.args.ops.now _ _
    c.loop-op-test.false c.loop-op.invariant

pub returns-clause-global : goal.returns-clause-global
returns-clause-global c =
    least_global (Listed c.args.ops.now) c.args.cap _
    (least_all name_total (Gives c.args.cap) c.args.ops.now _ _ c.loop-op-test.false
    c.loop-op.invariant)
