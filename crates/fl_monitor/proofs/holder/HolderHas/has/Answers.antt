use Rattle.std.proofs.Common.{sym, subst, ◌∙◌}
use Rattle.std.specs.List.Sorted.{IsStrictlySortedBy}
use Rattle.fl_labels.specs.Cap.{cap_cmp}
use Rattle.fl_labels.specs.Found.{Tells}
use Rattle.fl_labels.specs.SetBy.{In, members_rise}
use Rattle.fl_ops.specs.Registry.{InEffect, Listed}
use Rattle.fl_monitor.proofs.Looks.{owned_told}
use Rattle.fl_monitor.proofs.holder.HolderHas.has.Goals.{else-caps-gt-FEW-via-then-caps-gt-FEW+else-meet, else-caps-gt-FEW-via-else-caps-gt-FEW}
use Rattle.fl_monitor.proofs.holder.HolderHas.has.Goals as goal

pub meet-requires : goal.meet-requires
meet-requires g c = subst (IsStrictlySortedBy cap_cmp) (sym c.as_slice-caps.ensures) (members_rise c.args.self.now.owned.now)

pub returns-then-meet-clause-answer : goal.returns-then-meet-clause-answer
returns-then-meet-clause-answer g c = owned_told _ _ _ c.args.cap c.as_slice-caps.ensures (sym c.meet.ensures ∙ c.if-meet.true)

pub returns-clause-answer : goal.returns-clause-answer
returns-clause-answer g c = elim c.else-caps-gt-FEW.branch [
  | else-caps-gt-FEW-via-then-caps-gt-FEW+else-meet w ↦ subst (λ h. Tells c.effective.result (InEffect (Listed (g.V.View.list h.view.now)) (In h.owned.now) c.args.cap)) w.self-is c.effective.ensures.answer
  | else-caps-gt-FEW-via-else-caps-gt-FEW w ↦ subst (λ h. Tells c.effective.result (InEffect (Listed (g.V.View.list h.view.now)) (In h.owned.now) c.args.cap)) w.self-is c.effective.ensures.answer
]
