use Rattle.std.proofs.Common.{false, true, sym, subst, ◌∙◌}
use Rattle.fl_labels.specs.SetBy.{SetBy, In}
use Rattle.fl_labels.specs.Found.{Tells}
use Rattle.fl_ops.specs.OpOrder.{op_cmp}
use Rattle.fl_ops.specs.Registry.{InEffect}
use Rattle.fl_ops.specs.laws.Reaching.{owned_eff}
use Rattle.fl_closure.specs.laws.Told.{told_yes, told_no, came_some, came_none}
use Rattle.fl_closure.specs.laws.Witnesses.{shown}
use Rattle.fl_cache.proofs.cached.CachedIndex.effective.Goals.{then-contains-via-then-contains, then-contains-via-else-contains+then-is_shown}
use Rattle.fl_cache.proofs.cached.CachedIndex.effective.Goals as goal

pub returns-then-contains-clause-answer : goal.returns-then-contains-clause-answer
returns-then-contains-clause-answer c = elim c.then-contains.branch [
  | then-contains-via-then-contains w ↦ told_yes (owned_eff c.args.cap (sym c.contains.ensures ∙ w.if-contains.true))
  | then-contains-via-else-contains+then-is_shown w ↦ told_yes (w.is_shown.ensures w.if-is_shown.true)
]

pub returns-in_default-clause-answer : goal.returns-in_default-clause-answer
returns-in_default-clause-answer c =
    subst (λ (s : SetBy op_cmp). Tells false (InEffect (In s) (In c.args.owned.now) c.args.cap)) c.self.view_is
    (told_no (came_none _ _ _ c.in_default.not-Some c.witness.ensures))

pub returns-clause-answer : goal.returns-clause-answer
returns-clause-answer c =
    let found = came_some _ _ _ _ c.in-Some.is c.witness.ensures in
    subst (λ (s : SetBy op_cmp). Tells true (InEffect (In s) (In c.args.owned.now) c.args.cap)) c.self.view_is
    (told_yes (shown _ c.args.cap found.0 found.1))
