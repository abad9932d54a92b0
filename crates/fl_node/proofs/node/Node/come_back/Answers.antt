use Rattle.std.proofs.Common.{◌≡◌, subst, sym, ap, inl, Err}
use Rattle.fl_system.specs.declared.state.Pending.TheVariants.{Unsaved}
use Rattle.fl_system.specs.declared.state.State.TheVariants.{Running}
use Rattle.fl_system.specs.Waiting.{NoneUnsaved, IsRunning}
use Rattle.fl_system.specs.Openings.{Restarts}
use Rattle.fl_node.proofs.RecoverLemmas.{restarts_lost, restarts_none, saved_first}
use Rattle.fl_node.proofs.CauseLemmas.{loads_own, loads_stored, stored_then}
use Rattle.fl_node.proofs.node.Node.come_back.Goals as goal

pub returns-then-not-keeps-clause-restarts : goal.returns-then-not-keeps-clause-restarts
returns-then-not-keeps-clause-restarts g c honest =
    let held = c.open_again.ensures.opens honest in
    (held.0, λ after is. let b = held.1 after is in (b.0, b.1, restarts_lost _ _ _ _ _ _ c.if-not-keeps.true b.2))

pub returns-in_default-clause-restarts : goal.returns-in_default-clause-restarts
returns-in_default-clause-restarts g c honest =
    let held = c.open_again-in_default.ensures.opens honest in
    let none = subst (λ x. NoneUnsaved x.node.state c.in_default.field-0) c.self.view_is c.in_default.ensures.err in
    (held.0, λ after is. let b = held.1 after is in (b.0, b.1, restarts_none _ _ _ _ _ _ _ none b.2))

pub returns-in-Err-clause-restarts : goal.returns-in-Err-clause-restarts
returns-in-Err-clause-restarts g c honest =
    let held = c.in-Err.ensures.saves honest in
    let pending = subst (λ x. x.node.state ≡ Running (Unsaved c.in-Ok.field-0.now)) c.self.view_is c.in-Ok.ensures.ok in
    (held.0, λ after is. let b = held.1 after is in (b.0, b.1, Restarts.not_saved c.if-not-keeps.false pending b.2))

pub returns-clause-restarts : goal.returns-clause-restarts
returns-clause-restarts g c honest =
    let opened = c.open_again-2.ensures.opens honest in
    let held = c.in_default-save.ensures.saves opened.0 in (
      held.0,
      λ after is.
          let b = opened.1 after is in
          let a = held.1 b.0 b.1 in
          (a.0, a.1, saved_first _ _ _ _ _ _ _ _ c.if-not-keeps.false a.2 b.2),
    )

pub returns-then-not-keeps-clause-cause : goal.returns-then-not-keeps-clause-cause
returns-then-not-keeps-clause-cause g c = loads_own g.K.Keeper.custody _ _ _ _ _ (λ honest. (c.open_again.ensures.opens honest).0) c.open_again.ensures.cause

pub returns-in_default-clause-cause : goal.returns-in_default-clause-cause
returns-in_default-clause-cause g c = loads_own g.K.Keeper.custody _ _ _ _ _ (λ honest. (c.open_again-in_default.ensures.opens honest).0) c.open_again-in_default.ensures.cause

pub returns-in-Err-clause-cause : goal.returns-in-Err-clause-cause
returns-in-Err-clause-cause g c failed = inl (c.in-Err.ensures.cause (ap Err failed))

pub returns-clause-cause : goal.returns-clause-cause
returns-clause-cause g c =
    let pending = subst (λ x. x.node.state ≡ Running (Unsaved c.in-Ok.field-0.now)) c.self.view_is c.in-Ok.ensures.ok in
    loads_stored g.K.Keeper.custody _ _ _ _ _ _ c.in_default-save.ensures.keeper (λ honest.
    let opened = c.open_again-2.ensures.opens honest in
    let held = c.in_default-save.ensures.saves opened.0 in
    (opened.0, held.0, stored_then _ _ _ _ _ pending held.1)) c.open_again-2.ensures.cause

pub returns-in-Err-clause-broken : goal.returns-in-Err-clause-broken
returns-in-Err-clause-broken g c stopped =
    let pending = subst (λ x. x.node.state ≡ Running (Unsaved c.in-Ok.field-0.now)) c.self.view_is c.in-Ok.ensures.ok in
    absurd (stopped (subst IsRunning (sym pending) tt))

pub returns-clause-broken : goal.returns-clause-broken
returns-clause-broken g c stopped =
    let pending = subst (λ x. x.node.state ≡ Running (Unsaved c.in-Ok.field-0.now)) c.self.view_is c.in-Ok.ensures.ok in
    absurd (stopped (subst IsRunning (sym pending) tt))

pub returns-in-Err-clause-other : goal.returns-in-Err-clause-other
returns-in-Err-clause-other g c stopped =
    let pending = subst (λ x. x.node.state ≡ Running (Unsaved c.in-Ok.field-0.now)) c.self.view_is c.in-Ok.ensures.ok in
    absurd (stopped (subst IsRunning (sym pending) tt))

pub returns-clause-other : goal.returns-clause-other
returns-clause-other g c stopped =
    let pending = subst (λ x. x.node.state ≡ Running (Unsaved c.in-Ok.field-0.now)) c.self.view_is c.in-Ok.ensures.ok in
    absurd (stopped (subst IsRunning (sym pending) tt))
