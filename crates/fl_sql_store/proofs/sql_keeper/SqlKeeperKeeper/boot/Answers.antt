use Rattle.std.proofs.Common.{◌≡◌, ap, subst, inl, inr, refl, arith, Ok, Err, ◌⊎◌, ◌+◌, sym, ◌∙◌}
use Rattle.sqlite.specs.Held.{state}
use Rattle.sqlite.specs.State.{HasCleanDisk}
use Rattle.fl_store.specs.declared.keeper.KeeperFault.TheVariants.{Memory, Broken, NamesSpent}
use Rattle.fl_store.specs.Keeping.{AfterBoot}
use Rattle.fl_sql_store.specs.SqlKeeping.{SqlKept, held_in}
use Rattle.fl_sql_store.proofs.KeepLemmas.{ready_as_committed, held_raised, held_spent, held_unchanged, held_or_raised}
use Rattle.fl_sql_store.specs.Breaking.{IsTold, FailsToBoot}
use Rattle.fl_sql_store.proofs.CauseLemmas.{not_broken, memory_serves, told_memory, told_broken, boot_broken, memory_not_spent}
use Rattle.fl_sql_store.proofs.sql_keeper.SqlKeeperKeeper.boot.Goals as goal

pub returns-then-self-clause-held : goal.returns-then-self-clause-held
returns-then-self-clause-held g c clean = (clean, λ after h. (after, h, inl refl))

pub invariant_of-self-in-Memory : goal.invariant_of-self-in-Memory
invariant_of-self-in-Memory g c = (
  c.boot_on.ensures.idle,
  λ whole clean.
      let old = state g.S.Store c.self.inside.conn in
      let new = state g.S.Store c.boot_on.new.conn in
      let ready = c.self.invariant.1 whole (omega (arith, c.boot_on.ensures.clean)) in
      ready_as_committed c.self.inside.number old new ready (c.in-Err.ensures.memory clean (ap Err c.in-Memory.is)),
  c.self.invariant.2,
  c.self.invariant.3,
  λ whole. c.in-Err.ensures.spares (not_broken _ _ _ refl refl (memory_serves _ c.in-Memory.is)) ∙ c.self.invariant.4 whole,
)

pub returns-in-Ok-clause-held : goal.returns-in-Ok-clause-held
returns-in-Ok-clause-held g c clean =
    let old = state g.S.Store c.self.inside.conn in
    let new = state g.S.Store c.boot_on.new.conn in
    let before : HasCleanDisk old = omega (arith, c.boot_on.ensures.clean) in
    let ready = c.self.invariant.1 c.if-self.false before in
    let whole = held_raised c.self.inside.number old new ready (g.met.S.Store.settled c.boot_on.new.conn.store) (g.met.S.Store.stays c.self.inside.conn.store) c.in-Ok.boot (c.in-Ok.ensures.ok clean) in
    subst (λ (k : SqlKept _). HasCleanDisk (state g.S.Store k.conn) × AfterBoot (held_in k.number (state g.S.Store k.conn)) (held_in c.self.inside.number new) (Ok c.in-Ok.boot)) c.self.view_is (before, whole)

pub returns-in-Memory-clause-held : goal.returns-in-Memory-clause-held
returns-in-Memory-clause-held g c clean =
    let old = state g.S.Store c.self.inside.conn in
    let new = state g.S.Store c.boot_on.new.conn in
    let before : HasCleanDisk old = omega (arith, c.boot_on.ensures.clean) in
    let ready = c.self.invariant.1 c.if-self.false before in
    let it = c.in-Err.ensures.memory clean (ap Err c.in-Memory.is) in
    let whole = held_unchanged c.self.inside.number old new ready (g.met.S.Store.settled c.boot_on.new.conn.store) (g.met.S.Store.stays c.self.inside.conn.store) it.is_open it.committed_is in
    subst (λ (k : SqlKept _). HasCleanDisk (state g.S.Store k.conn) × AfterBoot (held_in k.number (state g.S.Store k.conn)) (held_in c.self.inside.number new) (Err Memory)) c.self.view_is (before, whole)

pub returns-in-NamesSpent-clause-held : goal.returns-in-NamesSpent-clause-held
returns-in-NamesSpent-clause-held g c clean =
    let old = state g.S.Store c.self.inside.conn in
    let new = state g.S.Store c.boot_on.new.conn in
    let before : HasCleanDisk old = omega (arith, c.boot_on.ensures.clean) in
    let ready = c.self.invariant.1 c.if-self.false before in
    let whole = held_spent c.self.inside.number old new ready (g.met.S.Store.settled c.boot_on.new.conn.store) (g.met.S.Store.stays c.self.inside.conn.store) (c.in-Err.ensures.spent clean (ap Err c.in-NamesSpent.is)) in
    subst (λ (k : SqlKept _). HasCleanDisk (state g.S.Store k.conn) × AfterBoot (held_in k.number (state g.S.Store k.conn)) (held_in c.self.inside.number new) (Err NamesSpent)) c.self.view_is (before, whole)

pub returns-in_default-clause-held : goal.returns-in_default-clause-held
returns-in_default-clause-held g c clean =
    let old = state g.S.Store c.self.inside.conn in
    let new = state g.S.Store c.boot_on.new.conn in
    let before : HasCleanDisk old = omega (arith, c.boot_on.ensures.clean) in
    let ready = c.self.invariant.1 c.if-self.false before in
    let whole = held_or_raised c.self.inside.number old new ready (g.met.S.Store.settled c.boot_on.new.conn.store) (g.met.S.Store.stays c.self.inside.conn.store) clean c.boot_on.ensures.survives in
    subst (λ (k : SqlKept _). HasCleanDisk (state g.S.Store k.conn) × AfterBoot (held_in k.number (state g.S.Store k.conn)) (held_in c.self.inside.number new) (Err Broken)) c.self.view_is (before, whole)

pub returns-in-Memory-clause-wanted : goal.returns-in-Memory-clause-wanted
returns-in-Memory-clause-wanted g c clean _ =
    let is = c.in-Memory.is in
    let told = told_memory g.S.Store (FailsToBoot c.self.inside.number) c.self.inside.conn c.boot_on.new.conn c.boot_on.new.why _ is
    (c.in-Err.ensures.fails clean (λ spent. memory_not_spent (sym is ∙ spent))) in
    subst (λ (k : SqlKept _). IsTold g.S.Store (FailsToBoot k.number) k.conn c.boot_on.new.conn c.boot_on.new.why Memory)
    c.self.view_is told

pub returns-in_default-clause-broke : goal.returns-in_default-clause-broke
returns-in_default-clause-broke g c clean _ =
    let told = told_broken g.S.Store (FailsToBoot c.self.inside.number) c.self.inside.conn c.boot_on.new.conn c.boot_on.new.why _
    (boot_broken _ c.in-Err.ensures.either c.in_default.not-Memory c.in_default.not-NamesSpent)
    (c.in-Err.ensures.fails clean c.in_default.not-NamesSpent) in
    inr (subst (λ (k : SqlKept _). IsTold g.S.Store (FailsToBoot k.number) k.conn c.boot_on.new.conn c.boot_on.new.why Broken)
    c.self.view_is told)

pub returns-in_default-clause-counted : goal.returns-in_default-clause-counted
returns-in_default-clause-counted g c clean =
    let told = told_broken g.S.Store (FailsToBoot c.self.inside.number) c.self.inside.conn c.boot_on.new.conn c.boot_on.new.why _
    (boot_broken _ c.in-Err.ensures.either c.in_default.not-Memory c.in_default.not-NamesSpent)
    (c.in-Err.ensures.fails clean c.in_default.not-NamesSpent) in
    let none : c.self.inside.failures ≡ 0 = c.self.invariant.2 c.if-self.false in
    subst (λ (k : SqlKept _). (1 ≡ k.failures) ⊎ ((1 ≡ k.failures + 1)
    × (IsTold g.S.Store (FailsToBoot k.number) k.conn c.boot_on.new.conn c.boot_on.new.why Broken)))
    c.self.view_is (inr (omega (arith, none), told))
