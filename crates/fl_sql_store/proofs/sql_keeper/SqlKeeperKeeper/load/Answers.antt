use Rattle.std.proofs.Common.{◌≡◌, ap, subst, inr, arith, Ok, Err, ◌⊎◌, ◌+◌, refl, ◌∙◌}
use Rattle.sqlite.specs.Held.{state}
use Rattle.sqlite.specs.State.{HasCleanDisk}
use Rattle.fl_store.specs.declared.keeper.KeeperFault.TheVariants.{Memory, Broken, BadRow}
use Rattle.fl_store.specs.Keeping.{AfterLoad}
use Rattle.fl_sql_store.specs.SqlKeeping.{SqlKept, held_in}
use Rattle.fl_sql_tables.specs.Stored.{HasBadRow}
use Rattle.fl_sql_store.proofs.KeepLemmas.{clean_before, ready_as_committed, ready_unchanged, after_load_ok, stays_quiet}
use Rattle.fl_sql_tables.specs.Failing.{FailsToLoad}
use Rattle.fl_sql_store.specs.Breaking.{IsTold, RefusesToLoad}
use Rattle.fl_sql_store.proofs.CauseLemmas.{not_broken, memory_serves, bad_row_serves, load_broken}
use Rattle.fl_sql_store.proofs.sql_keeper.SqlKeeperKeeper.load.Goals as goal

pub invariant_of-self-in-Memory : goal.invariant_of-self-in-Memory
invariant_of-self-in-Memory g c = (
  c.load_on.ensures.idle,
  λ whole clean.
      let old = state g.S.Store c.self.inside.conn in
      let new = state g.S.Store c.load_on.new.conn in
      let ready = c.self.invariant.1 whole (clean_before old new _ c.load_on.ensures.survives clean) in
      ready_as_committed c.self.inside.number old new ready (c.in-Err.ensures.memory clean (ap Err c.in-Memory.is)),
  c.self.invariant.2,
  c.self.invariant.3,
  λ whole. c.in-Err.ensures.spares (not_broken _ _ _ refl refl (memory_serves _ c.in-Memory.is)) ∙ c.self.invariant.4 whole,
)

pub invariant_of-self-in-BadRow : goal.invariant_of-self-in-BadRow
invariant_of-self-in-BadRow g c = (
  c.load_on.ensures.idle,
  λ whole clean.
      let old = state g.S.Store c.self.inside.conn in
      let new = state g.S.Store c.load_on.new.conn in
      let ready = c.self.invariant.1 whole (clean_before old new _ c.load_on.ensures.survives clean) in
      ready_unchanged c.self.inside.number old new ready (rw c.in-BadRow.is at (c.in-Err.ensures.refuses clean)).1,
  c.self.invariant.2,
  c.self.invariant.3,
  λ whole. c.in-Err.ensures.spares (not_broken _ _ _ refl refl (bad_row_serves _ c.in-BadRow.is)) ∙ c.self.invariant.4 whole,
)

pub returns-in-Ok-clause-held : goal.returns-in-Ok-clause-held
returns-in-Ok-clause-held g c clean =
    let old = state g.S.Store c.self.inside.conn in
    let new = state g.S.Store c.load_on.new.conn in
    let before = clean_before old new _ c.load_on.ensures.survives clean in
    let ready = c.self.invariant.1 c.if-self.false before in
    let whole = after_load_ok c.self.inside.number old new ready (g.met.S.Store.settled c.load_on.new.conn.store) (g.met.S.Store.stays c.self.inside.conn.store) c.in-Ok.ops
    (c.in-Ok.ensures.same clean) (c.in-Ok.ensures.ok clean) in
    subst (λ (k : SqlKept _). HasCleanDisk (state g.S.Store k.conn) × AfterLoad (held_in k.number (state g.S.Store k.conn)) (held_in c.self.inside.number new) (Ok c.in-Ok.ops)) c.self.view_is (before, whole)

pub returns-in-BadRow-clause-held : goal.returns-in-BadRow-clause-held
returns-in-BadRow-clause-held g c clean =
    let old = state g.S.Store c.self.inside.conn in
    let new = state g.S.Store c.load_on.new.conn in
    let before = clean_before old new _ c.load_on.ensures.survives clean in
    subst (λ (k : SqlKept _). HasCleanDisk (state g.S.Store k.conn) × AfterLoad (held_in k.number (state g.S.Store k.conn)) (held_in c.self.inside.number new) (Err BadRow)) c.self.view_is
    (before, stays_quiet c.self.inside.number old new clean c.load_on.ensures.survives)

pub returns-in-Memory-clause-held : goal.returns-in-Memory-clause-held
returns-in-Memory-clause-held g c clean =
    let old = state g.S.Store c.self.inside.conn in
    let new = state g.S.Store c.load_on.new.conn in
    let before = clean_before old new _ c.load_on.ensures.survives clean in
    subst (λ (k : SqlKept _). HasCleanDisk (state g.S.Store k.conn) × AfterLoad (held_in k.number (state g.S.Store k.conn)) (held_in c.self.inside.number new) (Err Memory)) c.self.view_is
    (before, stays_quiet c.self.inside.number old new clean c.load_on.ensures.survives)

pub returns-in_default-clause-held : goal.returns-in_default-clause-held
returns-in_default-clause-held g c clean =
    let old = state g.S.Store c.self.inside.conn in
    let new = state g.S.Store c.load_on.new.conn in
    let before = clean_before old new _ c.load_on.ensures.survives clean in
    subst (λ (k : SqlKept _). HasCleanDisk (state g.S.Store k.conn) × AfterLoad (held_in k.number (state g.S.Store k.conn)) (held_in c.self.inside.number new) (Err Broken)) c.self.view_is
    (before, stays_quiet c.self.inside.number old new clean c.load_on.ensures.survives)

pub returns-in-Ok-clause-whole : goal.returns-in-Ok-clause-whole
returns-in-Ok-clause-whole g c clean =
    subst (λ (k : SqlKept _). ¬ HasBadRow ((state g.S.Store k.conn).now.trees 1)) c.self.view_is (c.in-Ok.ensures.good clean)

pub returns-in-BadRow-clause-cause : goal.returns-in-BadRow-clause-cause
returns-in-BadRow-clause-cause g c clean =
    subst (λ (k : SqlKept _). HasBadRow ((state g.S.Store k.conn).now.trees 1)) c.self.view_is (rw c.in-BadRow.is at (c.in-Err.ensures.refuses clean)).0

pub returns-in-Memory-clause-wanted : goal.returns-in-Memory-clause-wanted
returns-in-Memory-clause-wanted g c clean _ =
    let told = subst (RefusesToLoad g.S.Store c.self.inside.conn c.load_on.new.conn c.load_on.new.why) c.in-Memory.is
    (c.in-Err.ensures.refuses clean) in
    subst (λ (k : SqlKept _). RefusesToLoad g.S.Store k.conn c.load_on.new.conn c.load_on.new.why Memory)
    c.self.view_is told

pub returns-in_default-clause-broke : goal.returns-in_default-clause-broke
returns-in_default-clause-broke g c clean _ =
    let told = load_broken g.S.Store c.self.inside.conn c.load_on.new.conn c.load_on.new.why _ c.in-Err.ensures.either
    c.in_default.not-Memory c.in_default.not-BadRow (c.in-Err.ensures.refuses clean) in
    inr (subst (λ (k : SqlKept _). IsTold g.S.Store FailsToLoad k.conn c.load_on.new.conn c.load_on.new.why Broken)
    c.self.view_is told)

pub returns-in_default-clause-counted : goal.returns-in_default-clause-counted
returns-in_default-clause-counted g c clean =
    let told = load_broken g.S.Store c.self.inside.conn c.load_on.new.conn c.load_on.new.why _ c.in-Err.ensures.either
    c.in_default.not-Memory c.in_default.not-BadRow (c.in-Err.ensures.refuses clean) in
    let none : c.self.inside.failures ≡ 0 = c.self.invariant.2 c.if-self.false in
    subst (λ (k : SqlKept _). (1 ≡ k.failures) ⊎ ((1 ≡ k.failures + 1)
    × (IsTold g.S.Store FailsToLoad k.conn c.load_on.new.conn c.load_on.new.why Broken)))
    c.self.view_is (inr (omega (arith, none), told))
