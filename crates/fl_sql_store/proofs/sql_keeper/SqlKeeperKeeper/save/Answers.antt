use Rattle.std.proofs.Common.{◌≡◌, ◌<◌, [], ◌∷◌, length, List, ap, subst, sym, inl, inr, refl, arith, Ok, Err, ◌⊎◌, ◌+◌, ◌∙◌}
use Rattle.sqlite.specs.Held.{state}
use Rattle.sqlite.specs.State.{HasCleanDisk}
use Rattle.fl_ops.specs.declared.op.Op.{Op}
use Rattle.fl_store.specs.declared.keeper.KeeperFault.TheVariants.{Memory, Broken}
use Rattle.fl_store.specs.Kept.{with_batch}
use Rattle.fl_store.specs.Keeping.{AfterSave}
use Rattle.fl_store.specs.laws.KeptSets.{with-none}
use Rattle.fl_sql_store.specs.SqlKeeping.{SqlKept, held_in}
use Rattle.fl_sql_store.proofs.KeepLemmas.{ready_saved, ready_as_committed, held_saved, held_unchanged, held_either}
use Rattle.fl_sql_tables.specs.Failing.{FailsToSave}
use Rattle.fl_sql_store.specs.Breaking.{IsTold}
use Rattle.fl_sql_store.proofs.CauseLemmas.{not_broken, memory_serves, told_memory, told_broken, save_broken}
use Rattle.fl_sql_store.proofs.sql_keeper.SqlKeeperKeeper.save.Goals as goal

pub returns-then-self-clause-held : goal.returns-then-self-clause-held
returns-then-self-clause-held g c clean = (clean, λ after h. (after, h, inl refl))

none_left : (ops : List Op) → length ops ≡ 0 → ops ≡ []
none_left [] none = refl
none_left (op ∷ ops) none = absurd (omega arith)

pub returns-then-is_empty-clause-held : goal.returns-then-is_empty-clause-held
returns-then-is_empty-clause-held g c clean =
    let none : length c.args.ops.now ≡ 0 = grind arith in
    (clean, λ after h. (after, h, subst (λ ops. after ≡ with_batch after ops) (sym (none_left c.args.ops.now none)) (ap (λ s. record after { saved = s }) (sym (with-none after.saved)))))

pub invariant_of-self : goal.invariant_of-self
invariant_of-self g c = (
  c.save_on.ensures.idle,
  λ whole clean.
      let old = state g.S.Store c.self.inside.conn in
      let new = state g.S.Store c.save_on.new.conn in
      let ready = c.self.invariant.1 whole (omega (arith, c.save_on.ensures.clean)) in
      ready_saved c.self.inside.number c.args.ops.now old new ready (c.in-Ok.ensures.ok clean (λ _. ready.schema)),
  c.self.invariant.2,
  c.self.invariant.3,
  λ whole. c.in-Ok.ensures.spares (λ broken. absurd (let wrong = broken in cc)) ∙ c.self.invariant.4 whole,
)

pub invariant_of-self-in-Memory : goal.invariant_of-self-in-Memory
invariant_of-self-in-Memory g c = (
  c.save_on.ensures.idle,
  λ whole clean.
      let old = state g.S.Store c.self.inside.conn in
      let new = state g.S.Store c.save_on.new.conn in
      let ready = c.self.invariant.1 whole (omega (arith, c.save_on.ensures.clean)) in
      ready_as_committed c.self.inside.number old new ready (c.in-Err.ensures.memory clean (λ _. ready.schema) (ap Err c.in-Memory.is)),
  c.self.invariant.2,
  c.self.invariant.3,
  λ whole. c.in-Err.ensures.spares (not_broken _ _ _ refl refl (memory_serves _ c.in-Memory.is)) ∙ c.self.invariant.4 whole,
)

pub returns-in-Ok-clause-held : goal.returns-in-Ok-clause-held
returns-in-Ok-clause-held g c clean =
    let old = state g.S.Store c.self.inside.conn in
    let new = state g.S.Store c.save_on.new.conn in
    let before : HasCleanDisk old = omega (arith, c.save_on.ensures.clean) in
    let ready = c.self.invariant.1 c.if-self.false before in
    let whole = held_saved c.self.inside.number old new ready (g.met.S.Store.settled c.save_on.new.conn.store) (g.met.S.Store.stays c.self.inside.conn.store) c.args.ops.now
    (c.in-Ok.ensures.ok clean (λ _. ready.schema)) in
    subst (λ (k : SqlKept _). HasCleanDisk (state g.S.Store k.conn) × AfterSave c.args.ops.now (held_in k.number (state g.S.Store k.conn)) (held_in c.self.inside.number new) (Ok tt)) c.self.view_is (before, whole)

pub returns-in-Memory-clause-held : goal.returns-in-Memory-clause-held
returns-in-Memory-clause-held g c clean =
    let old = state g.S.Store c.self.inside.conn in
    let new = state g.S.Store c.save_on.new.conn in
    let before : HasCleanDisk old = omega (arith, c.save_on.ensures.clean) in
    let ready = c.self.invariant.1 c.if-self.false before in
    let it = c.in-Err.ensures.memory clean (λ _. ready.schema) (ap Err c.in-Memory.is) in
    let whole = held_unchanged c.self.inside.number old new ready (g.met.S.Store.settled c.save_on.new.conn.store) (g.met.S.Store.stays c.self.inside.conn.store) it.is_open it.committed_is in
    subst (λ (k : SqlKept _). HasCleanDisk (state g.S.Store k.conn) × AfterSave c.args.ops.now (held_in k.number (state g.S.Store k.conn)) (held_in c.self.inside.number new) (Err Memory)) c.self.view_is (before, whole)

pub returns-in_default-clause-held : goal.returns-in_default-clause-held
returns-in_default-clause-held g c clean =
    let old = state g.S.Store c.self.inside.conn in
    let new = state g.S.Store c.save_on.new.conn in
    let before : HasCleanDisk old = omega (arith, c.save_on.ensures.clean) in
    let ready = c.self.invariant.1 c.if-self.false before in
    let whole = held_either c.self.inside.number old new ready (g.met.S.Store.settled c.save_on.new.conn.store) (g.met.S.Store.stays c.self.inside.conn.store) c.args.ops.now clean
    (c.save_on.ensures.survives (λ _. ready.schema)) in
    subst (λ (k : SqlKept _). HasCleanDisk (state g.S.Store k.conn) × AfterSave c.args.ops.now (held_in k.number (state g.S.Store k.conn)) (held_in c.self.inside.number new) (Err Broken)) c.self.view_is (before, whole)

pub returns-in-Memory-clause-wanted : goal.returns-in-Memory-clause-wanted
returns-in-Memory-clause-wanted g c clean _ =
    let old = state g.S.Store c.self.inside.conn in
    let before : HasCleanDisk old = omega (arith, c.save_on.ensures.clean) in
    let ready = c.self.invariant.1 c.if-self.false before in
    let some : 0 < length c.args.ops.now = grind arith in
    let fails = c.in-Err.ensures.fails clean (λ _. ready.schema) ready.is_open in
    let told = told_memory g.S.Store (FailsToSave c.args.ops.now) c.self.inside.conn c.save_on.new.conn c.save_on.new.why _ c.in-Memory.is fails in
    subst (λ (k : SqlKept _). (0 < length c.args.ops.now) × IsTold g.S.Store (FailsToSave c.args.ops.now) k.conn c.save_on.new.conn c.save_on.new.why Memory)
    c.self.view_is (some, told)

pub returns-in_default-clause-broke : goal.returns-in_default-clause-broke
returns-in_default-clause-broke g c clean _ =
    let old = state g.S.Store c.self.inside.conn in
    let before : HasCleanDisk old = omega (arith, c.save_on.ensures.clean) in
    let ready = c.self.invariant.1 c.if-self.false before in
    let some : 0 < length c.args.ops.now = grind arith in
    let fails = c.in-Err.ensures.fails clean (λ _. ready.schema) ready.is_open in
    let told = told_broken g.S.Store (FailsToSave c.args.ops.now) c.self.inside.conn c.save_on.new.conn c.save_on.new.why _
    (save_broken _ c.in-Err.ensures.either c.in_default.not-Memory) fails in
    inr (subst (λ (k : SqlKept _). (0 < length c.args.ops.now) × IsTold g.S.Store (FailsToSave c.args.ops.now) k.conn c.save_on.new.conn c.save_on.new.why Broken)
    c.self.view_is (some, told))

pub returns-in_default-clause-counted : goal.returns-in_default-clause-counted
returns-in_default-clause-counted g c clean =
    let old = state g.S.Store c.self.inside.conn in
    let before : HasCleanDisk old = omega (arith, c.save_on.ensures.clean) in
    let ready = c.self.invariant.1 c.if-self.false before in
    let some : 0 < length c.args.ops.now = grind arith in
    let fails = c.in-Err.ensures.fails clean (λ _. ready.schema) ready.is_open in
    let told = told_broken g.S.Store (FailsToSave c.args.ops.now) c.self.inside.conn c.save_on.new.conn c.save_on.new.why _
    (save_broken _ c.in-Err.ensures.either c.in_default.not-Memory) fails in
    let none : c.self.inside.failures ≡ 0 = c.self.invariant.2 c.if-self.false in
    subst (λ (k : SqlKept _). (1 ≡ k.failures) ⊎ ((1 ≡ k.failures + 1)
    × ((0 < length c.args.ops.now) × IsTold g.S.Store (FailsToSave c.args.ops.now) k.conn c.save_on.new.conn c.save_on.new.why Broken)))
    c.self.view_is (inr (omega (arith, none), (some, told)))
