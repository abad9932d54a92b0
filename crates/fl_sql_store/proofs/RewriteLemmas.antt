-- What a database of the first format is opened as.
use Rattle.std.proofs.Common.{◌≡◌, ◌<◌, ◌≤◌, ◌⊎◌, inl, inr, ℕ, ◌-◌, ◌^◌, List, [], ◌∷◌, map, length, append-nil, Option, Some, None, Bool, false, IsTrue, Ok, Err, Result, OnOk, IfErr, refl, sym, ap, subst, ◌∙◌, arith}
use Rattle.sqlite.specs.declared.error.Error.{Error}
use Rattle.sqlite.specs.declared.error.Error.TheVariants.{SqliteFailure}
use Rattle.sqlite.specs.declared.error.ErrorCode.TheVariants.{OutOfMemory}
use Rattle.sqlite.specs.Effect.{Database}
use Rattle.sqlite.specs.State.{State, HasCleanDisk, IsUnchanged, Survives}
use Rattle.sqlite.proofs.Callers.{unchanged_then}
use Rattle.sqlite.proofs.StateLemmas.{survives_then, survives_weaker}
use Rattle.fl_labels.specs.SetBy.{SetBy, of_list, len, len-empty, len-members, members}
use Rattle.fl_ops.specs.declared.format.Format.TheVariants.{One, Two}
use Rattle.fl_ops.specs.declared.op.Op.{Op}
use Rattle.fl_ops.specs.OpOrder.{op_cmp}
use Rattle.fl_store.specs.declared.keeper.KeeperFault.{KeeperFault}
use Rattle.fl_store.specs.declared.keeper.KeeperFault.TheVariants.{Memory, Broken, WrongNode, BadRow, NamesSpent}
use Rattle.fl_store.specs.Kept.{Kept, HasNamesOnce}
use Rattle.fl_store.specs.Keeping.{Stays}
use Rattle.fl_sql_tables.proofs.MigrateLemmas.{migrate_within}
use Rattle.fl_sql_tables.proofs.QueryLemmas.{runs_out_then, kept_if_same}
use Rattle.fl_sql_tables.specs.Failing.{RunsOut}
use Rattle.fl_sql_tables.specs.Spelling.{op_of}
use Rattle.sqlite.specs.Order.{Row}
use Rattle.sqlite.specs.Tree.{Trees}
use Rattle.std.specs.List.{list_any, filter_map, cons_option}
use Rattle.std.specs.List.Sorted.{IsPermutation}
use Rattle.std.proofs.lemmas.List.Sorted.{IsPermutation-refl}
use Rattle.std.proofs.lemmas.Bool.{cases_Bool}
use Rattle.std.specs.Prelude.{is_none, ◌||◌}
use Rattle.fl_sql_tables.specs.Stored.{HasBadRow, HasReadGood, IsListed, boot_in, kept_in, kept_by, op_in, ops_in, shown_op}
use Rattle.fl_sql_tables.specs.Serving.{IsReady}
use Rattle.fl_sql_tables.specs.Migrating.{IsFormer, IsMigrated, Migrates, MigratesTo}
use Rattle.fl_sql_store.specs.SqlKeeping.{held_in}
use Rattle.fl_sql_store.specs.Opening.{IsFailure, FailsToRewrite, RefusesToRewrite, Rewrites, RewritesTo}
use Rattle.fl_sql_store.proofs.KeepLemmas.{clean_before, kept_listed, one_boot, ready_unchanged}
use Rattle.fl_sql_store.proofs.CauseLemmas.{fault_after}

-- ---- what it is

pub former_unchanged : (number : ℕ) (a b : State) → IsFormer number a → Survives a b (λ _. ⊥) → (HasCleanDisk b → IsUnchanged a b) → IsFormer number b
former_unchanged number a b former s same clean =
    let was = former (clean_before a b _ s clean) in
    let h = same clean in
    (ready_unchanged number a b was.0 h, (was.1.0, was.1.1, ap (λ d. d.trees 0) h.0.now_is ∙ was.1.2))

pub ready_migrated : (number : ℕ) (ops : List Op) (old new : State) → IsReady number old → Migrates number ops old new → IsReady number new
ready_migrated number ops old new r h = record {
  is_open = h.shown.is_open;
  schema = h.migrated.schema;
  settled = sym h.shown.committed_is;
  listed = h.migrated.listed;
  boot = h.migrated.boot;
  in_range = subst (λ n. n < 4294967296) (one_boot number r.boot h.migrated.boot (old.now.trees 0) r.itself (One, h.migrated.before)) r.in_range;
  itself = (Two, h.migrated.itself);
}

-- before it, nothing was changed
migrates_after : (number : ℕ) (ops : List Op) (old mid new : State) → IsUnchanged old mid → Migrates number ops mid new → Migrates number ops old new
migrates_after number ops old mid new same h = record {
  migrated = subst (λ d. IsMigrated number ops d new.now) same.0.now_is h.migrated;
  shown = record { was_open = same.0.was_open; is_open = h.shown.is_open; now_is = refl; committed_is = h.shown.committed_is; mode = h.shown.mode };
}

pub rewrites_by : (number : ℕ) (ops : List Op) (old mid new : State) → IsUnchanged old mid → of_list {R = op_cmp} ops ≡ ops_in (old.now.trees 1) → ¬ HasBadRow (old.now.trees 1)
    → Migrates number ops mid new → Rewrites number old new
rewrites_by number ops old mid new same are good h =
    record { ops = ops; are = are; good = good; migrates = migrates_after number ops old mid new same h }

pub rewrites_after : (number : ℕ) (old mid new : State) → IsUnchanged old mid → Rewrites number mid new → Rewrites number old new
rewrites_after number old mid new same h = record {
  ops = h.ops;
  are = h.are ∙ ap (λ d. ops_in (d.trees 1)) same.0.now_is;
  good = subst (λ (d : Database). ¬ HasBadRow (d.trees 1)) same.0.now_is h.good;
  migrates = migrates_after number h.ops old mid new same h.migrates;
}

-- ---- what an opening may find

module _ (number : ℕ) (old : State) (ready : IsReady number old) (there : IsTrue old.is_open → old.may_leave old.committed.trees) where
  abbrev was : Kept
  was = kept_in number old.committed.trees

  was_is : was ≡ kept_by number old.committed.trees
  was_is = kept_listed number old.committed.trees (subst (λ (d : Database). IsListed d.trees) ready.settled ready.listed)

  migrated_is : (ops : List Op) (db : Database) → of_list {R = op_cmp} ops ≡ ops_in (old.now.trees 1) → IsMigrated number ops old.now db → kept_in number db.trees ≡ was
  migrated_is ops db are h =
      kept_listed number db.trees h.listed
      ∙ ap (λ b. record { number = number; boot = boot_in b; saved = ops_in (db.trees 1) }) h.itself
      ∙ ap (λ b. record { number = number; boot = boot_in b; saved = ops_in (db.trees 1) }) (sym h.before ∙ ap (λ d. d.trees 0) ready.settled)
      ∙ ap (λ s. record { number = number; boot = boot_in (old.committed.trees 0); saved = s }) (h.saved ∙ are ∙ ap (λ d. ops_in (d.trees 1)) ready.settled)
      ∙ sym was_is

  pub held_migrated : (ops : List Op) (mid new : State) → HasCleanDisk new → Survives old mid (λ _. ⊥) → Survives mid new (MigratesTo number ops mid.now)
      → (HasCleanDisk mid → IsUnchanged old mid) → (HasCleanDisk mid → of_list {R = op_cmp} ops ≡ ops_in (old.now.trees 1)) → Stays (held_in number old) (held_in number new)
  held_migrated ops mid new clean first second same are after it =
      let early = clean_before mid new _ second clean in
      let migrates = MigratesTo number ops old.now in
      let both : Survives old new migrates = survives_then old mid new _ _ migrates (λ _ db none. absurd none)
      (λ late db h. subst (λ d. MigratesTo number ops d db) (same early).0.now_is h) first second in
      elim (both.crash clean it.0 it.1) [
        | inl before ↦ (kept_in number it.0, (it.0, before, refl), it.2)
        | inr h ↦ (was, (old.committed.trees, there ready.is_open, refl), it.2 ∙ ap (kept_in number) h.2 ∙ migrated_is ops h.0 (are early) h.1)
      ]

pub stays_on : (number : ℕ) (a b c : State) → Stays (held_in number a) (held_in number b) → Stays (held_in number b) (held_in number c)
    → Stays (held_in number a) (held_in number c)
stays_on number a b c first second after it =
    let late = second after it in
    let early = first late.0 late.1 in
    (early.0, early.1, late.2 ∙ early.2)

-- ---- what a crash may find

pub leaves_rewritten : (number : ℕ) (ops : List Op) (old mid new : State) → Survives old mid (λ _. ⊥) → Survives mid new (MigratesTo number ops mid.now)
    → (HasCleanDisk mid → IsUnchanged old mid) → (HasCleanDisk mid → of_list {R = op_cmp} ops ≡ ops_in (old.now.trees 1)) → Survives old new (RewritesTo number old)
leaves_rewritten number ops old mid new first second same are =
    survives_then old mid new _ _ _ (λ _ db none. absurd none)
    (λ late db h. let early = clean_before mid new _ second late in (ops, are early, subst (λ d. MigratesTo number ops d db) (same early).0.now_is h)) first second

pub leaves_after : (number : ℕ) (old mid new : State) → Survives old mid (λ _. ⊥) → Survives mid new (RewritesTo number mid) → (HasCleanDisk mid → IsUnchanged old mid)
    → Survives old new (RewritesTo number old)
leaves_after number old mid new first second same =
    survives_then old mid new _ _ _ (λ _ db none. absurd none)
    (λ late db h. subst (λ (d : Database). (ops : List Op) × (of_list {R = op_cmp} ops ≡ ops_in (d.trees 1)) × MigratesTo number ops d db)
    (same (clean_before mid new _ second late)).0.now_is h) first second

-- where nothing is committed, nothing else is found
pub leaves_quiet : (old new : State) (P : Trees → Type 0) → Survives old new (λ _. ⊥) → Survives old new P
leaves_quiet old new P = survives_weaker old new _ P (λ _ db none. absurd none)

-- ---- why it was not rewritten

pub not_loaded : (old new : State) (e : Error) (fault : KeeperFault) → (fault ≡ Memory) ⊎ (fault ≡ Broken) → (fault ≡ Memory → e ≡ SqliteFailure OutOfMemory) → (fault ≡ Broken → IsFailure e)
    → FailsToRewrite old new e → (e ≡ SqliteFailure OutOfMemory → RunsOut old new) → RefusesToRewrite old new fault
not_loaded old new e fault (inl is) wants fails h out = subst (RefusesToRewrite old new) (sym is) (inr (out (wants is)))
not_loaded old new e fault (inr is) wants fails h out = subst (RefusesToRewrite old new) (sym is) (e, fails is, h)

spelled_more : (o : Option Op) (rest : List (Option Op)) (bad : Bool) (read : List Op) → (is_none o || bad) ≡ false → (bad ≡ false → rest ≡ map Some read)
    → (o ∷ rest) ≡ map Some (cons_option o read)
spelled_more None rest bad read wrong more = absurd cc
spelled_more (Some op) rest bad read good more = ap (λ l. Some op ∷ l) (more good)

-- each row spells an operation
spelled_all : (rows : List Row) → list_any (λ r. is_none (op_in r)) rows ≡ false → map op_of (map shown_op rows) ≡ map Some (filter_map op_in rows)
spelled_all [] good = refl
spelled_all (r ∷ rows) good = spelled_more (op_in r) _ _ (filter_map op_in rows) good (spelled_all rows)

some_spelled : (ops : List Op) → 0 < len (of_list {R = op_cmp} ops) → 0 < length ops
some_spelled [] some = let none = len-empty op_cmp in absurd (omega (arith, some, none))
some_spelled (op ∷ ops) some = omega arith

none_left : (ops : List Op) → length ops ≡ 0 → [] ≡ ops
none_left [] none = refl
none_left (op ∷ ops) none = absurd (omega (arith, none))

pub members_none : (ops : SetBy op_cmp) → len ops ≡ 0 → [] ≡ members ops
members_none ops none = none_left (members ops) (sym (len-members ops) ∙ none)

-- all of it was read
pub all_read_good : (rows : List Row) (former : SetBy op_cmp) → former ≡ ops_in rows → ¬ HasBadRow rows → HasNamesOnce former → 0 < len former → HasReadGood rows
all_read_good rows former are good once some = (
  filter_map op_in rows,
  some_spelled (filter_map op_in rows) (subst (λ s. 0 < len s) are some),
  record {
    shown = map shown_op rows;
    rest = [];
    among = subst (IsPermutation (map shown_op rows)) (sym (append-nil (map shown_op rows))) (IsPermutation-refl (map shown_op rows));
    spelled = spelled_all rows (elim (cases_Bool (list_any (λ r. is_none (op_in r)) rows)) [ inl bad ↦ absurd (good (inl bad)) | inr none ↦ none ]);
    once = subst HasNamesOnce are once;
  },
)

module _ (old mid new : State) (same : IsUnchanged old mid) (counts : old.faults ≤ mid.faults) (limit : mid.step_limit ≡ old.step_limit) where
  out_after : RunsOut mid new → RunsOut old new
  out_after = runs_out_then old mid new (kept_if_same old mid same)

  fails_after : (e : Error) → FailsToRewrite mid new e → FailsToRewrite old new e
  fails_after e (inl (inl h, out)) = inl (inl (fault_after old mid new e counts limit h), λ is. out_after (out is))
  fails_after e (inl (inr h, out)) =
      inl (inr (h.0, subst (λ (d : Database). 2 ^ 64 - 1 ≤ length (d.trees 1)) same.0.now_is h.1), λ is. out_after (out is))
  fails_after e (inr h) = inr (h.0, migrate_within old mid new new h.0 e same.0.now_is counts (omega arith) limit h.1)

  pub refuses_after : (fault : KeeperFault) → RefusesToRewrite mid new fault → RefusesToRewrite old new fault
  refuses_after Memory (inl h) = inl (subst (λ (d : Database). HasReadGood (d.trees 1)) same.0.now_is h.0, unchanged_then old mid new same h.1)
  refuses_after Memory (inr h) = inr (out_after h)
  refuses_after Broken (e, is, h) = (e, is, fails_after e h)
  refuses_after WrongNode h = h
  refuses_after BadRow h = subst (λ (d : Database). HasBadRow (d.trees 1)) same.0.now_is h
  refuses_after NamesSpent h = h

-- ---- results

pub on_ok_then : {T E : Type 0} (r : Result T E) {P Q : Type 0} → OnOk r P → (P → Q) → OnOk r Q
on_ok_then (Ok x) h f = f h
on_ok_then (Err e) h f = tt

pub if_err_then : {T E : Type 0} (r : Result T E) {P Q : E → Type 0} → IfErr r P → ((e : E) → P e → Q e) → IfErr r Q
if_err_then (Ok x) h f = tt
if_err_then (Err e) h f = f e h
