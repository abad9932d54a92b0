-- What the calls of a keeper over a database leave to the next opening.
use Rattle.std.proofs.Common.{◌≡◌, ◌<◌, ◌⊎◌, inl, inr, ℕ, ◌+◌, List, true, false, IsTrue, refl, sym, ap, subst, ◌∙◌, arith}
use Rattle.fl_labels.specs.SetBy.{SetBy}
use Rattle.sqlite.proofs.StateLemmas.{survives_then}
use Rattle.fl_ops.specs.OpOrder.{op_cmp}
use Rattle.sqlite.specs.Order.{Row}
use Rattle.sqlite.specs.Tree.{Trees}
use Rattle.sqlite.specs.State.{State, HasCleanDisk, IsUnchanged, Survives}
use Rattle.fl_ops.specs.declared.op.Op.{Op}
use Rattle.fl_sql_tables.specs.Stored.{AddsOps, Saves, AddsTo, ops_in, boot_in, kept_in, HasSelf, IsOurs, IsListed, if_listed, nothing_kept, kept_by}
use Rattle.sqlite_trees.specs.Objects.{catalog_tree}
use Rattle.sqlite.specs.Effect.{Database}
use Rattle.fl_store.specs.Kept.{Kept, with_ops, with_batch, raised}
use Rattle.fl_store.specs.Keeping.{Follows, Stays}
use Rattle.std.proofs.lemmas.Bool.{cases_Bool}
use Rattle.sqlite_trees.proofs.Doubt.{no_doubt}
use Rattle.fl_sql_tables.specs.Serving.{IsReady, IsServing, HasBoot, Raises, RaisesTo}
use Rattle.fl_sql_store.specs.SqlKeeping.{IsAsCommitted, held_in}

pub listed_by : (old new : Trees) → IsListed old → new catalog_tree ≡ old catalog_tree → IsListed new
listed_by old new it same = (it.0, it.1, same ∙ it.2)

pub kept_listed : (number : ℕ) (db : Trees) → IsListed db → kept_in number db ≡ kept_by number db
kept_listed number db it = ap (λ l. if_listed l (nothing_kept number) (kept_by number db)) it.2

-- ---- what a call leaves to the next

pub ready_unchanged : (number : ℕ) (old new : State) → IsReady number old → IsUnchanged old new → IsReady number new
ready_unchanged number old new r h = record {
  is_open = h.0.is_open;
  schema = ap (λ d. d.schema) h.0.now_is ∙ r.schema;
  settled = h.0.now_is ∙ r.settled ∙ sym h.0.committed_is;
  listed = listed_by old.now.trees new.now.trees r.listed (ap (λ d. d.trees catalog_tree) h.0.now_is);
  boot = r.boot;
  in_range = r.in_range;
  itself = (r.itself.0, ap (λ d. d.trees 0) h.0.now_is ∙ r.itself.1);
}

pub ready_as_committed : (number : ℕ) (old new : State) → IsReady number old → IsAsCommitted old new → IsReady number new
ready_as_committed number old new r h =
    let now : new.now ≡ old.now = h.now_is ∙ sym r.settled in
    record {
      is_open = h.is_open;
      schema = ap (λ d. d.schema) now ∙ r.schema;
      settled = h.now_is ∙ sym h.committed_is;
      listed = listed_by old.now.trees new.now.trees r.listed (ap (λ d. d.trees catalog_tree) now);
      boot = r.boot;
      in_range = r.in_range;
      itself = (r.itself.0, ap (λ d. d.trees 0) now ∙ r.itself.1);
    }

pub ready_saved : (number : ℕ) (ops : List Op) (old new : State) → IsReady number old → Saves ops old new → IsReady number new
ready_saved number ops old new r h = record {
  is_open = h.shown.is_open;
  schema = h.added.schema;
  settled = sym h.shown.committed_is;
  listed = listed_by old.now.trees new.now.trees r.listed h.added.catalog;
  boot = r.boot;
  in_range = r.in_range;
  itself = (r.itself.0, h.added.itself ∙ r.itself.1);
}

pub ready_raised : (number boot : ℕ) (old new : State) → boot < 4294967296 → IsReady number old → Raises number boot old new → IsReady number new
ready_raised number boot old new low r h = record {
  is_open = h.shown.is_open;
  schema = h.raised.schema;
  settled = sym h.shown.committed_is;
  listed = listed_by old.now.trees new.now.trees r.listed h.raised.catalog;
  boot = boot;
  in_range = low;
  itself = (h.raised.format, h.raised.itself);
}

-- ---- what an opening may find

module _ (number : ℕ) (old new : State) (ready : IsReady number old) (only : (db : Trees) → IsTrue new.is_open → new.may_leave db → db ≡ new.committed.trees)
    (there : IsTrue old.is_open → old.may_leave old.committed.trees) where
  -- what was held before
  abbrev was : Kept
  was = kept_in number old.committed.trees

  was_is : was ≡ kept_by number old.committed.trees
  was_is = kept_listed number old.committed.trees (subst (λ (d : Database). IsListed d.trees) ready.settled ready.listed)

  was_held : held_in number old was
  was_held = (old.committed.trees, there ready.is_open, refl)

  pub held_unchanged : IsTrue new.is_open → new.committed ≡ old.committed → Stays (held_in number old) (held_in number new)
  held_unchanged is_open same after h = (was, was_held, h.2 ∙ ap (kept_in number) (only h.0 is_open h.1 ∙ ap (λ d. d.trees) same))

  added_is : (ops : List Op) (db : _) → AddsOps ops old.now db → kept_in number db.trees ≡ with_batch was ops
  added_is ops db h =
      kept_listed number db.trees (listed_by old.now.trees db.trees ready.listed h.catalog)
      ∙ ap (λ b. record { number = number; boot = boot_in b; saved = ops_in (db.trees 1) }) (h.itself ∙ ap (λ d. d.trees 0) ready.settled)
      ∙ ap (λ s. record { number = number; boot = boot_in (old.committed.trees 0); saved = s }) (h.added ∙ ap (λ d. with_ops (ops_in (d.trees 1)) ops) ready.settled)
      ∙ ap (λ s. with_batch s ops) (sym was_is)

  pub held_saved : (ops : List Op) → Saves ops old new → Follows (λ s t. t ≡ with_batch s ops) (held_in number old) (held_in number new)
  held_saved ops h after it =
      (was, was_held, it.2 ∙ ap (kept_in number) (only it.0 h.shown.is_open it.1 ∙ ap (λ d. d.trees) h.shown.committed_is) ∙ added_is ops new.now h.added)

  pub held_either : (ops : List Op) → HasCleanDisk new → Survives old new (AddsTo ops old.now) → Follows (λ s t. (t ≡ s) ⊎ (t ≡ with_batch s ops)) (held_in number old) (held_in number new)
  held_either ops clean s after it = elim (s.crash clean it.0 it.1) [
    | inl before ↦ (kept_in number it.0, (it.0, before, refl), inl it.2)
    | inr adds ↦ (was, was_held, inr (it.2 ∙ ap (kept_in number) adds.2 ∙ added_is ops adds.0 adds.1))
  ]

  raised_is : (was_boot : ℕ) (db : _) → HasSelf number was_boot (old.now.trees 0) → HasBoot number (was_boot + 1) old.now db → kept_in number db.trees ≡ raised was
  raised_is was_boot db one h =
      let before : boot_in (old.committed.trees 0) ≡ was_boot = ap (λ d. boot_in (d.trees 0)) (sym ready.settled) ∙ ap boot_in one.1 in
      kept_listed number db.trees (listed_by old.now.trees db.trees ready.listed h.catalog)
      ∙ ap (λ b. record { number = number; boot = boot_in b; saved = ops_in (db.trees 1) }) h.itself
      ∙ ap (λ l. record { number = number; boot = was_boot + 1; saved = ops_in l }) (h.ops ∙ ap (λ d. d.trees 1) ready.settled)
      ∙ ap (λ n. record { number = number; boot = n + 1; saved = ops_in (old.committed.trees 1) }) (sym before)
      ∙ ap raised (sym was_is)

  boot_was : (was_boot : ℕ) → HasSelf number was_boot (old.now.trees 0) → was.boot ≡ was_boot
  boot_was was_boot one = ap (λ (k : Kept). k.boot) was_is ∙ ap (λ d. boot_in (d.trees 0)) (sym ready.settled) ∙ ap boot_in one.1

  pub held_raised : (n : ℕ) → (was_boot : ℕ) × (n ≡ was_boot + 1) × HasSelf number was_boot (old.now.trees 0) × Raises number n old new
      → Follows (λ s t. (t ≡ raised s) × (n ≡ s.boot + 1)) (held_in number old) (held_in number new)
  held_raised n ok after it =
      let h = subst (λ b. Raises number b old new) ok.1 ok.3 in (
        was,
        was_held,
        (
          it.2 ∙ ap (kept_in number) (only it.0 h.shown.is_open it.1 ∙ ap (λ d. d.trees) h.shown.committed_is) ∙ raised_is ok.0 new.now ok.2 h.raised,
          ok.1 ∙ ap (λ b. b + 1) (sym (boot_was ok.0 ok.2)),
        ),
      )

  pub held_or_raised : HasCleanDisk new → ((was_boot : ℕ) → HasSelf number was_boot (old.now.trees 0) → Survives old new (RaisesTo number (was_boot + 1) old.now))
      → Follows (λ s t. (t ≡ s) ⊎ (t ≡ raised s)) (held_in number old) (held_in number new)
  held_or_raised clean s after it = elim ((s ready.boot ready.itself).crash clean it.0 it.1) [
    | inl before ↦ (kept_in number it.0, (it.0, before, refl), inl it.2)
    | inr raises ↦ (was, was_held, inr (it.2 ∙ ap (kept_in number) raises.2 ∙ raised_is ready.boot raises.0 ready.itself raises.1))
  ]

  pub held_spent : IsUnchanged old new × HasSelf number 4294967295 (old.now.trees 0) → Follows (λ s t. (t ≡ s) × (s.boot ≡ 4294967295)) (held_in number old) (held_in number new)
  held_spent h after it = (was, was_held, (it.2 ∙ ap (kept_in number) (only it.0 h.0.0.is_open it.1 ∙ ap (λ d. d.trees) h.0.0.committed_is), boot_was _ h.1))

  pub after_load_ok : (ops : SetBy op_cmp) → IsUnchanged old new → ops ≡ ops_in (old.now.trees 1)
      → Follows (λ s t. (t ≡ s) × (ops ≡ s.saved)) (held_in number old) (held_in number new)
  after_load_ok ops h is after it =
      (was, was_held, (it.2 ∙ ap (kept_in number) (only it.0 h.0.is_open it.1 ∙ ap (λ d. d.trees) h.0.committed_is), is ∙ ap (λ d. ops_in (d.trees 1)) ready.settled ∙ sym (ap (λ (k : Kept). k.saved) was_is)))

-- a call that commits nothing
pub stays_quiet : (number : ℕ) (old new : State) → HasCleanDisk new → Survives old new (λ _. ⊥) → Stays (held_in number old) (held_in number new)
stays_quiet number old new clean s after it = elim (s.crash clean it.0 it.1) [ inl before ↦ (kept_in number it.0, (it.0, before, refl), it.2) | inr none ↦ absurd none ]

-- a connection whose disk was not honest shows as shut
pub ours_if_serving : (number : ℕ) (s : State) → (s.is_clean ≡ false → s.is_open ≡ false) → IsServing number s → IsOurs s
ours_if_serving number s dirty serving is_open = elim (cases_Bool s.is_clean) [
  | inl clean ↦ (serving (no_doubt s.is_clean clean)).schema
  | inr not_clean ↦ absurd (let shut : false ≡ true = subst IsTrue (dirty not_clean) is_open in cc)
]

pub survives_on : (a b c : State) → Survives a b (λ _. ⊥) → Survives b c (λ _. ⊥) → Survives a c (λ _. ⊥)
survives_on a b c = survives_then a b c _ _ (λ _. ⊥) (λ _ db none. none) (λ _ db none. none)

pub clean_before : (a b : State) (P : Trees → Type 0) → Survives a b P → HasCleanDisk b → HasCleanDisk a
clean_before a b P s clean = omega (arith, s.clean)

-- the row of the node itself has one boot
pub one_boot : (number a b : ℕ) (rows : List Row) → HasSelf number a rows → HasSelf number b rows → a ≡ b
one_boot number a b rows p q = ap boot_in (sym p.1 ∙ q.1)

-- the boot is read and then raised, and the next call commits nothing
pub survives_raising : (number before boot : ℕ) (a b c d : State) → HasSelf number before (a.now.trees 0) → Survives a b (λ _. ⊥) → (HasCleanDisk b → HasSelf number boot (a.now.trees 0))
    → (HasCleanDisk b → b.now ≡ a.now) → Survives b c (RaisesTo number (boot + 1) b.now) → Survives c d (λ _. ⊥) → Survives a d (RaisesTo number (before + 1) a.now)
survives_raising number before boot a b c d one first told same second third =
    let raises = RaisesTo number (before + 1) a.now in
    let both : Survives a c raises = survives_then a b c _ _ raises (λ _ db none. absurd none) (λ clean db it.
    let here = clean_before b c _ second clean in
    let boots : before ≡ boot = one_boot number before boot (a.now.trees 0) one (told here) in
    subst (λ n. RaisesTo number (n + 1) a.now db) (sym boots) (subst (λ now. RaisesTo number (boot + 1) now db) (same here) it)) first second in
    survives_then a c d _ _ raises (λ _ db it. it) (λ _ db none. absurd none) both third
