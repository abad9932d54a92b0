-- What a database of the first format is rewritten to.
use Rattle.std.proofs.Common.{◌≡◌, ◌⊎◌, inl, inr, ℕ, ◌≤◌, ◌+◌, pos, List, [], ◌∷◌, ◌++◌, map, length, true, false, IsTrue, None, Some, Option, Ok, Err, Result, IfErr, OnOk, refl, sym, ap, subst, ◌∙◌, arith}
use Rattle.std.specs.Prelude.{◌||◌}
use Rattle.std.specs.List.Sorted.{IsPermutation}
use Rattle.sqlite.specs.declared.types.Value.TheVariants.{Null, Int}
use Rattle.sqlite_value.specs.Order.{value_cmp}
use Rattle.sqlite.specs.Order.{Row}
use Rattle.sqlite.specs.declared.error.Error.{Error}
use Rattle.sqlite.specs.Command.TheVariants.{DropTable, Update}
use Rattle.sqlite.specs.Does.{Tally, Does}
use Rattle.sqlite.specs.Rows.{Written}
use Rattle.sqlite.specs.Tree.{Trees}
use Rattle.sqlite.specs.Query.{IsAnswer, output, page, Output}
use Rattle.sqlite.specs.Program.{overlay}
use Rattle.sqlite_trees.specs.Objects.{catalog_tree}
use Rattle.sqlite.specs.Effect.{Database}
use Rattle.sqlite.specs.Listing.{understood}
use Rattle.sqlite.specs.State.{State, mode_of, Executes, ExecutesInside}
use Rattle.sqlite.proofs.Callers.{statement_of, runs_as, one_step, one_permutation}
use Rattle.sqlite_tied.specs.Compute.{everything}
use Rattle.fl_labels.specs.SetBy.{SetBy, empty, of_list, same_set, contains, contains-empty, contains-of_list}
use Rattle.fl_ops.specs.declared.format.Format.{Format}
use Rattle.fl_ops.specs.declared.format.Format.TheVariants.{One, Two}
use Rattle.fl_ops.specs.declared.op.Op.{Op}
use Rattle.fl_ops.specs.OpOrder.{op_cmp}
use Rattle.fl_ops.specs.OpLaws.{op_total, op_exact}
use Rattle.fl_store.specs.Kept.{with_ops}
use Rattle.fl_sql_tables.specs.Tables.{keeper_schema, self_schema, drop_ops_text, set_format_text, insert_op_text}
use Rattle.fl_sql_tables.specs.Spelling.{row_of}
use Rattle.fl_sql_tables.specs.Stored.{self_row, shown_op, ops_in, AddsOps, PutsIn, IsOurs}
use Rattle.fl_sql_tables.specs.Founding.{MakesOps, IsOwnIn}
use Rattle.fl_sql_tables.specs.Failing.{IsFault, IsRefused, FailsToSave}
use Rattle.fl_sql_tables.specs.Migrating.{DropsOps, IsEmptied, IsSet, SetsFormat, IsMigrated, MigratesIn, FailsToMigrate}
use Rattle.fl_sql_tables.proofs.Texts.{drop_ops_is, plain_7, ops_dropped, format_query, set_format_is, plain_8}
use Rattle.fl_sql_tables.proofs.Inserts.{went, same_value}
use Rattle.fl_sql_tables.proofs.BootLemmas.{boot_edit, raised_row, after_update}
use Rattle.fl_sql_tables.proofs.FailLemmas.{IsWhole, writes, inside_fault, fault_within, adds_none}
use Rattle.fl_sql_tables.proofs.SetLemmas.{contains-with_ops, has}

-- ---- DROP TABLE

dropped : (old new : State) (count : ℕ) → old.now.schema ≡ keeper_schema → Executes drop_ops_text [] old new (Ok count)
    → (new.now.schema ≡ self_schema) × (new.now.trees 0 ≡ old.now.trees 0)
dropped old new count has h =
    let w = runs_as drop_ops_text [] old new keeper_schema has (DropTable 1) drop_ops_is plain_7 count h in
    let text = statement_of drop_ops_text (understood keeper_schema drop_ops_text) in
    let done = subst (λ s. Does old.step_limit (mode_of old) [] (record old.now { schema = s }) text None (DropTable 1) (Ok (w.tally, new.now))) has w.changed in
    let emptied = went done in
    let uncounted = went emptied.2 in
    let tested = went uncounted.2 in
    let left = went tested.2 in
    let now : new.now ≡ left.0 = ap (λ (p : Tally × Database). p.1) (same_value left.2) in
    let trees : uncounted.0 ≡ old.now.trees = same_value uncounted.1 ∙ same_value emptied.1 in (
      ap (λ (d : Database). d.schema) now ∙ left.1.0 ∙ ops_dropped,
      ap (λ (d : Database). d.trees 0) now ∙ left.1.1.0 ∙ ap (λ (t : Trees). t 0) trees,
    )

pub drops_ops : (old new : State) (count : ℕ) → old.now.schema ≡ keeper_schema → ExecutesInside 0 drop_ops_text [] old new (Ok count) → DropsOps old new
drops_ops old new count has h =
    let it = dropped old new count has h.0 in
    record { schema = it.0; itself = it.1; shown = h.1 }

whole_drop : IsWhole drop_ops_text 0 (understood keeper_schema drop_ops_text)
unfolding understood everything
whole_drop = (refl, refl)

pub drop_fault : (old new : State) → old.now.schema ≡ keeper_schema → IsTrue old.is_open → (e : Error) → ExecutesInside 0 drop_ops_text [] old new (Err e)
    → IsFault old new e ⊎ IsRefused old old.now drop_ops_text [] (understood keeper_schema drop_ops_text)
drop_fault old new has is_open = inside_fault keeper_schema drop_ops_text [] old new has is_open plain_7 whole_drop (ap writes drop_ops_is)

-- ---- UPDATE of the format

shows_format : (db : Trees) (f : Format) (node boot : ℕ) (rows : List Row) → db 0 ≡ self_row f node boot ∷ [] → IsAnswer format_query (overlay db []) [] rows
    → rows ≡ raised_row Two node boot ∷ []
shows_format db f node boot rows one a =
    let staged : a.staged ≡ ([] ∷ self_row f node boot ∷ []) ∷ [] = a.grouped ∙ rw one in
    let o : Output = ([], raised_row Two node boot) in
    let kept : a.kept ≡ o ∷ [] = a.distinct ∙ ap (map (output format_query)) staged in
    let ordered = one_permutation o a.ordered (subst (λ k. IsPermutation k a.ordered) kept a.same) in
    a.shown ∙ ap (λ xs. page format_query [] (map (λ (p : Output). p.1) xs)) ordered

formatted : (old new : State) (count : ℕ) → old.now.schema ≡ keeper_schema → Executes set_format_text [] old new (Ok count) → IsSet old.now new.now
formatted old new count has h =
    let db = old.now.trees in
    let command = Update 0 (record { lets = []; body = format_query }) in
    let w = runs_as set_format_text [] old new keeper_schema has command set_format_is plain_8 count h in
    let text = statement_of set_format_text (understood keeper_schema set_format_text) in
    let done = went (subst (λ s. Does old.step_limit (mode_of old) [] (record old.now { schema = s }) text None command (Ok (w.tally, new.now))) has w.changed) in
    let now = ap (λ (p : Tally × Database). p.1) (same_value (went (went done.2).2).2) in
    let asked = went done.1 in
    let answer : IsAnswer format_query (overlay db []) [] asked.0 = asked.1.answer Null in
    let written = went asked.2 in
    let trees : done.0.trees ≡ written.0 = ap (λ (it : Written). it.trees) (same_value written.2) in
    let whole : new.now ≡ record { schema = keeper_schema; trees = written.0 } = now ∙ ap (λ t. record { schema = keeper_schema; trees = t }) trees in
    let applied = one_step keeper_schema _ db written.0 (boot_edit db asked.0) refl written.1 in
    record {
      schema = ap (λ (d : Database). d.schema) whole;
      itself = λ f number boot one.
          (after_update _ old.now new.now written.0 asked.0 f Two number boot boot (shows_format db f number boot asked.0 one answer) one whole applied).1;
      ops = ap (λ (d : Database). d.trees 1) whole ∙ applied.others 1 (omega arith) (omega arith, tt);
      catalog = ap (λ (d : Database). d.trees catalog_tree) whole ∙ applied.others catalog_tree (omega arith) (omega arith, tt);
    }

pub sets_format : (old new : State) (count : ℕ) → old.now.schema ≡ keeper_schema → ExecutesInside 0 set_format_text [] old new (Ok count) → SetsFormat old new
sets_format old new count has h = record { set = formatted old new count has h.0; shown = h.1 }

whole_format : IsWhole set_format_text 0 (understood keeper_schema set_format_text)
unfolding understood everything
whole_format = (refl, refl)

pub format_fault : (old new : State) → old.now.schema ≡ keeper_schema → IsTrue old.is_open → (e : Error) → ExecutesInside 0 set_format_text [] old new (Err e)
    → IsFault old new e ⊎ IsRefused old old.now set_format_text [] (understood keeper_schema set_format_text)
format_fault old new has is_open = inside_fault keeper_schema set_format_text [] old new has is_open plain_8 whole_format (ap writes set_format_is)

-- ---- one after another

-- with nothing before them
with_all : (ops : List Op) → with_ops empty ops ≡ of_list ops
with_all ops = same_set op_total op_exact _ _ (λ q.
    contains-with_ops empty ops q ∙ ap (λ b. b || has q ops) (contains-empty op_cmp q) ∙ sym (contains-of_list op_total ops q))

pub emptied : (a b c : State) → DropsOps a b → MakesOps b c → IsEmptied a.now c.now
emptied a b c p q = record { schema = q.schema; itself = q.itself ∙ p.itself; none = q.none; listed = q.listed }

pub migrated : (number : ℕ) (ops : List Op) (a c d e : State) → IsOwnIn One number (a.now.trees 0) → IsEmptied a.now c.now → AddsOps ops c.now d.now → IsSet d.now e.now
    → IsMigrated number ops a.now e.now
migrated number ops a c d e (boot, low, one) p q r = record {
  schema = r.schema;
  boot = boot;
  before = one;
  itself = r.itself One number boot (q.itself ∙ p.itself ∙ one);
  rows = subst (λ t. IsPermutation (map shown_op t) (map row_of ops)) (sym r.ops)
      (subst (λ t. IsPermutation (map shown_op (d.now.trees 1)) (map shown_op t ++ map row_of ops)) p.none q.rows);
  saved = ap ops_in r.ops ∙ q.added ∙ ap (λ t. with_ops (ops_in t) ops) p.none ∙ with_all ops;
  listed = (p.listed.0, p.listed.1, r.catalog ∙ q.catalog ∙ p.listed.2);
}

module _ (ops : List Op) (old mid new : State) (counts : old.faults ≤ mid.faults) (limit : mid.step_limit ≡ old.step_limit) (e : Error) where
  pub fails_by_fault : IsFault mid new e → FailsToMigrate ops old new e
  fails_by_fault h = inl (fault_within old mid new new e counts (omega arith) limit h)

  module _ (empty : Database) (is : IsEmptied old.now empty) where
    pub fails_to_refill : mid.now ≡ empty → FailsToSave ops mid new e → FailsToMigrate ops old new e
    fails_to_refill same (inl h) = fails_by_fault h
    fails_to_refill same (inr h) =
        let refused = λ (limit : Option ℕ). IsRefused (record mid { step_limit = limit }) h.4 insert_op_text (row_of h.1) (understood keeper_schema insert_op_text) in
        inr (inr (empty, is, inl (h.0, h.1, h.2, h.3, h.4, subst (λ d. AddsOps h.0 d h.4) same h.5, subst refused limit h.6)))

    pub fails_to_set : AddsOps ops empty mid.now → IsFault mid new e ⊎ IsRefused mid mid.now set_format_text [] (understood keeper_schema set_format_text)
        → FailsToMigrate ops old new e
    fails_to_set added (inl h) = fails_by_fault h
    fails_to_set added (inr h) =
        let refused = λ (limit : Option ℕ). IsRefused (record mid { step_limit = limit }) mid.now set_format_text [] (understood keeper_schema set_format_text) in
        inr (inr (empty, is, inr (mid.now, added, subst refused limit h)))

-- ---- no operation

pub none_left : (ops : List Op) → length ops ≡ 0 → ops ≡ []
none_left [] none = refl
none_left (op ∷ ops) none = absurd (omega arith)

pub puts_none : (s : State) → IsTrue s.in_transaction → IsOurs s → IsTrue s.is_open → PutsIn [] s s
puts_none s inside ours is_open = record {
  added = adds_none s.now (ours is_open);
  shown = record { was_open = is_open; is_open = is_open; now_is = refl; committed_is = refl; mode = inside };
}

-- ---- calls

pub fails_to_drop : (ops : List Op) (old new : State) (e : Error) → IsFault old new e ⊎ IsRefused old old.now drop_ops_text [] (understood keeper_schema drop_ops_text)
    → FailsToMigrate ops old new e
fails_to_drop ops old new e (inl h) = inl h
fails_to_drop ops old new e (inr h) = inr (inl h)

pub on_ok_then : {T E : Type 0} (r : Result T E) {P Q : Type 0} → OnOk r P → (P → Q) → OnOk r Q
on_ok_then (Ok x) h f = f h
on_ok_then (Err e) h f = tt

pub if_err_then : {T E : Type 0} (r : Result T E) {P Q : E → Type 0} → IfErr r P → ((e : E) → P e → Q e) → IfErr r Q
if_err_then (Ok x) h f = tt
if_err_then (Err e) h f = f e h

pub migrates : (number : ℕ) (ops : List Op) (a b c d e : State) → IsTrue a.is_open → IsOwnIn One number (a.now.trees 0) → DropsOps a b → MakesOps b c → PutsIn ops c d → SetsFormat d e
    → MigratesIn number ops a e
migrates number ops a b c d e is_open own p q r s = record {
  migrated = migrated number ops a c d e own (emptied a b c p q) r.added s.set;
  shown = record {
    was_open = is_open;
    is_open = s.shown.is_open;
    now_is = refl;
    committed_is = s.shown.committed_is ∙ r.shown.committed_is ∙ q.shown.committed_is ∙ p.shown.committed_is;
    mode = s.shown.mode;
  };
}

-- within more calls
pub migrate_within : (a b c d : State) (ops : List Op) (e : Error) → b.now ≡ a.now → a.faults ≤ b.faults → c.faults ≤ d.faults → b.step_limit ≡ a.step_limit → FailsToMigrate ops b c e
    → FailsToMigrate ops a d e
migrate_within a b c d ops e same first last limit (inl h) = inl (fault_within a b c d e first last limit h)
migrate_within a b c d ops e same first last limit (inr (inl h)) =
    let refused = λ (limit : Option ℕ) (now : Database). IsRefused (record b { step_limit = limit }) now drop_ops_text [] (understood keeper_schema drop_ops_text) in
    inr (inl (subst (λ l. refused l a.now) limit (subst (refused b.step_limit) same h)))
migrate_within a b c d ops e same first last limit (inr (inr (empty, is, inl h))) =
    let refused = λ (limit : Option ℕ). IsRefused (record b { step_limit = limit }) h.4 insert_op_text (row_of h.1) (understood keeper_schema insert_op_text) in
    inr (inr (empty, subst (λ now. IsEmptied now empty) same is, inl (h.0, h.1, h.2, h.3, h.4, h.5, subst refused limit h.6)))
migrate_within a b c d ops e same first last limit (inr (inr (empty, is, inr h))) =
    let refused = λ (limit : Option ℕ). IsRefused (record b { step_limit = limit }) h.0 set_format_text [] (understood keeper_schema set_format_text) in
    inr (inr (empty, subst (λ now. IsEmptied now empty) same is, inr (h.0, h.1, subst refused limit h.2)))
