-- What UPDATE makes of the row of the node itself, and what SELECT shows of it.
use Rattle.std.proofs.Common.{◌≡◌, ℕ, pos, List, [], ◌∷◌, map, true, None, Some, Ok, Err, Result, refl, sym, ap, subst, ◌∙◌, arith, IfOk}
use Rattle.std.specs.List.Sorted.{IsPermutation}
use Rattle.sqlite.specs.declared.types.Value.TheVariants.{Null, Int}
use Rattle.sqlite_value.specs.Order.{value_cmp}
use Rattle.sqlite.specs.Order.{Row, column}
use Rattle.std.proofs.Common.{◌<◌, length}
use Rattle.sqlite.specs.declared.error.Error.{Error}
use Rattle.sqlite.specs.Command.TheVariants.{Update}
use Rattle.sqlite.specs.Edit.{Edit, edit_of, edited, Applies}
use Rattle.sqlite_rules.specs.Calls.{ids_of}
use Rattle.sqlite_schema.specs.declared.schema.Keys.{Keys}
use Rattle.sqlite.specs.Rowids.TheVariants.{Given}
use Rattle.sqlite.specs.Does.{Tally, Does}
use Rattle.sqlite.specs.Rows.{Written}
use Rattle.sqlite.specs.Tree.{Trees, has_rowid}
use Rattle.sqlite.specs.Query.{IsAnswer, output, page, Output}
use Rattle.sqlite.specs.Program.{overlay}
use Rattle.sqlite_trees.specs.Objects.{catalog_tree}
use Rattle.sqlite.specs.Effect.{Database}
use Rattle.sqlite.specs.Listing.{understood}
use Rattle.sqlite.specs.State.{State, mode_of, Executes, Shown, QueriesRow, ExecutesInside}
use Rattle.fl_sql_tables.specs.Serving.{IsReady, SetsBoot}
use Rattle.sqlite.proofs.Callers.{statement_of, runs_as, one_step, one_permutation, reads_as, first_as}
use Rattle.fl_sql_tables.specs.Tables.{keeper_schema, self_table, raise_boot_text, select_self_text}
use Rattle.fl_ops.specs.declared.format.Format.{Format}
use Rattle.fl_ops.specs.declared.format.Format.TheVariants.{Two}
use Rattle.fl_ops.specs.Format.{format_byte}
use Rattle.fl_sql_tables.specs.Spelling.{whole_in}
use Rattle.fl_sql_tables.specs.Stored.{self_row, HasSelf}
use Rattle.fl_sql_tables.proofs.Texts.{raise_boot_is, plain_4, boot_query, self_query, select_self_is, plain_5, unlisted_5}
use Rattle.fl_sql_tables.proofs.Inserts.{went, same_value, cast_int, cast_null}

abbrev pub boot_edit : Trees → List Row → Edit
boot_edit db rows = edit_of db self_table (ids_of rows) Given 1 rows

abbrev pub raised_row : Format → ℕ → ℕ → Row
raised_row f node boot = Int (pos 1) ∷ self_row f node boot

itself : has_rowid (pos 1) (self_row Two 0 0) ≡ true
unfolding value_cmp lib.Ieee.is_nan lib.Ieee.lt
itself = refl

-- where the table of the node itself has one row, a plain query over it shows that row
shows_boot : (db : Trees) (params : Row) (f : Format) (node old_boot boot : ℕ) (rows : List Row) → params ≡ Int (pos boot) ∷ [] → db 0 ≡ self_row f node old_boot ∷ []
    → IsAnswer boot_query (overlay db []) params rows → rows ≡ raised_row f node boot ∷ []
shows_boot db params f node old_boot boot rows given one a =
    let staged : a.staged ≡ (params ∷ self_row f node old_boot ∷ []) ∷ [] = a.grouped ∙ rw one in
    let o : Output = ([], raised_row f node boot) in
    let kept : a.kept ≡ o ∷ [] = a.distinct ∙ ap (map (output boot_query)) staged ∙ rw given in
    let ordered = one_permutation o a.ordered (subst (λ k. IsPermutation k a.ordered) kept a.same) in
    a.shown ∙ ap (λ xs. page boot_query params (map (λ (p : Output). p.1) xs)) ordered

updated : (db : Trees) (f g : Format) (node old_boot boot : ℕ) (rows : List Row) → db 0 ≡ self_row f node old_boot ∷ [] → rows ≡ raised_row g node boot ∷ []
    → edited db (boot_edit db rows) ≡ self_row g node boot ∷ []
unfolding value_cmp lib.Ieee.is_nan lib.Ieee.lt
updated db f g node old_boot boot rows one is = rw (is, one, cast_int node, cast_int 1, cast_int boot, cast_int (format_byte g), cast_null)

pub after_update : (keys : Keys) (old new : Database) (next : Trees) (rows : List Row) (f g : Format) (node old_boot boot : ℕ)
    → rows ≡ raised_row g node boot ∷ [] → old.trees 0 ≡ self_row f node old_boot ∷ []
    → new ≡ record { schema = keeper_schema; trees = next } → Applies keeper_schema keys old.trees (boot_edit old.trees rows) next
    → (new.schema ≡ keeper_schema) × (new.trees 0 ≡ self_row g node boot ∷ []) × (new.trees 1 ≡ old.trees 1) × (new.trees catalog_tree ≡ old.trees catalog_tree)
after_update keys old new next rows f g node old_boot boot is one now a = (
  ap (λ (d : Database). d.schema) now,
  ap (λ (d : Database). d.trees 0) now ∙ a.rows ∙ updated old.trees f g node old_boot boot rows one is,
  ap (λ (d : Database). d.trees 1) now ∙ a.others 1 (omega arith) (omega arith, tt),
  ap (λ (d : Database). d.trees catalog_tree) now ∙ a.others catalog_tree (omega arith) (omega arith, tt),
)

pub raises_boot : (old new : State) (f : Format) (node old_boot boot count : ℕ) → old.now.schema ≡ keeper_schema → old.now.trees 0 ≡ self_row f node old_boot ∷ []
    → Executes raise_boot_text (Int (pos boot) ∷ []) old new (Ok count)
    → (new.now.schema ≡ keeper_schema) × (new.now.trees 0 ≡ self_row f node boot ∷ []) × (new.now.trees 1 ≡ old.now.trees 1) × (new.now.trees catalog_tree ≡ old.now.trees catalog_tree)
raises_boot old new f node old_boot boot count has one h =
    let params = Int (pos boot) ∷ [] in
    let db = old.now.trees in
    let command = Update 0 (record { lets = []; body = boot_query }) in
    let w = runs_as raise_boot_text params old new keeper_schema has command raise_boot_is plain_4 count h in
    let text = statement_of raise_boot_text (understood keeper_schema raise_boot_text) in
    let done = went (subst (λ s. Does old.step_limit (mode_of old) params (record old.now { schema = s }) text None command (Ok (w.tally, new.now))) has w.changed) in
    let now = ap (λ (p : Tally × Database). p.1) (same_value (went (went done.2).2).2) in
    let asked = went done.1 in
    let a : IsAnswer boot_query (overlay db []) params asked.0 = asked.1.answer Null in
    let rows : asked.0 ≡ raised_row f node boot ∷ [] = shows_boot db params f node old_boot boot asked.0 refl one a in
    let written = went asked.2 in
    let trees : done.0.trees ≡ written.0 = ap (λ (it : Written). it.trees) (same_value written.2) in
    after_update _ old.now new.now written.0 asked.0 f f node old_boot boot rows one (now ∙ ap (λ t. record { schema = keeper_schema; trees = t }) trees) (one_step keeper_schema _ db written.0 (boot_edit db asked.0) refl written.1)

-- what SELECT shows of it
abbrev pub shown_self : Format → ℕ → ℕ → Row
shown_self f node boot = Int (pos node) ∷ Int (pos boot) ∷ Int (pos (format_byte f)) ∷ []

pub selects_self : (old new : State) (f : Format) (node boot : ℕ) (rows : List Row) → old.now.schema ≡ keeper_schema → old.now.trees 0 ≡ self_row f node boot ∷ []
    → Shown select_self_text [] old new rows → rows ≡ shown_self f node boot ∷ []
selects_self old new f node boot rows has one h =
    let got = reads_as select_self_text [] old new keeper_schema has _ select_self_is plain_5 unlisted_5 rows h in
    let a : IsAnswer self_query (overlay old.now.trees []) [] rows = got.answer Null in
    let staged : a.staged ≡ ([] ∷ self_row f node boot ∷ []) ∷ [] = a.grouped ∙ rw one in
    let o : Output = ([], shown_self f node boot) in
    let kept : a.kept ≡ o ∷ [] = a.distinct ∙ ap (map (output self_query)) staged in
    let ordered = one_permutation o a.ordered (subst (λ k. IsPermutation k a.ordered) kept a.same) in
    a.shown ∙ ap (λ xs. page self_query [] (map (λ (p : Output). p.1) xs)) ordered

-- the first row that it shows
pub reads_self : (old new : State) (f : Format) (node boot : ℕ) (row : Row) → old.now.schema ≡ keeper_schema → old.now.trees 0 ≡ self_row f node boot ∷ []
    → QueriesRow select_self_text [] old new (Ok row) → row ≡ shown_self f node boot
reads_self old new f node boot row has one h =
    let got = (first_as select_self_text [] old new keeper_schema has _ select_self_is plain_5 unlisted_5 row h).1 in
    let a : IsAnswer self_query (overlay old.now.trees []) [] (row ∷ got.0) = got.1 Null in
    let staged : a.staged ≡ ([] ∷ self_row f node boot ∷ []) ∷ [] = a.grouped ∙ rw one in
    let o : Output = ([], shown_self f node boot) in
    let kept : a.kept ≡ o ∷ [] = a.distinct ∙ ap (map (output self_query)) staged in
    let ordered = one_permutation o a.ordered (subst (λ k. IsPermutation k a.ordered) kept a.same) in
    let rows : row ∷ got.0 ≡ shown_self f node boot ∷ [] = a.shown ∙ ap (λ xs. page self_query [] (map (λ (p : Output). p.1) xs)) ordered in
    cc

pub sets_boot : (old new : State) (number boot count : ℕ) → IsReady number old → ExecutesInside 0 raise_boot_text (Int (pos boot) ∷ []) old new (Ok count) → SetsBoot number boot old new
sets_boot old new number boot count ready h =
    let (f, one) = ready.itself in
    let it = raises_boot old new f number ready.boot boot count ready.schema one h.0 in
    record { raised = record { schema = it.0; format = f; was = ready.boot; before = one; itself = it.1; ops = it.2; catalog = it.3 }; shown = h.1 }

pub boot_read : (r : Result ℕ Error) (row : Row) (rows : List Row) (f : Format) (number boot : ℕ) → row ≡ shown_self f number boot → rows ≡ self_row f number boot ∷ []
    → IfOk r (λ x. whole_in (column row 1) ≡ Some x) → IfOk r (λ x. HasSelf number x rows)
boot_read (Err e) row rows f number boot is one h = tt
boot_read (Ok x) row rows f number boot is one h =
    let read : Some boot ≡ Some x = sym (ap (λ r. whole_in (column r 1)) is) ∙ h in
    let same : boot ≡ x = cc in
    (f, one ∙ ap (λ b. self_row f number b ∷ []) same)
