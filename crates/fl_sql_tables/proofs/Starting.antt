-- The row of the node itself.
use Rattle.std.proofs.Common.{◌≡◌, ℕ, pos, List, [], ◌∷◌, None, Ok, refl, ap, subst, ◌∙◌, arith}
use Rattle.sqlite.specs.declared.types.Value.TheVariants.{Null, Int}
use Rattle.sqlite.specs.Order.{Row}
use Rattle.sqlite.specs.Source.TheVariants.{Values}
use Rattle.sqlite.specs.Command.TheVariants.{Insert}
use Rattle.sqlite.specs.Edit.{Edit, edit_of, Applies}
use Rattle.sqlite_schema.specs.declared.schema.Keys.{Keys}
use Rattle.sqlite.specs.Rowids.TheVariants.{Chosen}
use Rattle.sqlite.specs.Does.{Tally, Does}
use Rattle.sqlite.specs.Rows.{Written}
use Rattle.sqlite.specs.Tree.{Trees}
use Rattle.sqlite_trees.specs.Objects.{catalog_tree}
use Rattle.sqlite.specs.Effect.{Database}
use Rattle.sqlite.specs.State.{ExecutesInside}
use Rattle.fl_sql_tables.specs.Founding.{StartsSelf}
use Rattle.sqlite.specs.Listing.{understood}
use Rattle.sqlite.specs.State.{State, mode_of, Executes}
use Rattle.sqlite.proofs.Callers.{statement_of, runs_as, one_step}
use Rattle.fl_sql_tables.specs.Tables.{keeper_schema, self_table, insert_self_text}
use Rattle.fl_ops.specs.declared.format.Format.TheVariants.{Two}
use Rattle.fl_sql_tables.specs.Stored.{self_row}
use Rattle.fl_sql_tables.proofs.Texts.{insert_self_is, plain_2, self_terms}
use Rattle.fl_sql_tables.proofs.Inserts.{went, same_value, cast_int, cast_null}

abbrev self_edit : Trees → List Row → Edit
self_edit db given = edit_of db self_table [] Chosen 0 given

after_insert : (keys : Keys) (old new : Database) (next : Trees) (given : List Row) (node : ℕ)
    → given ≡ (Int (pos 1) ∷ Null ∷ Int (pos node) ∷ Int (pos 0) ∷ Int (pos 2) ∷ []) ∷ [] → old.trees 0 ≡ []
    → new ≡ record { schema = keeper_schema; trees = next } → Applies keeper_schema keys old.trees (self_edit old.trees given) next
    → (new.schema ≡ keeper_schema) × (new.trees 0 ≡ self_row Two node 0 ∷ []) × (new.trees 1 ≡ old.trees 1) × (new.trees catalog_tree ≡ old.trees catalog_tree)
after_insert keys old new next given node is none now a =
    let rows : next 0 ≡ self_row Two node 0 ∷ [] = a.rows ∙ rw (is, none, cast_int node, cast_int 1, cast_int 0, cast_int 2, cast_null) in (
      ap (λ (d : Database). d.schema) now,
      ap (λ (d : Database). d.trees 0) now ∙ rows,
      ap (λ (d : Database). d.trees 1) now ∙ a.others 1 (omega arith) (omega arith, tt),
      ap (λ (d : Database). d.trees catalog_tree) now ∙ a.others catalog_tree (omega arith) (omega arith, tt),
    )

pub inserts_self : (old new : State) (node : ℕ) (count : ℕ) → old.now.schema ≡ keeper_schema → old.now.trees 0 ≡ [] → Executes insert_self_text (Int (pos node) ∷ []) old new (Ok count)
    → (new.now.schema ≡ keeper_schema) × (new.now.trees 0 ≡ self_row Two node 0 ∷ []) × (new.now.trees 1 ≡ old.now.trees 1) × (new.now.trees catalog_tree ≡ old.now.trees catalog_tree)
inserts_self old new node count has none h =
    let params = Int (pos node) ∷ [] in
    let db = old.now.trees in
    let command = Insert 0 (Values self_terms 5) in
    let w = runs_as insert_self_text params old new keeper_schema has command insert_self_is plain_2 count h in
    let text = statement_of insert_self_text (understood keeper_schema insert_self_text) in
    let done = went (subst (λ s. Does old.step_limit (mode_of old) params (record old.now { schema = s }) text None command (Ok (w.tally, new.now))) has w.changed) in
    let now = ap (λ (p : Tally × Database). p.1) (same_value (went (went done.2).2).2) in
    let given = went done.1 in
    let written = went (went given.2).2 in
    let counted = went written.2 in
    let trees : done.0.trees ≡ written.0 = ap (λ (it : Written). it.trees) (same_value counted.2) ∙ same_value counted.1 in
    after_insert _ old.now new.now written.0 given.0 node given.1.1 none (now ∙ ap (λ t. record { schema = keeper_schema; trees = t }) trees) (one_step keeper_schema _ db written.0 (self_edit db given.0) refl written.1)

pub starts_self : (old new : State) (number count : ℕ) → old.now.schema ≡ keeper_schema → old.now.trees 0 ≡ [] → ExecutesInside 0 insert_self_text (Int (pos number) ∷ []) old new (Ok count)
    → StartsSelf number old new
starts_self old new number count has none h =
    let it = inserts_self old new number count has none h.0 in record { schema = it.0; itself = it.1; ops = it.2; catalog = it.3; shown = h.1 }
