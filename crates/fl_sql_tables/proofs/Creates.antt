-- What CREATE makes of a database.
use Rattle.std.proofs.Common.{◌≡◌, ℕ, List, [], false, None, Ok, refl, sym, ap, subst, ◌∙◌}
use Rattle.sqlite.specs.Schema.{Schema}
use Rattle.sqlite.specs.Table.{Table}
use Rattle.sqlite.specs.Command.TheVariants.{CreateTable}
use Rattle.sqlite.specs.Compile.{table_defined_by}
use Rattle.sqlite.specs.Change.{created, next_tree, KeepsRows}
use Rattle.sqlite.specs.Does.{Tally, lacks_sequence}
use Rattle.sqlite.specs.Effect.{Database, IsDatabase}
use Rattle.sqlite.specs.State.{ExecutesInside}
use Rattle.fl_sql_tables.specs.Founding.{MakesSelf, MakesOps}
use Rattle.fl_sql_tables.specs.laws.Listed.{listed_if_sound}
use Rattle.sqlite.specs.Listing.{understood}
use Rattle.sqlite.specs.State.{State, Writes, Executes}
use Rattle.sqlite.proofs.Callers.{IsPlain, command_of, statement_of, runs_as}
use Rattle.fl_sql_tables.specs.Tables.{no_schema, self_schema, keeper_schema, self_table, ops_made, create_self_text, create_ops_text}
use Rattle.fl_sql_tables.proofs.Texts.{create_self_is, create_ops_is, self_defined, ops_defined, self_made, ops_added}
use Rattle.fl_sql_tables.proofs.Inserts.{went, same_value}

-- the schema has the table too, whose tree is empty, and the other tables are as they were
pub record Creates (schema after : Schema) (old new : Database) : Type 0 where
  pub schema_is : new.schema ≡ after
  pub empty : new.trees (next_tree schema) ≡ []
  pub others : KeepsRows schema.tables old.trees new.trees
  pub sound : IsDatabase new

creates : (sql : List ℕ) (schema : Schema) (table : Table) (old new : State) (count : ℕ) → old.now.schema ≡ schema
    → (command_of (understood schema sql) ≡ CreateTable) × (statement_of sql (understood schema sql) ≡ sql) × IsPlain (understood schema sql)
    → table_defined_by sql ≡ Ok table → lacks_sequence (created schema table) ≡ false → Executes sql [] old new (Ok count) → Creates schema (created schema table) old.now new.now
creates sql schema table old new count has is defined uncounted h =
    let w = subst (λ t. Writes old new None CreateTable t [] count) is.1 (runs_as sql [] old new schema has CreateTable is.0 is.2 count h) in
    let all = went w.changed in
    let first = went all.1 in
    let made = first.1 in
    let both : Ok made.table ≡ Ok table = sym made.defined ∙ defined in
    let same : made.table ≡ table = cc in
    let now_schema : first.0.schema ≡ created schema table = made.is ∙ ap (λ s. created s made.table) has ∙ ap (created schema) same in
    let plain : lacks_sequence first.0.schema ≡ false = ap lacks_sequence now_schema ∙ uncounted in
    let now : new.now ≡ first.0 = ap (λ (p : Tally × Database). p.1) (same_value all.2) ∙ same_value (rw plain at first.2) in
    record {
      schema_is = ap (λ (d : Database). d.schema) now ∙ now_schema;
      empty = ap (λ (d : Database). d.trees (next_tree schema)) now ∙ subst (λ s. first.0.trees (next_tree s) ≡ []) has made.empty;
      others = subst (λ (d : Database). KeepsRows schema.tables old.now.trees d.trees) (sym now) (subst (λ (s : Schema). KeepsRows s.tables old.now.trees first.0.trees) has made.others);
      sound = w.sound;
    }

pub creates_self : (old new : State) (count : ℕ) → old.now.schema ≡ no_schema → Executes create_self_text [] old new (Ok count) → (new.now.schema ≡ self_schema) × (new.now.trees 0 ≡ [])
creates_self old new count has h =
    let it = creates create_self_text no_schema self_table old new count has create_self_is self_defined refl h in
    (it.schema_is ∙ self_made, it.empty)

pub creates_ops : (old new : State) (count : ℕ) → old.now.schema ≡ self_schema → Executes create_ops_text [] old new (Ok count)
    → (new.now.schema ≡ keeper_schema) × (new.now.trees 1 ≡ []) × (new.now.trees 0 ≡ old.now.trees 0) × IsDatabase new.now
creates_ops old new count has h =
    let it = creates create_ops_text self_schema ops_made old new count has create_ops_is ops_defined refl h in
    (it.schema_is ∙ ops_added, it.empty, it.others.0, it.sound)

pub makes_self : (old new : State) (count : ℕ) → old.now.schema ≡ no_schema → ExecutesInside 0 create_self_text [] old new (Ok count) → MakesSelf old new
makes_self old new count has h = let it = creates_self old new count has h.0 in record { schema = it.0; none = it.1; shown = h.1 }

pub makes_ops : (old new : State) (count : ℕ) → old.now.schema ≡ self_schema → ExecutesInside 0 create_ops_text [] old new (Ok count) → MakesOps old new
makes_ops old new count has h =
    let it = creates_ops old new count has h.0 in record { schema = it.0; none = it.1; itself = it.2; listed = listed_if_sound new.now it.3 it.0; shown = h.1 }
