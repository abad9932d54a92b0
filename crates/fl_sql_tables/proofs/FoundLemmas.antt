-- Why a keeper's database is not made.
use Rattle.std.proofs.Common.{◌≡◌, inl, inr, ℕ, ◌+◌, ◌*◌, ◌^◌, ◌<◌, ◌≤◌, pos, List, [], ◌∷◌, length, codes, true, false, IsTrue, Some, None, Option, Ok, Err, Result, IfErr, IsUtf8, refl, sym, ap, subst, ◌∙◌, arith}
use Rattle.sqlite.specs.Schema.{Schema}
use Rattle.sqlite.specs.Table.{Table}
use Rattle.sqlite.specs.Compile.{table_defined_by}
use Rattle.sqlite.specs.Change.{created, next_tree}
use Rattle.sqlite.specs.Order.{Row}
use Rattle.sqlite.specs.Effect.{Database}
use Rattle.sqlite.specs.Does.{Does, MakesTable, lacks_sequence}
use Rattle.sqlite.specs.Listing.{understood}
use Rattle.sqlite.specs.State.{State, ExecutesInside, mode_of}
use Rattle.sqlite.specs.Command.{Command}
use Rattle.sqlite.specs.Command.TheVariants.{CreateTable}
use Rattle.sqlite.specs.declared.error.Error.{Error}
use Rattle.sqlite.specs.declared.run.Mode.{Mode}
use Rattle.sqlite.specs.declared.types.Value.TheVariants.{Int, Text}
use Rattle.sqlite_tied.specs.Compute.{everything}
use Rattle.sqlite_schema.specs.declared.schema.Index.{Index}
use Rattle.sqlite_schema.specs.Rules.{table_reals, index_reals}
use Rattle.sqlite_rules.specs.Lists.{Has}
use Rattle.sqlite_resolve.specs.declared.compiled.Compiled.{Compiled}
use Rattle.sqlite_resolve.specs.declared.error.CompileError.{CompileError}
use Rattle.sqlite_catalog.specs.Calls.{RefusesTable}
use Rattle.sqlite_catalog.specs.Change.{is_used, is_reserved, automatics}
use Rattle.sqlite_catalog.specs.Listing.{is_fit, is_formed}
use Rattle.sqlite_catalog.specs.declared.error.Refusal.{Refusal}
use Rattle.sqlite_catalog.specs.declared.error.Refusal.TheVariants.{Invalid, NameTaken, BadName, TooBig, BadKey, BadText, Violates}
use Rattle.sqlite_trees.specs.Sound as sound
use Rattle.sqlite_value.specs.Order.{value_cmp}
use Rattle.sqlite.proofs.Callers.{IsPlain, command_of, statement_of}
use Rattle.fl_sql_tables.specs.Tables.{no_schema, self_schema, keeper_schema, self_table, ops_made, create_self_text, create_ops_text, insert_self_text}
use Rattle.fl_sql_tables.specs.Failing.{IsFault, IsRefused, HasTables, FailsToStart, FailsToFound}
use Rattle.fl_sql_tables.proofs.Texts.{create_self_is, create_ops_is, self_defined, ops_defined, insert_self_is, plain_2}
use Rattle.fl_sql_tables.proofs.FailLemmas.{IsWhole, writes, inside_fault, fault_within}

whole_create_self : IsWhole create_self_text 0 (understood no_schema create_self_text)
unfolding understood everything
whole_create_self = (refl, refl)

whole_create_ops : IsWhole create_ops_text 0 (understood self_schema create_ops_text)
unfolding understood everything
whole_create_ops = (refl, refl)

whole_insert_self : IsWhole insert_self_text 1 (understood keeper_schema insert_self_text)
unfolding understood everything
whole_insert_self = (refl, refl)

-- ---- CREATE TABLE is not refused

-- the text makes the table over the schema, and no limit is met
record Fits (schema : Schema) (sql : List ℕ) (table : Table) : Type 0 where
  defined : table_defined_by sql ≡ Ok table
  sound : IsUtf8 sql
  named : IsUtf8 table.name
  free : is_used schema table.name ≡ false
  indexes_free : (index : Index) → Has (automatics table 0 0 table.uniques) index → is_used schema index.name ≡ false
  unreserved : is_reserved table.name ≡ false
  few : next_tree schema + length table.uniques < 65536
  reals : table_reals table < 2 ^ 64
  index_reals : (key : List ℕ) → Has table.uniques key → index_reals (table_reals table) key < 2 ^ 64
  formed : is_formed table ≡ true
  fit : is_fit (Text (codes "table")) (Text table.name) (Text table.name) (Text sql) ≡ true
  short : 2 * length table.name + length sql + 200 < 10 ^ 9
  uncounted : lacks_sequence (created schema table) ≡ false

module _ (schema : Schema) (sql : List ℕ) (table : Table) (fits : Fits schema sql table) where
  same_table : (other : Table) → table_defined_by sql ≡ Ok other → other ≡ table
  same_table other is = let both : Ok other ≡ Ok table = sym is ∙ fits.defined in cc

  none_refused : (why : Refusal) → ¬ RefusesTable schema sql why
  none_refused (Invalid e) h = let both = sym h ∙ fits.defined in cc
  none_refused NameTaken (other, is, why) = elim (rw (same_table other is) at why) [
    | inl used ↦ absurd (let wrong : true ≡ false = sym used ∙ fits.free in cc)
    | inr it ↦ absurd (let wrong : true ≡ false = sym it.2 ∙ fits.indexes_free it.0 it.1 in cc)
  ]
  none_refused BadName (other, is, why) = elim (rw (same_table other is) at why) [
    | inl unsound ↦ unsound fits.named
    | inr it ↦ absurd (let wrong : true ≡ false = sym it.0 ∙ fits.unreserved in cc)
  ]
  none_refused TooBig (other, is, why) = elim (rw (same_table other is) at why) [
    | inl many ↦ absurd (omega (arith, many, fits.few))
    | inr (inl many) ↦ absurd (omega (arith, many, fits.reals))
    | inr (inr it) ↦ absurd (omega (arith, it.2, fits.index_reals it.0 it.1))
  ]
  none_refused BadKey (other, is, why) = absurd (let wrong : true ≡ false = sym fits.formed ∙ (rw (same_table other is) at why) in cc)
  none_refused BadText (other, is, why) = absurd (let wrong : true ≡ false = sym fits.fit ∙ (rw (same_table other is) at why) in cc)
  none_refused (Violates rule) h = h

  always_made : (db : Database) → db.schema ≡ schema → (stop : Option Error) → ¬ MakesTable sql db (Err stop)
  always_made db has None (other, is, long) = absurd (omega (arith, rw (same_table other is) at long, fits.short))
  always_made db has (Some e) (inl h) = h.0 fits.sound
  always_made db has (Some e) (inr (why, h, is)) = none_refused why (subst (λ s. RefusesTable s sql why) has h)

  always_creates : (limit : Option ℕ) (mode : Mode) (params : Row) (db : Database) → db.schema ≡ schema → (why : Option Error) → ¬ Does limit mode params db sql None CreateTable (Err why)
  always_creates limit mode params db has why (inl (stop, inl (first, refused, is), out)) = always_made db has first refused
  always_creates limit mode params db has why (inl (stop, inr (after, made, more), out)) =
      let now = made.is ∙ ap (λ s. created s made.table) has ∙ ap (created schema) (same_table made.table made.defined) in
      let plain : lacks_sequence after.schema ≡ false = ap lacks_sequence now ∙ fits.uncounted in
      let wrong : Err stop ≡ Ok after = rw plain at more in
      absurd cc
  always_creates limit mode params db has why (inr (after, made, gives)) = absurd (let wrong = gives in cc)

refused_as : (r : Result Compiled CompileError) (s : State) (sql : List ℕ) (params : Row) (command : Command) → command_of r ≡ command → IsRefused s s.now sql params r
    → (why : Option Error) × Does s.step_limit (mode_of s) params s.now (statement_of sql r) None command (Err why)
refused_as (Ok c) s sql params command is h = subst (λ k. (why : Option Error) × Does s.step_limit (mode_of s) params s.now (statement_of sql (Ok c)) None k (Err why)) is h
refused_as (Err e) s sql params command is h = absurd h

-- so only a fault stops it
create_fault : (schema : Schema) (sql : List ℕ) (table : Table) → Fits schema sql table → IsWhole sql 0 (understood schema sql)
    → (command_of (understood schema sql) ≡ CreateTable) × (statement_of sql (understood schema sql) ≡ sql) × IsPlain (understood schema sql)
    → (old new : State) → old.now.schema ≡ schema → IsTrue old.is_open → (e : Error) → ExecutesInside 0 sql [] old new (Err e) → IsFault old new e
create_fault schema sql table fits whole is old new has is_open e h = elim (inside_fault schema sql [] old new has is_open is.2 whole (ap writes is.0) e h) [
  | inl it ↦ it
  | inr refused ↦
      let it = refused_as (understood schema sql) old sql [] CreateTable is.0 refused in
      absurd (always_creates schema sql table fits old.step_limit (mode_of old) [] old.now has it.0 (subst (λ t. Does old.step_limit (mode_of old) [] old.now t None CreateTable (Err it.0)) is.1 it.1))
]

self_sound : IsUtf8 create_self_text × IsUtf8 self_table.name
unfolding lib.Utf8.encode
self_sound = ((create_self_text, (refl, refl)), (codes "self", (refl, refl)))

self_fit : is_fit (Text (codes "table")) (Text self_table.name) (Text self_table.name) (Text create_self_text) ≡ true
unfolding sound.fits_kind sound.is_free_name sound.begins sound.same_name value_cmp lib.Ieee.is_nan lib.Ieee.lt
self_fit = refl

self_fits : Fits no_schema create_self_text self_table
unfolding everything
self_fits = record {
  defined = self_defined;
  sound = self_sound.0;
  named = self_sound.1;
  free = refl;
  indexes_free = λ index none. absurd none;
  unreserved = refl;
  few = omega arith;
  reals = omega arith;
  index_reals = λ key none. absurd none;
  formed = refl;
  fit = self_fit;
  short = omega arith;
  uncounted = refl;
}

ops_sound : IsUtf8 create_ops_text × IsUtf8 ops_made.name
unfolding lib.Utf8.encode
ops_sound = ((create_ops_text, (refl, refl)), (codes "ops", (refl, refl)))

ops_fit : is_fit (Text (codes "table")) (Text ops_made.name) (Text ops_made.name) (Text create_ops_text) ≡ true
unfolding sound.fits_kind sound.is_free_name sound.begins sound.same_name value_cmp lib.Ieee.is_nan lib.Ieee.lt
ops_fit = refl

ops_fits : Fits self_schema create_ops_text ops_made
unfolding everything
ops_fits = record {
  defined = ops_defined;
  sound = ops_sound.0;
  named = ops_sound.1;
  free = refl;
  indexes_free = λ index one. elim one [ inl is ↦ ap (λ (i : Index). is_used self_schema i.name) is | inr none ↦ absurd none ];
  unreserved = refl;
  few = omega arith;
  reals = omega arith;
  index_reals = λ key one. elim one [ inl is ↦ subst (λ k. index_reals (table_reals ops_made) k < 2 ^ 64) (sym is) (omega arith) | inr none ↦ absurd none ];
  formed = refl;
  fit = ops_fit;
  short = omega arith;
  uncounted = refl;
}

pub self_fault : (old new : State) → old.now.schema ≡ no_schema → IsTrue old.is_open → (e : Error) → ExecutesInside 0 create_self_text [] old new (Err e) → IsFault old new e
self_fault = create_fault no_schema create_self_text self_table self_fits whole_create_self create_self_is

pub ops_made_fault : (old new : State) → old.now.schema ≡ self_schema → IsTrue old.is_open → (e : Error) → ExecutesInside 0 create_ops_text [] old new (Err e) → IsFault old new e
ops_made_fault = create_fault self_schema create_ops_text ops_made ops_fits whole_create_ops create_ops_is

-- ---- the row of the node itself

writes_insert_self : writes (command_of (understood keeper_schema insert_self_text)) ≡ true
writes_insert_self = ap writes insert_self_is

pub start_fault : (old new : State) (number : ℕ) → old.now.schema ≡ keeper_schema → IsTrue old.is_open
    → (e : Error) → ExecutesInside 0 insert_self_text (Int (pos number) ∷ []) old new (Err e) → FailsToStart number old new e
start_fault old new number has is_open = inside_fault keeper_schema insert_self_text (Int (pos number) ∷ []) old new has is_open plain_2 whole_insert_self writes_insert_self

-- it is put once the tables are made
start_within : (old made new : State) (number : ℕ) (e : Error) → HasTables made.now → old.faults ≤ made.faults → made.step_limit ≡ old.step_limit
    → FailsToStart number made new e → FailsToFound number old new e
start_within old made new number e tables counts limit (inl h) = inl (fault_within old made new new e counts (omega arith) limit h)
start_within old made new number e tables counts limit (inr h) =
    let refused = λ (limit : Option ℕ). IsRefused (record made { step_limit = limit }) made.now insert_self_text (Int (pos number) ∷ []) (understood keeper_schema insert_self_text) in
    inr (made.now, tables, subst refused limit h)

pub start_after : {T : Type 0} (old made new : State) (number : ℕ) (r : Result T Error) → HasTables made.now → old.faults ≤ made.faults → made.step_limit ≡ old.step_limit
    → IfErr r (FailsToStart number made new) → IfErr r (FailsToFound number old new)
start_after old made new number (Ok x) tables counts limit h = tt
start_after old made new number (Err e) tables counts limit h = start_within old made new number e tables counts limit h
