-- How a database of the first format becomes one of the second.
use Rattle.std.specs.Prelude.{◌≡◌, ◌⊎◌, ℕ, List, [], ◌∷◌, ◌++◌, map, true, false}
use Rattle.std.specs.List.Sorted.{IsPermutation}
use Rattle.sqlite.specs.Tree.{Trees}
use Rattle.sqlite.specs.declared.error.Error.{Error}
use Rattle.sqlite.specs.Effect.{Database}
use Rattle.sqlite.specs.Listing.{understood}
use Rattle.sqlite.specs.State.{State, Shows, HasCleanDisk}
use Rattle.sqlite_trees.specs.Objects.{catalog_tree}
use Rattle.fl_ops.specs.declared.format.Format.{Format}
use Rattle.fl_sql_tables.specs.Founding.{IsOwnIn}
use Rattle.fl_sql_tables.specs.Serving.{IsReady}
use Rattle.fl_labels.specs.SetBy as set
use Rattle.fl_ops.specs.declared.format.Format.TheVariants.{One, Two}
use Rattle.fl_ops.specs.declared.op.Op.{Op}
use Rattle.fl_ops.specs.OpOrder.{op_cmp}
use Rattle.fl_sql_tables.specs.Tables.{keeper_schema, self_schema, drop_ops_text, set_format_text, insert_op_text}
use Rattle.fl_sql_tables.specs.Spelling.{row_of}
use Rattle.fl_sql_tables.specs.Stored.{self_row, shown_op, ops_in, IsListed, AddsOps}
use Rattle.fl_sql_tables.specs.Failing.{IsFault, IsRefused}

-- the database serves as this node's, in the first format
abbrev pub IsFormer : ℕ → State → Type 0
IsFormer number s = HasCleanDisk s → IsReady number s × IsOwnIn One number (s.now.trees 0)

-- in a transaction, which goes on: there is no table of operations
pub record DropsOps (old new : State) : Type 0 where
  pub schema : new.now.schema ≡ self_schema
  pub itself : new.now.trees 0 ≡ old.now.trees 0
  pub shown : Shows old new new.now old.committed true

-- it is there, and empty
pub record IsEmptied (old new : Database) : Type 0 where
  pub schema : new.schema ≡ keeper_schema
  pub itself : new.trees 0 ≡ old.trees 0
  pub none : new.trees 1 ≡ []
  pub listed : IsListed new.trees

-- the row of the node itself is of the second format
pub record IsSet (old new : Database) : Type 0 where
  pub schema : new.schema ≡ keeper_schema
  pub itself : (f : Format) (number boot : ℕ) → old.trees 0 ≡ self_row f number boot ∷ [] → new.trees 0 ≡ self_row Two number boot ∷ []
  pub ops : new.trees 1 ≡ old.trees 1
  pub catalog : new.trees catalog_tree ≡ old.trees catalog_tree

pub record SetsFormat (old new : State) : Type 0 where
  pub set : IsSet old.now new.now
  pub shown : Shows old new new.now old.committed true

-- the same node, boot and operations, all in the second format, and no other row
pub record IsMigrated (number : ℕ) (ops : List Op) (old new : Database) : Type 0 where
  pub schema : new.schema ≡ keeper_schema
  pub boot : ℕ
  pub before : old.trees 0 ≡ self_row One number boot ∷ []
  pub itself : new.trees 0 ≡ self_row Two number boot ∷ []
  pub rows : IsPermutation (map shown_op (new.trees 1)) (map row_of ops)
  pub saved : ops_in (new.trees 1) ≡ set.of_list {R = op_cmp} ops
  pub listed : IsListed new.trees

pub record MigratesIn (number : ℕ) (ops : List Op) (old new : State) : Type 0 where
  pub migrated : IsMigrated number ops old.now new.now
  pub shown : Shows old new new.now old.committed true

-- it is committed
pub record Migrates (number : ℕ) (ops : List Op) (old new : State) : Type 0 where
  pub migrated : IsMigrated number ops old.now new.now
  pub shown : Shows old new new.now new.now false

abbrev pub MigratesTo : ℕ → List Op → Database → Trees → Type 0
MigratesTo number ops old db = (new : Database) × IsMigrated number ops old new × (db ≡ new.trees)

-- why it was not migrated: a fault; or the table of operations is not dropped; or, made again, it does not take an operation after those
-- before it; or the table of the node itself does not take the format
abbrev pub FailsToMigrate : List Op → State → State → Error → Type 0
FailsToMigrate ops old new e =
    IsFault old new e
    ⊎ (IsRefused old old.now drop_ops_text [] (understood keeper_schema drop_ops_text)
    ⊎ ((empty : Database) × IsEmptied old.now empty
    × (((first : List Op) × (op : Op) × (rest : List Op) × (ops ≡ first ++ op ∷ rest) × (db : Database) × AddsOps first empty db
    × IsRefused old db insert_op_text (row_of op) (understood keeper_schema insert_op_text))
    ⊎ ((db : Database) × AddsOps ops empty db × IsRefused old db set_format_text [] (understood keeper_schema set_format_text)))))
