-- A database that serves as a keeper's, and what calls make of it.
use Rattle.std.specs.Prelude.{◌≡◌, ◌<◌, ℕ, true, false, [], ◌∷◌, IsTrue, Some, None}
use Rattle.sqlite.specs.Tree.{Trees}
use Rattle.sqlite_trees.specs.Objects.{catalog_tree}
use Rattle.sqlite.specs.Effect.{Database}
use Rattle.sqlite.specs.State.{State, Shows, HasCleanDisk}
use Rattle.sqlite.specs.Held.{Held}
use Rattle.sqlite.specs.Store.{Ghosts}
use Rattle.sqlite.specs.Order.{Row}
use Rattle.sqlite.specs.Given.{Advances}
use Rattle.fl_sql_tables.specs.declared.load.Step.{Step}
use Rattle.fl_sql_tables.specs.declared.load.Step.TheVariants.{End, Bad, Found}
use Rattle.fl_sql_tables.specs.Spelling.{op_of}
use Rattle.fl_sql_tables.specs.Tables.{keeper_schema}
use Rattle.fl_ops.specs.declared.format.Format.{Format}
use Rattle.fl_sql_tables.specs.Stored.{self_row, HasSelf, IsListed}

-- the database is a keeper's, and no transaction is under way
pub record IsReady (number : ℕ) (s : State) : Type 0 where
  pub is_open : IsTrue s.is_open
  pub schema : s.now.schema ≡ keeper_schema
  pub settled : s.now ≡ s.committed
  pub listed : IsListed s.now.trees
  pub boot : ℕ
  pub in_range : boot < 4294967296
  pub itself : HasSelf number boot (s.now.trees 0)

-- as far as the disk has been honest
abbrev pub IsServing : ℕ → State → Type 0
IsServing number s = HasCleanDisk s → IsReady number s

-- the row of the node itself has this boot, and its format and the operations are as they were
pub record HasBoot (number boot : ℕ) (old new : Database) : Type 0 where
  pub schema : new.schema ≡ keeper_schema
  pub format : Format
  pub was : ℕ
  pub before : old.trees 0 ≡ self_row format number was ∷ []
  pub itself : new.trees 0 ≡ self_row format number boot ∷ []
  pub ops : new.trees 1 ≡ old.trees 1
  pub catalog : new.trees catalog_tree ≡ old.trees catalog_tree

pub record Raises (number boot : ℕ) (old new : State) : Type 0 where
  pub raised : HasBoot number boot old.now new.now
  pub shown : Shows old new new.now new.now false

abbrev pub RaisesTo : ℕ → ℕ → Database → Trees → Type 0
RaisesTo number boot old db = (new : Database) × HasBoot number boot old new × (db ≡ new.trees)

-- in a transaction, which goes on
pub record SetsBoot (number boot : ℕ) (old new : State) : Type 0 where
  pub raised : HasBoot number boot old.now new.now
  pub shown : Shows old new new.now old.committed true

-- the rows of a query, one further: no row is to come, or one that spells no operation, or one that spells this
abbrev pub StepsOn : {S : Type 0} → Ghosts S → Held S → Held S → Step → Type 0
StepsOn g old new End = Advances g old new None
StepsOn g old new Bad = (row : Row) × Advances g old new (Some row) × (op_of row ≡ None)
StepsOn g old new (Found op) = (row : Row) × Advances g old new (Some row) × (op_of row ≡ Some op)
