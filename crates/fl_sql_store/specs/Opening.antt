-- What an opening makes of a database, and why it is refused.
use Rattle.std.specs.Prelude.{◌≡◌, ◌≢◌, ◌⊎◌, ℕ, List, [], false, IsTrue}
use Rattle.sqlite.specs.declared.error.Error.{Error}
use Rattle.sqlite.specs.declared.error.Error.TheVariants.{SqliteFailure}
use Rattle.sqlite.specs.declared.error.ErrorCode.TheVariants.{OutOfMemory}
use Rattle.sqlite.specs.Tree.{Trees}
use Rattle.sqlite.specs.State.{State, IsUnchanged, FailsToQuery}
use Rattle.fl_store.specs.declared.keeper.KeeperFault.{KeeperFault}
use Rattle.fl_store.specs.declared.keeper.KeeperFault.TheVariants.{Memory, Broken, WrongNode, BadRow, NamesSpent}
use Rattle.fl_sql_tables.specs.Tables.{keeper_schema, no_schema, select_whole_text}
use Rattle.fl_labels.specs.SetBy as set
use Rattle.fl_ops.specs.declared.format.Format.TheVariants.{One, Two}
use Rattle.fl_ops.specs.declared.op.Op.{Op}
use Rattle.fl_ops.specs.OpOrder.{op_cmp}
use Rattle.fl_sql_tables.specs.Stored.{ops_in, HasBadRow, HasReadGood}
use Rattle.fl_sql_tables.specs.Founding.{Founds, FoundsTo, IsOwn, IsOwnIn, IsOthers}
use Rattle.fl_sql_tables.specs.Failing.{FailsToFound, FailsToLoad, RunsOut}
use Rattle.fl_sql_store.specs.declared.there.NotThere.{NotThere}
use Rattle.fl_sql_store.specs.declared.there.NotThere.TheVariants.{Empty, Refused}
use Rattle.fl_sql_tables.specs.Migrating.{Migrates, MigratesTo, FailsToMigrate}

-- an error for another cause than want of memory
abbrev pub IsFailure : Error → Type 0
IsFailure e = e ≢ SqliteFailure OutOfMemory

-- the database was this node's in the first format, with these operations and no bad row, and has become one of the second
pub record Rewrites (number : ℕ) (old new : State) : Type 0 where
  pub ops : List Op
  pub are : set.of_list {R = op_cmp} ops ≡ ops_in (old.now.trees 1)
  pub good : ¬ HasBadRow (old.now.trees 1)
  pub migrates : Migrates number ops old new

-- the database is this node's, and stays as it was; or it was so in the first format, and is rewritten
abbrev pub OpensThere : ℕ → State → State → Type 0
OpensThere number old new =
    ((old.now.schema ≡ keeper_schema) × IsOwnIn Two number (old.now.trees 0) × IsUnchanged old new)
    ⊎ ((old.now.schema ≡ keeper_schema) × IsOwnIn One number (old.now.trees 0) × Rewrites number old new)

-- it is opened so; or it had no table, and has become this node's
abbrev pub OpensAs : ℕ → State → State → Type 0
OpensAs number old new = OpensThere number old new ⊎ ((old.now.schema ≡ no_schema) × Founds number old new)

-- there is no database yet: it has no table, and no transaction is under way
abbrev pub IsNotThere : State → Type 0
IsNotThere s = (s.now.schema ≡ no_schema) × (s.in_transaction ≡ false)

-- it has a keeper's tables, and its one row is another node's
abbrev pub IsAnothers : ℕ → State → Type 0
IsAnothers number s = (s.now.schema ≡ keeper_schema) × IsOthers number (s.now.trees 0)

-- it has other tables than a keeper's, or not the one row that a keeper writes
abbrev pub IsForeign : ℕ → State → Type 0
IsForeign number s =
    ((s.now.schema ≢ keeper_schema) × (s.now.schema ≢ no_schema))
    ⊎ ((s.now.schema ≡ keeper_schema) × (¬ IsOwn number (s.now.trees 0)) × (¬ IsOthers number (s.now.trees 0)))

-- the database refused to show the row of the node
abbrev pub FailsToShowItself : State → State → Type 0
FailsToShowItself old new = (e : Error) × IsFailure e × FailsToQuery select_whole_text [] old new e

-- the tables were not made, of a database that has none: over an open store for one of these causes
abbrev pub FailsToMakeTables : ℕ → State → State → Error → Type 0
FailsToMakeTables number old new e = (old.now.schema ≡ no_schema) × (IsTrue old.is_open → FailsToFound number old new e)

-- a transaction was under way, or the database refused to show the row, or to make the tables
abbrev pub CannotServe : ℕ → State → State → Type 0
CannotServe number old new =
    IsTrue old.in_transaction
    ⊎ (((old.now.schema ≡ keeper_schema) × FailsToShowItself old new)
    ⊎ ((e : Error) × IsFailure e × FailsToMakeTables number old new e))

-- there was not enough memory to show the row, or to make the tables
abbrev pub LacksMemory : ℕ → State → State → Type 0
LacksMemory number old new =
    ((old.now.schema ≡ keeper_schema) × FailsToQuery select_whole_text [] old new (SqliteFailure OutOfMemory))
    ⊎ ((old.now.schema ≡ no_schema) × RunsOut old new)

-- why no keeper was opened over a database that is not rewritten
abbrev pub RefusesToServe : ℕ → State → State → KeeperFault → Type 0
RefusesToServe number old new Memory = LacksMemory number old new
RefusesToServe number old new Broken = CannotServe number old new
RefusesToServe number old new WrongNode = IsAnothers number old × IsUnchanged old new
RefusesToServe number old new BadRow = IsForeign number old
RefusesToServe number old new NamesSpent = ⊥

-- what a crash may find of a rewriting: it is whole in the second format, with the operations that it had
abbrev pub RewritesTo : ℕ → State → Trees → Type 0
RewritesTo number old db =
    (ops : List Op) × (set.of_list {R = op_cmp} ops ≡ ops_in (old.now.trees 1)) × MigratesTo number ops old.now db

-- what a crash may find of an opening, beside what was there: it is rewritten, or founded, as a whole
abbrev pub OpensTo : ℕ → State → Trees → Type 0
OpensTo number old db = RewritesTo number old db ⊎ FoundsTo number old db

-- the database did not give its operations, or did not take them again
abbrev pub FailsToRewrite : State → State → Error → Type 0
FailsToRewrite old new e = FailsToLoad old new e ⊎ ((ops : List Op) × FailsToMigrate ops old new e)

-- why a database of the first format was not rewritten: a row is bad; there was not enough memory for operations that were read,
-- none of which is bad, or for the database; or that failed
abbrev pub RefusesToRewrite : State → State → KeeperFault → Type 0
RefusesToRewrite old new Memory = (HasReadGood (old.now.trees 1) × IsUnchanged old new) ⊎ RunsOut old new
RefusesToRewrite old new Broken = (e : Error) × IsFailure e × FailsToRewrite old new e
RefusesToRewrite old new WrongNode = ⊥
RefusesToRewrite old new BadRow = HasBadRow (old.now.trees 1)
RefusesToRewrite old new NamesSpent = ⊥

-- it is this node's in the first format, and was not rewritten
abbrev pub RefusesFormer : ℕ → State → State → KeeperFault → Type 0
RefusesFormer number old new fault =
    (old.now.schema ≡ keeper_schema) × IsOwnIn One number (old.now.trees 0) × RefusesToRewrite old new fault

-- why no keeper was opened
abbrev pub RefusesToOpen : ℕ → State → State → KeeperFault → Type 0
RefusesToOpen number old new fault = RefusesToServe number old new fault ⊎ RefusesFormer number old new fault

-- why no keeper was opened over a database that was to be there: there is none yet, or it was refused as any is
abbrev pub RefusesThere : ℕ → State → State → NotThere → Type 0
RefusesThere number old new Empty = IsNotThere old
RefusesThere number old new (Refused fault) = (¬ IsNotThere old) × RefusesToOpen number old new fault
