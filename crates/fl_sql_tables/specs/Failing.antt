-- Why a call over a keeper's database fails.
use Rattle.std.specs.Prelude.{◌≡◌, ◌<◌, ◌≤◌, ◌⊎◌, ◌-◌, ◌^◌, ℕ, pos, List, [], ◌∷◌, ◌++◌, length, Option, None, Result, Ok, Err, IsTrue, IsSome, false}
use Rattle.sqlite.specs.Disk.{MoreFaults}
use Rattle.sqlite.specs.declared.types.Value.TheVariants.{Int}
use Rattle.sqlite.specs.Order.{Row}
use Rattle.sqlite.specs.declared.error.Error.{Error}
use Rattle.sqlite.specs.declared.error.Error.TheVariants.{SqliteFailure}
use Rattle.sqlite.specs.declared.error.ErrorCode.TheVariants.{OutOfMemory, OperationInterrupted, TooBig}
use Rattle.sqlite.specs.Effect.{Database}
use Rattle.sqlite.specs.Listing.{understood}
use Rattle.sqlite.specs.Does.{Does}
use Rattle.sqlite.specs.State.{State, IsUnchanged, is_disk_error, mode_of, text_of}
use Rattle.sqlite_resolve.specs.declared.compiled.Compiled.{Compiled}
use Rattle.sqlite_resolve.specs.declared.error.CompileError.{CompileError}
use Rattle.fl_ops.specs.declared.op.Op.{Op}
use Rattle.fl_sql_tables.specs.Tables.{keeper_schema, raise_boot_text, insert_op_text, insert_self_text}
use Rattle.fl_sql_tables.specs.Spelling.{row_of}
use Rattle.fl_sql_tables.specs.declared.load.LoadFault.{LoadFault}
use Rattle.fl_sql_tables.specs.declared.load.LoadFault.TheVariants.{Failed, Memory, BadRow}
use Rattle.fl_sql_tables.specs.Stored.{AddsOps, HasBadRow, HasReadGood, IsListed, IsUndone}

-- there was not enough memory; the disk failed once more; or the limit on steps was met
abbrev pub IsFault : State → State → Error → Type 0
IsFault old new e =
    (e ≡ SqliteFailure OutOfMemory)
    ⊎ ((IsTrue (is_disk_error e) × MoreFaults old.faults new.faults)
    ⊎ ((e ≡ SqliteFailure OperationInterrupted) × IsSome old.step_limit))

-- the database wanted for memory: nothing was committed, and neither a transaction nor a savepoint is left
pub record RunsOut (old new : State) : Type 0 where
  pub undone : IsUndone old new
  pub idle : new.in_transaction ≡ false
  pub unmarked : new.marks ≡ []

-- what a text means does not go over these tables
abbrev pub IsRefused : State → Database → List ℕ → Row → Result Compiled CompileError → Type 0
IsRefused s db sql params (Ok c) = (why : Option Error) × Does s.step_limit (mode_of s) params db (text_of sql c) None c.command (Err why)
IsRefused s db sql params (Err e) = ⊥

-- why the boot was not set: a fault, or the table of the node itself does not take it
abbrev pub FailsToRaise : ℕ → State → State → Error → Type 0
FailsToRaise boot old new e =
    IsFault old new e ⊎ IsRefused old old.now raise_boot_text (Int (pos boot) ∷ []) (understood keeper_schema raise_boot_text)

-- why the row of the node itself was not put: a fault, or its table does not take it
abbrev pub FailsToStart : ℕ → State → State → Error → Type 0
FailsToStart number old new e =
    IsFault old new e ⊎ IsRefused old old.now insert_self_text (Int (pos number) ∷ []) (understood keeper_schema insert_self_text)

-- both tables are there, and empty
pub record HasTables (db : Database) : Type 0 where
  pub schema : db.schema ≡ keeper_schema
  pub itself : db.trees 0 ≡ []
  pub ops : db.trees 1 ≡ []
  pub listed : IsListed db.trees

-- why the tables were not made: a fault, or, once they are made, the first does not take the row of the node
abbrev pub FailsToFound : ℕ → State → State → Error → Type 0
FailsToFound number old new e =
    IsFault old new e
    ⊎ ((db : Database) × HasTables db × IsRefused old db insert_self_text (Int (pos number) ∷ []) (understood keeper_schema insert_self_text))

-- why an operation was not put: a fault, or the table of operations does not take it
abbrev pub FailsToPut : Op → State → State → Error → Type 0
FailsToPut op old new e =
    IsFault old new e ⊎ IsRefused old old.now insert_op_text (row_of op) (understood keeper_schema insert_op_text)

-- why no operation was saved: a fault, or after the first ones the table does not take the next one
abbrev pub FailsToSave : List Op → State → State → Error → Type 0
FailsToSave ops old new e =
    IsFault old new e
    ⊎ ((first : List Op) × (op : Op) × (rest : List Op) × (ops ≡ first ++ op ∷ rest) × (db : Database) × AddsOps first old.now db
    × IsRefused old db insert_op_text (row_of op) (understood keeper_schema insert_op_text))

-- why the database did not give its operations: a fault, or the table has as many rows as a `u64` counts; and what it leaves for want of memory
abbrev pub FailsToLoad : State → State → Error → Type 0
FailsToLoad old new e =
    (IsFault old new e ⊎ ((e ≡ SqliteFailure TooBig) × (2 ^ 64 - 1 ≤ length (old.now.trees 1))))
    × (e ≡ SqliteFailure OutOfMemory → RunsOut old new)

-- why no operations were loaded, and what stays: they want for memory only where some were read, and none of what was read is bad
abbrev pub RefusesToLoad : State → State → LoadFault → Type 0
RefusesToLoad old new (Failed e) = FailsToLoad old new e
RefusesToLoad old new Memory = HasReadGood (old.now.trees 1) × IsUnchanged old new
RefusesToLoad old new BadRow = HasBadRow (old.now.trees 1) × IsUnchanged old new
