-- What breaks a keeper over a database.
use Rattle.std.specs.Prelude.{◌≡◌, ◌<◌, ◌+◌, ◌⊎◌, ℕ, List, codes, length, Option, Some}
use Rattle.sqlite.specs.Order.{Row}
use Rattle.sqlite.specs.declared.error.Error.{Error}
use Rattle.sqlite.specs.declared.error.Error.TheVariants.{SqliteFailure}
use Rattle.sqlite.specs.declared.error.ErrorCode.TheVariants.{OutOfMemory}
use Rattle.sqlite.specs.State.{State, IsNotRun, IsUnchanged, KeepsCommit, Survives}
use Rattle.sqlite.specs.Held.{Held, state}
use Rattle.sqlite.specs.Store.{Ghosts}
use Rattle.fl_store.specs.declared.keeper.KeeperFault.{KeeperFault}
use Rattle.fl_store.specs.declared.keeper.KeeperFault.TheVariants.{Memory, Broken, WrongNode, BadRow, NamesSpent}
use Rattle.fl_store.specs.Call.{Call, Load, Boot, Save}
use Rattle.fl_sql_tables.specs.Stored.{HasSelf, HasBadRow, HasReadGood, IsUndone}
use Rattle.fl_sql_tables.specs.Failing.{IsFault, FailsToRaise, FailsToLoad, FailsToSave, RunsOut}
use Rattle.fl_sql_store.specs.Opening.{IsFailure}
use Rattle.fl_sql_store.specs.SqlKeeping.{SqlKept}

-- a statement that reads no table
abbrev pub probe_text : List ℕ
probe_text = codes "SELECT 1"

-- not even that is prepared
abbrev pub FailsToGoOn : State → State → Type 0
FailsToGoOn old new = (e : Error) × ((params : Row) → IsNotRun old new probe_text params e)

-- an error for another cause than want of memory, or after one for want of memory the connection serves no more
abbrev pub Breaks : State → State → Error → Type 0
Breaks old new e = IsFailure e ⊎ FailsToGoOn old new

-- what an error is told as: it is want of memory, and the connection serves on as it was; or it breaks the keeper
abbrev pub IsToldAs : State → State → Error → KeeperFault → Type 0
IsToldAs old new e Memory = (e ≡ SqliteFailure OutOfMemory) × IsUnchanged old new
IsToldAs old new e Broken = Breaks old new e
IsToldAs old new e WrongNode = ⊥
IsToldAs old new e BadRow = ⊥
IsToldAs old new e NamesSpent = ⊥

-- A call failed with an error that has this cause, and committed nothing; where that was want of memory, it left neither a transaction
-- nor a savepoint. What it left became this with what the error was told as, where again nothing was committed. An error that breaks is
-- kept.
pub record IsTold {S : Type 0} (g : Ghosts S) (Fails : State → State → Error → Type 0)
    (old new : Held S) (why : Option Error) (fault : KeeperFault) : Type 0 where
  pub left : Held S
  pub error : Error
  pub cause : Fails (state g old) (state g left) error
  pub undone : IsUndone (state g old) (state g left)
  pub out : error ≡ SqliteFailure OutOfMemory → RunsOut (state g old) (state g left)
  pub told : IsToldAs (state g left) (state g new) error fault
  pub keeps : fault ≡ Broken → why ≡ Some error
  pub kept : KeepsCommit (state g left) (state g new)
  pub survives : Survives (state g left) (state g new) (λ _. ⊥)

-- why the boot was not raised: a fault, or below the last boot the table of the node itself does not take the next one
abbrev pub FailsToBoot : ℕ → State → State → Error → Type 0
FailsToBoot number old new e =
    IsFault old new e ⊎ ((was : ℕ) × (was < 4294967295) × HasSelf number was (old.now.trees 0) × FailsToRaise (was + 1) old new e)

-- why the operations were not loaded: a row is bad; there was not enough memory for those that were read, none of which is bad; or the
-- database failed
abbrev pub RefusesToLoad : {S : Type 0} → Ghosts S → Held S → Held S → Option Error → KeeperFault → Type 0
RefusesToLoad g old new why Memory =
    (HasReadGood ((state g old).now.trees 1) × IsUnchanged (state g old) (state g new))
    ⊎ IsTold g FailsToLoad old new why Memory
RefusesToLoad g old new why Broken = IsTold g FailsToLoad old new why Broken
RefusesToLoad g old new why WrongNode = ⊥
RefusesToLoad g old new why BadRow = HasBadRow ((state g old).now.trees 1) × IsUnchanged (state g old) (state g new)
RefusesToLoad g old new why NamesSpent = ⊥

-- what breaks a keeper over a database: the call over its connection failed, and the error was told
-- as a break
abbrev pub SqlBreaks : {S : Type 0} → Ghosts S → Call → SqlKept S → SqlKept S → Type 0
SqlBreaks g Load old new = IsTold g FailsToLoad old.conn new.conn new.why Broken
SqlBreaks g Boot old new = IsTold g (FailsToBoot old.number) old.conn new.conn new.why Broken
SqlBreaks g (Save ops) old new =
    (0 < length ops) × IsTold g (FailsToSave ops) old.conn new.conn new.why Broken

-- what wants for memory: the call over the connection did, or the operations that it read
abbrev pub SqlWants : {S : Type 0} → Ghosts S → Call → SqlKept S → SqlKept S → Type 0
SqlWants g Load old new = RefusesToLoad g old.conn new.conn new.why Memory
SqlWants g Boot old new = IsTold g (FailsToBoot old.number) old.conn new.conn new.why Memory
SqlWants g (Save ops) old new =
    (0 < length ops) × IsTold g (FailsToSave ops) old.conn new.conn new.why Memory
