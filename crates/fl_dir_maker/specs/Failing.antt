-- What a node is answered where no keeper was opened.
use Rattle.std.specs.IoError.{error_kind}
use Rattle.std.specs.declared.io.Error as io
use Rattle.std.specs.declared.io.ErrorKind.{ErrorKind}
use Rattle.std.specs.declared.io.ErrorKind.TheVariants as kinds
use Rattle.sqlite_std_file.specs.declared.pair.OpenError.{OpenError}
use Rattle.sqlite_std_file.specs.declared.pair.OpenError.TheVariants as opening
use Rattle.fl_dir_maker.specs.declared.fault.Cause.{Cause}
use Rattle.fl_dir_maker.specs.declared.fault.Cause.TheVariants as causes
use Rattle.fl_jobs.specs.declared.answer.Refusal.TheVariants.{Memory}
use Rattle.fl_system.specs.declared.answer.Fault.{Fault}
use Rattle.fl_system.specs.declared.answer.Fault.TheVariants.{Refused, KeeperFailed, WrongNode}
use Rattle.fl_store.specs.declared.keeper.KeeperFault.{KeeperFault}
use Rattle.fl_store.specs.declared.keeper.KeeperFault.TheVariants as kept
use Rattle.sqlite.specs.declared.error.Error.{Error}
use Rattle.sqlite.specs.declared.error.Error.TheVariants.{SqliteFailure}
use Rattle.sqlite.specs.declared.error.ErrorCode.TheVariants.{OutOfMemory}

-- what is told of a keeper that was not opened: no opening has spent names
abbrev pub cause_of : KeeperFault → Cause
cause_of kept.Memory = causes.Memory
cause_of kept.Broken = causes.Broken
cause_of kept.WrongNode = causes.WrongNode
cause_of kept.BadRow = causes.BadRow
cause_of kept.NamesSpent = causes.Broken

-- what is told of a database that was not opened
abbrev pub database_cause : Error → Cause
database_cause (SqliteFailure OutOfMemory) = causes.Memory
database_cause e = causes.Database e

-- what is told of the system's refusal: want of memory is no failure
abbrev pub system_cause : io.Error → Cause
system_cause e = by_kind (error_kind e)
  where
    by_kind : ErrorKind → Cause
    by_kind kinds.OutOfMemory = causes.Memory
    by_kind kind = causes.System e

-- what is told of files that were not opened: the same
abbrev pub files_cause : OpenError → Cause
files_cause opening.OutOfMemory = causes.Memory
files_cause (opening.Io e) = system_cause e
files_cause e = causes.Files e

-- it is told of files that were not opened
abbrev pub IsOfFiles : Cause → Type 0
IsOfFiles causes.Memory = Unit {0}
IsOfFiles (causes.System error) = Unit {0}
IsOfFiles (causes.Files error) = Unit {0}
IsOfFiles (causes.Database error) = ⊥
IsOfFiles causes.WrongNode = ⊥
IsOfFiles causes.BadRow = ⊥
IsOfFiles causes.Broken = ⊥

abbrev pub fault_of : Cause → Fault
fault_of causes.Memory = Refused Memory
fault_of (causes.System error) = KeeperFailed
fault_of (causes.Files error) = KeeperFailed
fault_of (causes.Database error) = KeeperFailed
fault_of causes.WrongNode = WrongNode
fault_of causes.BadRow = KeeperFailed
fault_of causes.Broken = KeeperFailed
