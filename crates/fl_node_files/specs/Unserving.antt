-- Why a node is not served, or not made, and the status that this is.
use Rattle.std.specs.Prelude.{ℕ, Option, None, Some}
use Rattle.sqlite.specs.declared.error.Error.{Error}
use Rattle.sqlite.specs.declared.error.Error.TheVariants.{SqliteFailure}
use Rattle.sqlite.specs.declared.error.ErrorCode.TheVariants as codes
use Rattle.sqlite_std_file.specs.declared.pair.OpenError.{OpenError}
use Rattle.sqlite_std_file.specs.declared.pair.OpenError.TheVariants as opening
use Rattle.fl_jobs.specs.declared.answer.Refusal.{Refusal}
use Rattle.fl_jobs.specs.declared.answer.Refusal.TheVariants as refusals
use Rattle.fl_system.specs.declared.answer.Fault.{Fault}
use Rattle.fl_system.specs.declared.answer.Fault.TheVariants as faults
use Rattle.fl_sql_store.specs.declared.there.NotThere.{NotThere}
use Rattle.fl_sql_store.specs.declared.there.NotThere.TheVariants.{Empty, Refused}
use Rattle.fl_dir_maker.specs.declared.fault.Cause.{Cause}
use Rattle.fl_dir_maker.specs.declared.fault.Cause.TheVariants as causes
use Rattle.fl_dir_maker.specs.Failing.{cause_of}
use Rattle.fl_node_files.specs.declared.fault.Unserved.{Unserved}
use Rattle.fl_node_files.specs.declared.fault.Unserved.TheVariants.{NoneThere, NoDirectory, ThereAlready}
use Rattle.fl_node_files.specs.declared.fault.Unserved.TheVariants.{LogMissing, LogAlone, WrongNode, Foreign}
use Rattle.fl_node_files.specs.declared.fault.Unserved.TheVariants.{Damaged, Journal, BadRow, BootsSpent}
use Rattle.fl_node_files.specs.declared.fault.Unserved.TheVariants.{InUse, System, Memory, Failed, Broken}

-- of a program that ends for it: 4 where what is kept is not what was said, else 3
abbrev pub status_of : Unserved → ℕ
status_of NoneThere = 4
status_of NoDirectory = 4
status_of ThereAlready = 4
status_of LogMissing = 4
status_of LogAlone = 4
status_of WrongNode = 4
status_of Foreign = 4
status_of (Damaged error) = 4
status_of Journal = 4
status_of BadRow = 4
status_of BootsSpent = 4
status_of InUse = 3
status_of (System error) = 3
status_of Memory = 3
status_of (Failed error) = 3
status_of Broken = 3

-- what is told of an error of the database: the file is damaged, or no database, or too large for
-- one; or it failed, but for memory
abbrev pub error_unserved : Error → Unserved
error_unserved (SqliteFailure codes.OutOfMemory) = Memory
error_unserved (SqliteFailure codes.NotADatabase) = Damaged (SqliteFailure codes.NotADatabase)
error_unserved (SqliteFailure codes.DatabaseCorrupt) = Damaged (SqliteFailure codes.DatabaseCorrupt)
error_unserved (SqliteFailure codes.TooBig) = Damaged (SqliteFailure codes.TooBig)
error_unserved error = Failed error

-- of files that were not opened
abbrev pub files_unserved : OpenError → Unserved
files_unserved (opening.Io error) = System error
files_unserved opening.OutOfMemory = Memory
files_unserved opening.Busy = InUse
files_unserved opening.HotJournal = Journal

-- of a keeper that was not opened
abbrev pub cause_unserved : Cause → Unserved
cause_unserved causes.Memory = Memory
cause_unserved (causes.System error) = System error
cause_unserved (causes.Files error) = files_unserved error
cause_unserved (causes.Database error) = error_unserved error
cause_unserved causes.WrongNode = WrongNode
cause_unserved causes.BadRow = Foreign
cause_unserved causes.Broken = Broken

-- of one over a database that was to be there
abbrev pub there_unserved : NotThere → Unserved
there_unserved Empty = NoneThere
there_unserved (Refused fault) = cause_unserved (cause_of fault)

-- of a keeper that failed, at this error if it broke, and else at a row
abbrev pub failed_unserved : Option Error → Unserved
failed_unserved (Some error) = error_unserved error
failed_unserved None = BadRow

-- of a node that a refusal kept from being opened: only its boot and memory are refused so
abbrev pub refusal_unserved : Refusal → Unserved
refusal_unserved refusals.NamesSpent = BootsSpent
refusal_unserved refusals.Memory = Memory
refusal_unserved refusal = Broken

-- of a node that was not opened over a keeper, which broke at this error if it did
abbrev pub refused_unserved : Fault → Option Error → Unserved
refused_unserved faults.KeeperFailed why = failed_unserved why
refused_unserved faults.WrongNode why = WrongNode
refused_unserved (faults.Refused refusal) why = refusal_unserved refusal
refused_unserved (faults.Clash name) why = Broken
refused_unserved (faults.Impostor name) why = Broken
refused_unserved faults.Stopped why = Broken
