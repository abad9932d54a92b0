-- Why a key is refused, and the status that this is.
use Rattle.std.specs.Prelude.{ℕ}
use Rattle.std.specs.IoError.{error_kind}
use Rattle.std.specs.declared.io.Error as io
use Rattle.std.specs.declared.io.ErrorKind.{ErrorKind}
use Rattle.std.specs.declared.io.ErrorKind.TheVariants as kinds
use Rattle.fl_keys.specs.declared.fault.KeyFault.{KeyFault}
use Rattle.fl_keys.specs.declared.fault.KeyFault.TheVariants as faults

-- of a program that ends for it
abbrev pub status_of : KeyFault → ℕ
status_of (faults.System error) = 2
status_of faults.NoKey = 2
status_of faults.NotPrivate = 2
status_of faults.Memory = 3

-- what is told of the system's refusal: want of memory is none of the file
abbrev pub system_fault : io.Error → KeyFault
system_fault error = by_kind (error_kind error)
  where
    by_kind : ErrorKind → KeyFault
    by_kind kinds.OutOfMemory = faults.Memory
    by_kind kind = faults.System error
