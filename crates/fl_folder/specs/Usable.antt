-- Files in memory that may be asked for more.
use Rattle.std.specs.Prelude.{Bool, true, ◌&&◌, Option, None, Some}
use Rattle.sqlite_disk.specs.Memory.{memory_is_usable}
use Rattle.sqlite_disk.specs.declared.Files.{Files}
use Rattle.sqlite_disk.specs.declared.memory.Memory.{Memory}

-- no sync of them has failed
abbrev pub are_usable : Option (Files Memory) → Bool
are_usable None = true
are_usable (Some files) = memory_is_usable files.log && memory_is_usable files.db
