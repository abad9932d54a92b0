-- A keeper over the files at a path, which are there, and why there is none.
use Rattle.std.specs.Prelude.{ℕ}
use Rattle.sqlite_disk.specs.declared.Disk.{Ghosts}
use Rattle.sqlite_store.specs.declared.store.FileStore.{FileStore}
use Rattle.sqlite_wal.specs.Recovery.{Image}
use Rattle.sqlite.specs.Files.{file_state}
use Rattle.sqlite.specs.Held.{Held}
use Rattle.sqlite.specs.State.{HasCleanDisk}
use Rattle.fl_sql_store.specs.Opening.{IsNotThere, RefusesThere}
use Rattle.fl_sql_store.specs.declared.there.NotThere.{NotThere}
use Rattle.fl_dir_maker.specs.declared.fault.Cause.{Cause}
use Rattle.fl_dir_maker.specs.Keeping.{Connects, IsUnconnected}
use Rattle.fl_node_files.specs.declared.fault.Unserved.{Unserved}
use Rattle.fl_node_files.specs.Unserving.{cause_unserved, there_unserved}

-- files that read so hold a database with tables
abbrev pub IsThere : {D : Type 0} → Ghosts D → (Image → Type 0) → Type 0
IsThere {D} g holds = (c : Held (FileStore D g)) × Connects holds c × (¬ IsNotThere (file_state c))

-- the database of files that read so was refused for a keeper of the node, for this
abbrev pub NoneIsKept : {D : Type 0} → Ghosts D → (Image → Type 0) → ℕ → NotThere → Type 0
NoneIsKept {D} g holds number why = (c left : Held (FileStore D g)) × Connects holds c
    × (HasCleanDisk (file_state left) → RefusesThere number (file_state c) (file_state left) why)

-- Why the node is not served from files that may read so, or may not be opened for some cause.
pub data IsUnserved {D : Type 0} (g : Ghosts D) (holds : Image → Type 0) (fails : Cause → Type 0)
    (number : ℕ) : Unserved → Type 0 where
  unconnected : {cause : Cause} → IsUnconnected g holds fails cause
      → IsUnserved g holds fails number (cause_unserved cause)
  no_keeper : (why : NotThere) → NoneIsKept g holds number why
      → IsUnserved g holds fails number (there_unserved why)
