-- A node that was made and never opened, and why none was made.
use Rattle.std.specs.Prelude.{◌≡◌, ◌<◌, ◌⊎◌, ℕ}
use Rattle.sqlite_disk.specs.declared.Disk.{Ghosts}
use Rattle.sqlite_disk.specs.declared.Files.{Files}
use Rattle.sqlite_store.specs.FileStore.{view}
use Rattle.sqlite_store.specs.declared.store.FileStore.{FileStore}
use Rattle.sqlite_trees.specs.Tree.{Trees}
use Rattle.sqlite_trees.specs.View.{IsClean}
use Rattle.sqlite_wal.specs.Files.{outcomes}
use Rattle.sqlite_wal.specs.Recovery.{Image}
use Rattle.sqlite.specs.Closing.{HoldsAlone}
use Rattle.sqlite.specs.declared.error.Error.{Error}
use Rattle.sqlite.specs.Files.{image_of, file_state, FailsToClose}
use Rattle.sqlite.specs.Held.{Held}
use Rattle.sqlite.specs.State.{State, HasCleanDisk}
use Rattle.fl_store.specs.Kept.{Kept}
use Rattle.fl_store.specs.declared.keeper.KeeperFault.{KeeperFault}
use Rattle.fl_sql_tables.specs.Failing.{IsFault}
use Rattle.fl_sql_tables.specs.Serving.{IsServing}
use Rattle.fl_sql_tables.specs.Stored.{HasSelf, kept_in}
use Rattle.fl_sql_store.specs.SqlKeeping.{held_in}
use Rattle.fl_dir_maker.specs.declared.fault.Cause.{Cause}
use Rattle.fl_dir_maker.specs.Failing.{cause_of}
use Rattle.fl_dir_maker.specs.Keeping.{IsKeptIn, IsUnconnected, NoKeeper}
use Rattle.fl_node_files.specs.declared.fault.Unserved.{Unserved}
use Rattle.fl_node_files.specs.declared.fault.Unserved.TheVariants.{ThereAlready}
use Rattle.fl_node_files.specs.Unserving.{cause_unserved, error_unserved}

-- why a database that serves as the node's is not one that was never opened: its boot is above 0,
-- or was not read for this error
abbrev pub IsNotNew : ℕ → State → State → Unserved → Type 0
IsNotNew number old new why =
    ((why ≡ ThereAlready) × (boot : ℕ) × (0 < boot) × HasSelf number boot (old.now.trees 0))
    ⊎ ((error : Error) × (why ≡ error_unserved error) × IsFault old new error)

module _ {D : Type 0} {g : Ghosts D} where
  -- the node's database is open over files that read so: it holds no more than they do
  pub record IsNodeOver (holds : Image → Type 0) (number : ℕ) (c : Held (FileStore D g))
      : Type 0 where
    pub serving : IsServing number (file_state c)
    pub finds : HasCleanDisk (file_state c) → (k : Kept) → held_in number (file_state c) k
        → IsKeptIn holds number k

  -- the log of a database was not copied, for an error that comes to this
  abbrev pub IsUnmerged : Held (FileStore D g) → Unserved → Type 0
  IsUnmerged c why = (error : Error) × (last : FileStore D g) × (why ≡ error_unserved error)
      × (IsClean (view last) → FailsToClose c last error)

-- The files hold the node, with boot 0, as they read now and as a crash may leave them, and so does
-- the database file with no log. All that it keeps was found in files that read so.
pub record IsMade {D : Type 0} (g : Ghosts D) (holds : Image → Type 0) (number : ℕ)
    (files : Files D) : Type 0 where
  pub db : Trees
  pub itself : HasSelf number 0 (db 0)
  pub found : IsKeptIn holds number (kept_in number db)
  pub seen : HoldsAlone (image_of g files) db
  pub left : (image : Image) → outcomes g files.log files.db image → HoldsAlone image db

-- Why the node was not made in files that may read so, or may not be opened for some cause.
pub data IsUnmade {D : Type 0} (g : Ghosts D) (holds : Image → Type 0) (fails : Cause → Type 0)
    (number : ℕ) : Unserved → Type 0 where
  unconnected : {cause : Cause} → IsUnconnected g holds fails cause
      → IsUnmade g holds fails number (cause_unserved cause)
  no_keeper : (fault : KeeperFault) → NoKeeper g holds number fault
      → IsUnmade g holds fails number (cause_unserved (cause_of fault))
  not_new : {why : Unserved} (c left : Held (FileStore D g)) → IsNodeOver holds number c
      → (HasCleanDisk (file_state left) → IsNotNew number (file_state c) (file_state left) why)
      → IsUnmade g holds fails number why
  unmerged : {why : Unserved} (c : Held (FileStore D g)) → IsUnmerged c why
      → IsUnmade g holds fails number why
