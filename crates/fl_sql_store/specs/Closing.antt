-- What the files of a keeper hold once it is closed.
use Rattle.std.specs.Prelude.{◌≡◌, ◌↔◌}
use Rattle.sqlite_disk.specs.declared.Disk.{Ghosts}
use Rattle.sqlite_disk.specs.declared.Files.{Files}
use Rattle.sqlite_store.specs.FileStore.{view}
use Rattle.sqlite_store.specs.declared.store.FileStore.{FileStore}
use Rattle.sqlite_trees.specs.Tree.{Trees}
use Rattle.sqlite_trees.specs.View.{IsClean}
use Rattle.sqlite_wal.specs.Files.{outcomes}
use Rattle.sqlite_wal.specs.Recovery.{Image}
use Rattle.sqlite.specs.Closing.{HoldsAlone}
use Rattle.sqlite.specs.Files.{image_of, file_state, IsClosed, FailsToClose}
use Rattle.sqlite.specs.declared.error.Error.{Error}
use Rattle.fl_store.specs.Kept.{Kept}
use Rattle.fl_sql_tables.specs.Stored.{kept_in}
use Rattle.fl_sql_store.specs.SqlKeeping.{SqlKept, held_in}

module _ {D : Type 0} {g : Ghosts D} where
  -- What the keeper held is what one database keeps of its node, and nothing else. The files hold that database, as they read now and as
  -- a crash may leave them, and so does the database file with no log.
  pub record HoldsKept (keeper : SqlKept (FileStore D g)) (files : Files D) : Type 0 where
    pub db : Trees
    pub kept : (k : Kept) → held_in keeper.number (file_state keeper.conn) k ↔ (k ≡ kept_in keeper.number db)
    pub seen : HoldsAlone (image_of g files) db
    pub left : (image : Image) → outcomes g files.log files.db image → HoldsAlone image db

  -- the log was not copied, for this error; a crash finds no more than before
  abbrev pub IsUnclosed : SqlKept (FileStore D g) → Error → Type 0
  IsUnclosed keeper error = (last : FileStore D g) × IsClosed keeper.conn last × (IsClean (view last) → FailsToClose keeper.conn last error)
