-- A keeper over the files at a path, and why there is none.
use Rattle.std.specs.Prelude.{◌≡◌, ℕ, [], false}
use Rattle.sqlite_disk.specs.declared.Disk.{Ghosts}
use Rattle.sqlite_disk.specs.declared.Files.{Files}
use Rattle.sqlite_store.specs.declared.store.FileStore.{FileStore}
use Rattle.sqlite_trees.specs.Tree.{Trees}
use Rattle.sqlite_wal.specs.Files.{outcomes}
use Rattle.sqlite_wal.specs.Reads.{AreClean}
use Rattle.sqlite_wal.specs.Recovery.{Image}
use Rattle.sqlite.specs.declared.error.Error.{Error}
use Rattle.sqlite.specs.declared.file.Leftover.{Leftover}
use Rattle.sqlite.specs.Files.{HoldsDatabase, AreFoundIn, image_of, file_state}
use Rattle.sqlite.specs.Files.{IsOpened, Finds, IsCleanLeft, FailsToOpenFiles}
use Rattle.sqlite.specs.Held.{Held}
use Rattle.sqlite.specs.State.{HasCleanDisk}
use Rattle.fl_store.specs.Kept.{Kept}
use Rattle.fl_store.specs.declared.keeper.KeeperFault.{KeeperFault}
use Rattle.fl_sql_tables.specs.Stored.{kept_in}
use Rattle.fl_sql_store.specs.SqlKeeping.{SqlKept, held_in}
use Rattle.fl_sql_store.specs.Opening.{RefusesToOpen}
use Rattle.fl_dir_maker.specs.declared.fault.Cause.{Cause}
use Rattle.fl_dir_maker.specs.declared.fault.Cause.TheVariants as causes
use Rattle.fl_dir_maker.specs.Failing.{IsOfFiles, cause_of, database_cause}

-- an opening of files that read so finds these trees
pub record IsFoundIn (image : Image) (db : Trees) : Type 0 where
  pub holds : (other : Trees) → HoldsDatabase image other → db ≡ other
  pub reads : AreFoundIn image db

-- what files keep of a node, which may read so
pub record IsKeptIn (holds : Image → Type 0) (number : ℕ) (k : Kept) : Type 0 where
  pub image : Image
  pub held : holds image
  pub db : Trees
  pub found : IsFoundIn image db
  pub same : k ≡ kept_in number db

-- how these files may read after a crash: as they do now is one way
abbrev pub MayRead : {D : Type 0} → Ghosts D → Files D → Image → Type 0
MayRead g files = outcomes g files.log files.db

-- how the database file may read, if its log is lost
abbrev pub MayReadAlone : {D : Type 0} → Ghosts D → Files D → Image → Type 0
MayReadAlone g files image = (it : Image) × MayRead g files it × (image ≡ record it { log = [] })

-- how these files read, unless they lie
abbrev pub Reads : {D : Type 0} (g : Ghosts D) → (Image → Type 0) → Files D → Type 0
Reads g holds files = AreClean g files.log files.db → holds (image_of g files)

module _ {D : Type 0} {g : Ghosts D} where
  -- the database of these files is open, and shows what they hold
  pub record IsOver (files : Files D) (c : Held (FileStore D g)) : Type 0 where
    pub opened : HasCleanDisk (file_state c) → IsOpened c
    pub finds : HasCleanDisk (file_state c) → Finds files c

  -- the database of files that read so is open
  abbrev pub Connects : (Image → Type 0) → Held (FileStore D g) → Type 0
  Connects holds c = (files : Files D) × Reads g holds files × IsOver files c

  -- a keeper of the node that is not broken, over files that read so: it holds no more than they do
  pub record IsKeeperOver (holds : Image → Type 0) (number : ℕ) (keeper : SqlKept (FileStore D g))
      : Type 0 where
    pub number_is : keeper.number ≡ number
    pub sound : keeper.is_broken ≡ false
    pub finds : HasCleanDisk (file_state keeper.conn) → (k : Kept)
        → held_in keeper.number (file_state keeper.conn) k → IsKeptIn holds number k

module _ {D : Type 0} (g : Ghosts D) (holds : Image → Type 0) where
  -- files that read so were not opened as a database, for this error
  abbrev pub NoDatabase : Error → Type 0
  NoDatabase error = (files : Files D) × Reads g holds files
      × (left : Leftover D g) × (IsCleanLeft left → FailsToOpenFiles files left error)

  -- the database of files that read so was refused for a keeper of the node, for this fault
  abbrev pub NoKeeper : ℕ → KeeperFault → Type 0
  NoKeeper number fault = (c left : Held (FileStore D g)) × Connects holds c
      × (HasCleanDisk (file_state left)
      → RefusesToOpen number (file_state c) (file_state left) fault)

-- Why no database is open over files that may read so, or may not be opened for some cause.
pub data IsUnconnected {D : Type 0} (g : Ghosts D) (holds : Image → Type 0)
    (fails : Cause → Type 0) : Cause → Type 0 where
  no_files : {cause : Cause} → IsOfFiles cause → fails cause
      → IsUnconnected g holds fails cause
  no_database : (error : Error) → NoDatabase g holds error
      → IsUnconnected g holds fails (database_cause error)

-- Why no keeper of the node is opened over such files.
pub data IsUnopened {D : Type 0} (g : Ghosts D) (holds : Image → Type 0) (fails : Cause → Type 0)
    (number : ℕ) : Cause → Type 0 where
  -- for the path of the files
  no_room : IsUnopened g holds fails number causes.Memory
  unconnected : {cause : Cause} → IsUnconnected g holds fails cause
      → IsUnopened g holds fails number cause
  no_keeper : (fault : KeeperFault) → NoKeeper g holds number fault
      → IsUnopened g holds fails number (cause_of fault)
