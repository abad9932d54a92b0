-- What lies in a folder, and how it is opened.
use Rattle.std.specs.Prelude.{◌≡◌, ◌⊎◌, ℕ, List, [], Option, None, Some, option_map}
use Rattle.std.specs.BTreeMap.{get_by_text}
use Rattle.std.specs.Map.{update}
use Rattle.std.specs.Str.{bytes_eq}
use Rattle.sqlite.specs.declared.error.Error.{Error}
use Rattle.sqlite_disk.specs.Memory.{memory_bytes}
use Rattle.sqlite_disk.specs.declared.Disk.{Ghosts}
use Rattle.sqlite_disk.specs.declared.Files.{Files}
use Rattle.sqlite_disk.specs.declared.memory.Memory.{Memory}
use Rattle.sqlite_std_file.specs.declared.pair.OpenError.TheVariants.{Busy}
use Rattle.sqlite_store.specs.declared.store.FileStore.{FileStore}
use Rattle.sqlite_wal.specs.Recovery.{Image}
use Rattle.fl_sql_store.specs.Closing.{HoldsKept, IsUnclosed}
use Rattle.fl_sql_store.specs.SqlKeeping.{SqlKept}
use Rattle.fl_dir_maker.specs.Failing.{database_cause}
use Rattle.fl_dir_maker.specs.Reach.{Reach}
use Rattle.fl_dir_maker.specs.declared.fault.Cause.{Cause}
use Rattle.fl_dir_maker.specs.declared.fault.Cause.TheVariants as causes
use Rattle.fl_folder.specs.declared.folder.Folder.{Folder}
use Rattle.fl_folder.specs.declared.place.Place.{Place}

-- what is at a path: nothing; files that are open, and not there; or files
abbrev pub place : Folder → List ℕ → Option (Option (Files Memory))
place folder at = option_map (λ (it : Place). it.files) (get_by_text folder.places at)

-- how files read
abbrev pub image_in : Files Memory → Image
image_in files = record { log = memory_bytes files.log; db = memory_bytes files.db }

abbrev pub empty_image : Image
empty_image = record { log = []; db = [] }

-- how the files of a place read once they are opened: as they are, or as new ones where there are none
abbrev pub IsAt : Option (Option (Files Memory)) → Image → Type 0
IsAt None image = image ≡ empty_image
IsAt (Some None) image = ⊥
IsAt (Some (Some files)) image = image ≡ image_in files

-- why the files of a place are not opened, now or later: they are open then; or none are there, and there is no memory for a new path
abbrev pub FailsAt : Option (Option (Files Memory)) → Cause → Type 0
FailsAt it cause = (cause ≡ causes.Files Busy) ⊎ ((cause ≡ causes.Memory) × (it ≡ None))

-- files that are open are not opened a second time
abbrev pub folder_reach : Reach Folder
folder_reach = record {
  holds = λ folder at. IsAt (place folder at);
  fails = λ folder at. FailsAt (place folder at);
  again = λ _. ⊥;
}

-- these are the files of a place, or new ones where there are none
abbrev pub IsTakenFrom : Option (Option (Files Memory)) → Files Memory → Type 0
IsTakenFrom None files = image_in files ≡ empty_image
IsTakenFrom (Some None) files = ⊥
IsTakenFrom (Some (Some there)) files = files ≡ there

-- why the files of a place are not taken
abbrev pub RefusesToTake : Option (Option (Files Memory)) → Cause → Type 0
RefusesToTake None cause = cause ≡ causes.Memory
RefusesToTake (Some None) cause = cause ≡ causes.Files Busy
RefusesToTake (Some (Some there)) cause = ⊥

module _ {g : Ghosts Memory} where
  -- the files of the keeper lie at the path, and hold what it kept; each other path is as it was
  pub record IsKeptAt (old : Folder) (path : List ℕ) (keeper : SqlKept (FileStore Memory g)) (new : Folder) : Type 0 where
    pub files : Files Memory
    pub holds : HoldsKept keeper files
    pub lie : (at : List ℕ) → place new at ≡ update bytes_eq (place old) path (Some (Some files)) at

  -- why the files of a keeper do not lie at a place
  abbrev pub RefusesToKeep : Option (Option (Files Memory)) → SqlKept (FileStore Memory g) → Cause → Type 0
  RefusesToKeep it keeper cause =
      ((cause ≡ causes.Memory) × (it ≡ None)) ⊎ ((error : Error) × (cause ≡ database_cause error) × IsUnclosed keeper error)
