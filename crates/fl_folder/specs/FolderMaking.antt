-- What is promised of a maker of keepers over a folder.
use Rattle.std.specs.Prelude.{ℕ, List, ◌<◌, ◌^◌}
use Rattle.sqlite_disk.specs.declared.Disk.{Ghosts}
use Rattle.sqlite_disk.specs.declared.memory.Memory.{Memory}
use Rattle.sqlite_store.specs.declared.store.FileStore.{FileStore}
use Rattle.fl_store.specs.Custody.{Custody}
use Rattle.fl_sql_store.specs.SqlKeeping.{SqlKept}
use Rattle.fl_makers.specs.Making.{Making}
use Rattle.fl_dir_maker.specs.DirMaking.{HoldsAt, dir_making}
use Rattle.fl_dir_maker.specs.Keeping.{IsKeptIn}
use Rattle.fl_folder.specs.declared.folder.Folder.{Folder}
use Rattle.fl_folder.specs.Lying.{folder_reach}

-- that of files of a directory, which are found for the numbers that a node can have
abbrev pub folder_making : {M : Type 0} {g : Ghosts Memory} → Custody (SqlKept (FileStore Memory g))
    → (M → Folder) → (M → List ℕ) → Making M (SqlKept (FileStore Memory g))
folder_making custody folder dir = record (dir_making custody folder_reach folder dir) {
  finds = λ maker number k. (number < 2 ^ 32) × IsKeptIn (HoldsAt folder_reach (folder maker) (dir maker) number) number k;
}
