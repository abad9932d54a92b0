-- What is promised of a maker of keepers over the files of a directory.
use Rattle.std.specs.Prelude.{◌≡◌, ◌⊎◌, ℕ, List}
use Rattle.sqlite_disk.specs.declared.Disk.{Ghosts}
use Rattle.sqlite_store.specs.declared.store.FileStore.{FileStore}
use Rattle.sqlite_wal.specs.Recovery.{Image}
use Rattle.fl_store.specs.Breaking.{IsLeftBroken}
use Rattle.fl_store.specs.Custody.{Custody}
use Rattle.fl_sql_store.specs.SqlKeeping.{SqlKept}
use Rattle.fl_makers.specs.Making.{Making}
use Rattle.fl_system.specs.declared.answer.Fault.{Fault}
use Rattle.fl_system.specs.declared.answer.Fault.TheVariants.{KeeperFailed}
use Rattle.fl_dir_maker.specs.declared.fault.Cause.{Cause}
use Rattle.fl_dir_maker.specs.Failing.{fault_of}
use Rattle.fl_dir_maker.specs.Keeping.{IsKeptIn, IsKeeperOver, IsUnopened}
use Rattle.fl_dir_maker.specs.NodeFile.{node_file}
use Rattle.fl_dir_maker.specs.Reach.{Reach}

-- how the node's file in the directory may read
abbrev pub HoldsAt : {O : Type 0} → Reach O → O → List ℕ → ℕ → Image → Type 0
HoldsAt reach opener dir number = reach.holds opener (node_file dir number)

-- why no keeper over that file is made
abbrev pub IsUnmade : {O D : Type 0} → Ghosts D → Reach O → O → List ℕ → ℕ → Fault → Type 0
IsUnmade g reach opener dir number fault = (cause : Cause) × (fault ≡ fault_of cause)
    × IsUnopened g (HoldsAt reach opener dir number)
    (reach.fails opener (node_file dir number)) number cause

-- one is made, and its opening leaves it broken, or finds a bad row
abbrev pub FailsAtOpening : {D : Type 0} {g : Ghosts D} → Custody (SqlKept (FileStore D g))
    → (Image → Type 0) → ℕ → Type 0
FailsAtOpening {D} {g} custody holds number =
    (keeper left : SqlKept (FileStore D g)) × IsKeeperOver holds number keeper
    × (IsLeftBroken custody keeper left ⊎ (custody.is_honest left → custody.has_bad_row keeper))

-- each keeper is one over the file of its node in the directory
abbrev pub dir_making : {M O D : Type 0} {g : Ghosts D} → Custody (SqlKept (FileStore D g))
    → Reach O → (M → O) → (M → List ℕ) → Making M (SqlKept (FileStore D g))
dir_making {g} custody reach opener dir = record {
  makes = λ maker number. IsKeeperOver (HoldsAt reach (opener maker) (dir maker) number) number;
  finds = λ maker number. IsKeptIn (HoldsAt reach (opener maker) (dir maker) number) number;
  unmade = λ maker. IsUnmade g reach (opener maker) (dir maker);
  refuses = λ maker number fault. IsUnmade g reach (opener maker) (dir maker) number fault
      ⊎ ((fault ≡ KeeperFailed)
      × FailsAtOpening custody (HoldsAt reach (opener maker) (dir maker) number) number);
  again = IsKeptIn reach.again;
}
