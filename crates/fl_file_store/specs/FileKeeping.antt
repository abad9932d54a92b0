-- A keeper over files, and what opening it again makes of it.
use Rattle.std.specs.Prelude.{◌≡◌, ℕ, Bool, true, false, IsTrue}
use Rattle.std.specs.declared.result.Result.{Result}
use Rattle.std.specs.declared.result.Result.TheVariants.{Ok, Err}
use Rattle.std.proofs.Common.{ap, ◌∙◌}
use Rattle.sqlite_disk.specs.declared.Disk.{Ghosts}
use Rattle.sqlite_disk.specs.declared.Files.{Files}
use Rattle.sqlite_trees.specs.View.{IsClean, IsQuiet}
use Rattle.sqlite_store.specs.declared.store.FileStore.{FileStore}
use Rattle.sqlite_store.specs.FileStore as store
use Rattle.sqlite_store.specs.Laws.{survives_at}
use Rattle.sqlite.specs.declared.file.Leftover.{Leftover}
use Rattle.sqlite.specs.Held.{Held, AreDatabases}
use Rattle.sqlite.specs.State.{HasCleanDisk, Survives}
use Rattle.sqlite.specs.Files.{file_state, over_files, IsOpened, Finds, IsCleanLeft}
use Rattle.sqlite.specs.Files.{FailsToOpenFiles}
use Rattle.fl_store.specs.Custody.{Custody}
use Rattle.fl_store.specs.Kept.{Kept}
use Rattle.fl_store.specs.Call.{Call}
use Rattle.fl_store.specs.declared.keeper.KeeperFault.{KeeperFault}
use Rattle.fl_sql_tables.specs.Stored.{HasBadRow}
use Rattle.fl_sql_store.specs.SqlKeeping.{SqlKept, held_in, something_held, kept_number}
use Rattle.fl_sql_store.specs.Opening.{OpensAs, OpensTo, RefusesToOpen}
use Rattle.fl_sql_store.specs.Breaking.{SqlBreaks, SqlWants}
use Rattle.fl_file_store.specs.declared.unmended.Unmended.{Unmended}
use Rattle.fl_file_store.specs.declared.unmended.Unmended.TheVariants.{Unusable, Unopened}
use Rattle.fl_file_store.specs.declared.unmended.Unmended.TheVariants.{Refused, GivenUp}
use Rattle.fl_file_store.specs.declared.file_keeper.FileKeeper.{FileKeeper}
use Rattle.fl_file_store.specs.declared.file_keeper.FileKeeper.TheVariants.{Open, Lost}

-- no sync of either has failed
abbrev pub AreUsable : {D : Type 0} → Ghosts D → Files D → Type 0
AreUsable g files = IsTrue (g.is_usable files.log) × IsTrue (g.is_usable files.db)

module _ {D : Type 0} {g : Ghosts D} where
  abbrev pub number_of : FileKeeper D g → ℕ
  number_of (Open k) = k.number
  number_of (Lost number) = number

  abbrev pub failed_of : FileKeeper D g → ℕ
  failed_of (Open k) = k.failures
  failed_of (Lost number) = 1

  abbrev pub is_broken_of : FileKeeper D g → Bool
  is_broken_of (Open k) = k.is_broken
  is_broken_of (Lost number) = true

  -- one that is lost is never trusted
  abbrev pub IsHonest : FileKeeper D g → Type 0
  IsHonest (Open k) = HasCleanDisk (file_state k.conn)
  IsHonest (Lost number) = ⊥

  abbrev pub MayHold : FileKeeper D g → Kept → Type 0
  MayHold (Open k) kept = held_in k.number (file_state k.conn) kept
  MayHold (Lost number) kept = ⊥

  abbrev pub HasBad : FileKeeper D g → Type 0
  HasBad (Open k) = HasBadRow ((file_state k.conn).now.trees 1)
  HasBad (Lost number) = ⊥

  -- a lost one was broken before
  abbrev pub FileBreaks : Call → FileKeeper D g → FileKeeper D g → Type 0
  FileBreaks call (Open old) (Open new) = SqlBreaks over_files call old new
  FileBreaks call (Open old) (Lost number) = ⊥
  FileBreaks call (Lost number) new = ⊥

  abbrev pub FileWants : Call → FileKeeper D g → FileKeeper D g → Type 0
  FileWants call (Open old) (Open new) = SqlWants over_files call old new
  FileWants call (Open old) (Lost number) = ⊥
  FileWants call (Lost number) new = ⊥

  -- whose it is, what it may hold, and when it fails
  abbrev pub file_custody : Custody (FileKeeper D g)
  file_custody = record {
    number = number_of;
    may_hold = MayHold;
    is_honest = IsHonest;
    failed = failed_of;
    is_broken = is_broken_of;
    has_bad_row = HasBad;
    breaks = FileBreaks;
    wants = FileWants;
    becomes = λ call old new. Unit {0};
  }

  pub file_holds : ((file : D) → g.may_leave file (g.seen file)) → (keeper : FileKeeper D g)
      → IsHonest keeper → ∥ ((k : Kept) × MayHold keeper k) ∥₁
  file_holds stays (Open k) clean =
      something_held k.number (store.recovers k.conn.store) (survives_at k.conn.store stays clean)
  file_holds stays (Lost number) never = absurd never

  pub file_numbered : (keeper : FileKeeper D g) (k : Kept) → MayHold keeper k → k.number ≡ number_of keeper
  file_numbered (Open keeper) k h =
      ap (λ (k : Kept). k.number) h.2 ∙ kept_number keeper.number h.0
  file_numbered (Lost number) k never = absurd never

  -- ---- opened again

  -- the files of its store, once what was not committed was rolled back
  pub record GivesUp (c : Held (FileStore D g)) (files : Files D) : Type 0 where
    pub last : FileStore D g
    pub numbered : IsClean (store.view last) → IsTrue (store.view last).is_numbered
    pub sound : IsClean (store.view last) → AreDatabases (store.recovers last)
    pub quiet : IsQuiet store.view store.faults store.recovers store.is_shielded c.store last
    pub files_are : (files.log, files.db) ≡ store.files last

  -- its files were opened again, and what they hold was found
  pub record OpensAgain (c again : Held (FileStore D g)) : Type 0 where
    pub files : Files D
    pub given : GivesUp c files
    pub opened : HasCleanDisk (file_state again) → IsOpened again
    pub finds : HasCleanDisk (file_state again) → Finds files again

  -- why its files were not opened again
  abbrev pub StaysShut : Held (FileStore D g) → Unmended → Type 0
  StaysShut c Unusable = (files : Files D) × GivesUp c files × (¬ AreUsable g files)
  StaysShut c (Unopened error) = (files : Files D) × GivesUp c files × AreUsable g files
      × (left : Leftover D g) × (IsCleanLeft left → FailsToOpenFiles files left error)
  StaysShut c (Refused fault) = ⊥
  StaysShut c GivenUp = ⊥

  -- the keeper is opened over what its files hold
  pub record IsMended (old new : SqlKept (FileStore D g)) : Type 0 where
    pub again : Held (FileStore D g)
    pub found : OpensAgain old.conn again
    pub number : new.number ≡ old.number
    pub sound : new.is_broken ≡ false
    pub leaves : Survives (file_state again) (file_state new.conn) (OpensTo old.number (file_state again))
    pub opens : HasCleanDisk (file_state new.conn)
        → OpensAs old.number (file_state again) (file_state new.conn)

  -- what its files hold is refused
  pub record IsRefused (old new : SqlKept (FileStore D g)) (fault : KeeperFault) : Type 0 where
    pub again : Held (FileStore D g)
    pub found : OpensAgain old.conn again
    pub number : new.number ≡ old.number
    pub broken : IsTrue new.is_broken
    pub leaves : Survives (file_state again) (file_state new.conn) (OpensTo old.number (file_state again))
    pub refuses : HasCleanDisk (file_state new.conn)
        → RefusesToOpen old.number (file_state again) (file_state new.conn) fault

  -- what becomes of a broken keeper whose database was open
  abbrev pub Reopens : SqlKept (FileStore D g) → FileKeeper D g → Result (Unit {0}) Unmended
      → Type 0
  Reopens old new (Ok _) = (k : SqlKept (FileStore D g)) × (new ≡ Open k) × IsMended old k
  Reopens old new (Err (Refused fault)) =
      (k : SqlKept (FileStore D g)) × (new ≡ Open k) × IsRefused old k fault
  Reopens old new (Err Unusable) = (new ≡ Lost old.number) × StaysShut old.conn Unusable
  Reopens old new (Err (Unopened error)) =
      (new ≡ Lost old.number) × StaysShut old.conn (Unopened error)
  Reopens old new (Err GivenUp) = ⊥

  -- what becomes of a broken keeper
  abbrev pub Mends : FileKeeper D g → FileKeeper D g → Result (Unit {0}) Unmended → Type 0
  Mends (Open old) new result = Reopens old new result
  Mends (Lost number) new result = (new ≡ Lost number) × (result ≡ Err GivenUp)
