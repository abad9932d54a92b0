-- What a keeper finds in the files that it was opened over.
use Rattle.std.proofs.Common.{◌≡◌, ◌⊎◌, ◌∙◌, inl, inr, ℕ, false, List, refl, ap, subst}
use Rattle.std.proofs.Math.Logic.{∥∥₁_elim}
use mathlib.Core.Bool.{Bool-set}
use Rattle.sqlite_disk.specs.declared.Disk.{Ghosts}
use Rattle.sqlite_wal.proofs.LogLemmas.{SeenMayStay}
use Rattle.sqlite_wal.specs.Recovery.{Image}
use Rattle.sqlite_pool.proofs.StateLemmas.{clean_if_left}
use Rattle.sqlite_trees.proofs.Doubt.{no_doubt}
use Rattle.sqlite_store.specs.declared.store.FileStore.{FileStore}
use Rattle.sqlite_store.specs.Laws.{settled_at, survives_at}
use Rattle.sqlite.specs.Files.{file_state}
use Rattle.sqlite.specs.Held.{Held}
use Rattle.sqlite.specs.State.{HasCleanDisk}
use Rattle.fl_store.specs.Keeping.{Stays}
use Rattle.fl_store.specs.Kept.{Kept}
use Rattle.fl_sql_tables.specs.Stored.{kept_in}
use Rattle.fl_sql_store.specs.SqlKeeping.{SqlKept, held_in}
use Rattle.fl_store.specs.Custody.{Custody}
use Rattle.fl_system.specs.declared.answer.Fault.{Fault}
use Rattle.fl_system.specs.declared.answer.Fault.TheVariants.{KeeperFailed}
use Rattle.fl_dir_maker.specs.declared.fault.Cause.{Cause}
use Rattle.fl_dir_maker.specs.DirMaking.{HoldsAt, IsUnmade, FailsAtOpening}
use Rattle.fl_dir_maker.specs.Reach.{Reach}
use Rattle.fl_dir_maker.specs.Keeping.{IsKeptIn, Connects, IsKeeperOver}
use Rattle.fl_dir_maker.specs.Keeping.{IsUnconnected, no_files, no_database}
use Rattle.fl_dir_maker.specs.Keeping.{IsUnopened, no_room, unconnected, no_keeper}

module _ {D : Type 0} {g : Ghosts D} (stays : SeenMayStay g) (holds : Image → Type 0) (number : ℕ) (c : Held (FileStore D g)) (keeper : SqlKept (FileStore D g)) where
  -- what leaves no more than another, and was not lied to, leaves something that the other left, which was not lied to then
  clean_before : Stays (held_in number (file_state c)) (held_in number (file_state keeper.conn)) → HasCleanDisk (file_state keeper.conn) → HasCleanDisk (file_state c)
  clean_before same clean = no_doubt _ (∥∥₁_elim (survives_at keeper.conn.store stays clean) (Bool-set _ _) (λ some.
      let before = same (kept_in number some.0) (some.0, some.1, refl) in
      clean_if_left c.store.pool before.1.1.0 before.1.1.2))

  -- what may be left of a database that was opened is what its files hold
  found : Connects holds c → HasCleanDisk (file_state c) → (k : Kept) → held_in number (file_state c) k → IsKeptIn holds number k
  found (files, reads, it) clean k h =
      let finds = it.finds clean in
      record {
        image = _;
        held = reads finds.honest;
        db = (file_state c).committed.trees;
        found = record { holds = finds.holds; reads = finds.reads };
        same = h.2 ∙ ap (kept_in number) (settled_at c.store stays h.0 (it.opened clean).0.is_open h.1);
      }

  pub is_keeper : Connects holds c → (keeper.number ≡ number) × (keeper.failures ≡ 0) × (keeper.is_broken ≡ false)
      → (HasCleanDisk (file_state keeper.conn) → Stays (held_in number (file_state c)) (held_in number (file_state keeper.conn)))
      → IsKeeperOver holds number keeper
  is_keeper connects is same = record {
    number_is = is.0;
    sound = is.2;
    finds = λ clean k h.
        let here = subst (λ n. held_in n (file_state keeper.conn) k) is.0 h in
        let before = same clean k here in
        let old = found connects (clean_before (same clean) clean) before.0 before.1 in
        record { image = old.image; held = old.held; db = old.db; found = old.found; same = before.2 ∙ old.same };
  }

-- ---- of an opener that reaches no more than another

module _ (holds more : Image → Type 0) (wider : (image : Image) → holds image → more image) where
  pub kept_more : (number : ℕ) (k : Kept) → IsKeptIn holds number k → IsKeptIn more number k
  kept_more number k it = record { image = it.image; held = wider it.image it.held; db = it.db; found = it.found; same = it.same }

module _ {D : Type 0} {g : Ghosts D} (holds more : Image → Type 0) (wider : (image : Image) → holds image → more image) where
  pub keeper_more : (number : ℕ) (keeper : SqlKept (FileStore D g)) → IsKeeperOver holds number keeper → IsKeeperOver more number keeper
  keeper_more number keeper it = record {
    number_is = it.number_is;
    sound = it.sound;
    finds = λ clean k h. kept_more holds more wider number k (it.finds clean k h);
  }

  connects_more : (c : Held (FileStore D g)) → Connects holds c → Connects more c
  connects_more c (files, reads, it) = (files, (λ clean. wider _ (reads clean)), it)

  module _ (fails fails_more : Cause → Type 0) (rarer : (cause : Cause) → fails cause → fails_more cause) (number : ℕ) where
    unconnected_more : (cause : Cause) → IsUnconnected g holds fails cause → IsUnconnected g more fails_more cause
    unconnected_more _ (no_files of_files why) = no_files of_files (rarer _ why)
    unconnected_more _ (no_database error (files, reads, left, why)) = no_database error (files, (λ clean. wider _ (reads clean)), left, why)

    pub unopened_more : (cause : Cause) → IsUnopened g holds fails number cause → IsUnopened g more fails_more number cause
    unopened_more _ no_room = no_room
    unopened_more _ (unconnected why) = unconnected (unconnected_more _ why)
    unopened_more _ (no_keeper fault (c, left, connects, why)) = no_keeper fault (c, left, connects_more c connects, why)

module _ {O D : Type 0} {g : Ghosts D} (reach : Reach O) {old new : O} (dir : List ℕ)
    (holds_less : (at : List ℕ) (image : Image) → reach.holds new at image → reach.holds old at image)
    (number : ℕ) where
  pub keeper_less : (keeper : SqlKept (FileStore D g)) → IsKeeperOver (HoldsAt reach new dir number) number keeper
      → IsKeeperOver (HoldsAt reach old dir number) number keeper
  keeper_less = keeper_more (HoldsAt reach new dir number) (HoldsAt reach old dir number) (holds_less _) number

  module _ (fails_less : (at : List ℕ) (cause : Cause) → reach.fails new at cause → reach.fails old at cause) where
    pub unmade_less : (fault : Fault) → IsUnmade g reach new dir number fault → IsUnmade g reach old dir number fault
    unmade_less fault (cause, is, why) = (
      cause,
      is,
      unopened_more (HoldsAt reach new dir number) (HoldsAt reach old dir number) (holds_less _) _ _ (fails_less _) number cause why,
    )

    pub refuses_less : (custody : Custody (SqlKept (FileStore D g))) (fault : Fault)
        → IsUnmade g reach new dir number fault ⊎ ((fault ≡ KeeperFailed) × FailsAtOpening custody (HoldsAt reach new dir number) number)
        → IsUnmade g reach old dir number fault ⊎ ((fault ≡ KeeperFailed) × FailsAtOpening custody (HoldsAt reach old dir number) number)
    refuses_less custody fault (inl why) = inl (unmade_less fault why)
    refuses_less custody fault (inr (is, (keeper, left, over, why))) = inr (is, (keeper, left, keeper_less keeper over, why))
