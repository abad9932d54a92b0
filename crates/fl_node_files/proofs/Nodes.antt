-- What is found in the database of a node, and in its files.
use Rattle.std.proofs.Common.{◌≡◌, inl, inr, ℕ, false, refl, sym, subst}
use Rattle.sqlite_disk.specs.declared.Disk.{Ghosts}
use Rattle.sqlite_disk.specs.declared.Files.{Files}
use Rattle.sqlite_store.specs.Laws.{stays_at}
use Rattle.sqlite_store.specs.declared.store.FileStore.{FileStore}
use Rattle.sqlite_trees.specs.Tree.{Trees}
use Rattle.sqlite_wal.proofs.LogLemmas.{SeenMayStay}
use Rattle.sqlite_wal.specs.Recovery.{Image}
use Rattle.sqlite.specs.Closing.{HoldsAlone, IsCopied}
use Rattle.sqlite.specs.Effect.{Database}
use Rattle.sqlite.specs.Files.{image_of, file_state, IsOpened}
use Rattle.sqlite.specs.Held.{Held}
use Rattle.sqlite.specs.State.{HasCleanDisk, IsUnchanged, Survives}
use Rattle.fl_ops.specs.declared.format.Format.{Format}
use Rattle.fl_ops.specs.declared.format.Format.TheVariants.{One, Two}
use Rattle.fl_store.specs.Keeping.{Stays}
use Rattle.fl_sql_tables.specs.Founding.{IsOwnIn}
use Rattle.fl_sql_tables.specs.Serving.{IsReady}
use Rattle.fl_sql_tables.specs.Stored.{HasSelf, kept_in}
use Rattle.fl_sql_tables.specs.Tables.{keeper_schema}
use Rattle.fl_sql_tables.specs.laws.Listed.{listed_if_sound}
use Rattle.fl_sql_store.specs.Opening.{OpensAs}
use Rattle.fl_sql_store.specs.SqlKeeping.{SqlKept, held_in}
use Rattle.fl_sql_store.proofs.FoundLemmas.{ready_founded}
use Rattle.fl_sql_store.proofs.KeepLemmas.{clean_before, ready_unchanged}
use Rattle.fl_sql_store.proofs.RewriteLemmas.{ready_migrated}
use Rattle.fl_dir_maker.specs.Keeping.{Connects}
use Rattle.fl_dir_maker.proofs.Keepers.{is_keeper}
use Rattle.fl_node_files.specs.Making.{IsMade, IsNodeOver}

module _ {D : Type 0} {g : Ghosts D} (number : ℕ) (c : Held (FileStore D g)) (opened : IsOpened c) where
  -- a database that was opened, and is the node's, serves as it is
  ready_there : (f : Format) → (file_state c).now.schema ≡ keeper_schema → IsOwnIn f number ((file_state c).now.trees 0)
      → IsReady number (file_state c)
  ready_there f ours own = record {
    is_open = opened.0.is_open;
    schema = ours;
    settled = opened.0.clean;
    listed = listed_if_sound (file_state c).now (opened.1 opened.0.is_open).0 ours;
    boot = own.0;
    in_range = own.1;
    itself = (f, own.2);
  }

  -- so does what a keeper's opening made of it
  ready_then : (new : Held (FileStore D g)) → OpensAs number (file_state c) (file_state new) → IsReady number (file_state new)
  ready_then new (inl (inl (ours, own, same))) =
      ready_unchanged number (file_state c) (file_state new) (ready_there Two ours own) same
  ready_then new (inl (inr (ours, own, it))) =
      ready_migrated number it.ops (file_state c) (file_state new) (ready_there One ours own) it.migrates
  ready_then new (inr (blank, founds)) = ready_founded number (file_state c) (file_state new) founds

module _ {D : Type 0} {g : Ghosts D} (stays : SeenMayStay g) (holds : Image → Type 0) (number : ℕ) (c : Held (FileStore D g)) where
  -- the database of a keeper that was opened over files that read so is the node's
  pub node_over : (keeper : SqlKept (FileStore D g)) (P : Trees → Type 0) → Connects holds c
      → (keeper.number ≡ number) × (keeper.failures ≡ 0) × (keeper.is_broken ≡ false)
      → (HasCleanDisk (file_state keeper.conn) → OpensAs number (file_state c) (file_state keeper.conn))
      → (HasCleanDisk (file_state keeper.conn) → Stays (held_in number (file_state c)) (held_in number (file_state keeper.conn)))
      → Survives (file_state c) (file_state keeper.conn) P
      → IsNodeOver holds number keeper.conn
  node_over keeper P connects is opens held survives =
      let over = is_keeper stays holds number c keeper connects is held in
      record {
        serving = λ clean. ready_then number c
            (connects.2.opened (clean_before (file_state c) (file_state keeper.conn) P survives clean)) keeper.conn (opens clean);
        finds = λ clean k h. over.finds clean k (subst (λ n. held_in n (file_state keeper.conn) k) (sym is.0) h);
      }

  -- files into which the log was copied hold it, where it has boot 0
  pub made_in : (left : Held (FileStore D g)) (files : Files D) → IsNodeOver holds number c
      → Survives (file_state c) (file_state left) (λ _. ⊥)
      → (HasCleanDisk (file_state left) → HasSelf number 0 ((file_state c).now.trees 0))
      → (HasCleanDisk (file_state left) → IsUnchanged (file_state c) (file_state left))
      → IsCopied left files → IsMade g holds number files
  made_in left files node survives first same copied =
      let clean = copied.was_clean in
      let early = clean_before (file_state c) (file_state left) (λ _. ⊥) survives clean in
      let ready = node.serving early in
      let is = (same clean).0.committed_is in
      record {
        db = (file_state c).committed.trees;
        itself = subst (λ (d : Database). HasSelf number 0 (d.trees 0)) ready.settled (first clean);
        found = node.finds early (kept_in number (file_state c).committed.trees)
            ((file_state c).committed.trees, stays_at c.store stays ready.is_open, refl);
        seen = subst (λ (d : Database). HoldsAlone (image_of g files) d.trees) is copied.seen;
        left = λ image may. subst (λ (d : Database). HoldsAlone image d.trees) is (copied.left image may);
      }
