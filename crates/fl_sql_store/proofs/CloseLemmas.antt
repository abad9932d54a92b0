-- What a keeper's files hold once its log is copied.
use Rattle.std.proofs.Common.{◌∙◌, ap}
use Rattle.sqlite_disk.specs.declared.Disk.{Ghosts}
use Rattle.sqlite_disk.specs.declared.Files.{Files}
use Rattle.sqlite_store.specs.declared.store.FileStore.{FileStore}
use Rattle.sqlite_store.specs.Laws.{settled_at, stays_at}
use Rattle.sqlite_wal.proofs.LogLemmas.{SeenMayStay}
use Rattle.sqlite.specs.Closing.{IsCopied}
use Rattle.sqlite.specs.Files.{file_state}
use Rattle.fl_sql_tables.specs.Stored.{kept_in}
use Rattle.fl_sql_store.specs.SqlKeeping.{SqlKept}
use Rattle.fl_sql_store.specs.Closing.{HoldsKept}

pub holds_kept : {D : Type 0} {g : Ghosts D} → SeenMayStay g → (keeper : SqlKept (FileStore D g)) (files : Files D)
    → IsCopied keeper.conn files → HoldsKept keeper files
holds_kept stays keeper files it = record {
  db = (file_state keeper.conn).committed.trees;
  kept = λ k. (
    λ h. h.2 ∙ ap (kept_in keeper.number) (settled_at keeper.conn.store stays h.0 it.was_open h.1),
    λ is. ((file_state keeper.conn).committed.trees, stays_at keeper.conn.store stays it.was_open, is),
  );
  seen = it.seen;
  left = it.left;
}
