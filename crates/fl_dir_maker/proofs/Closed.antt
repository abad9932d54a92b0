-- What is found in the files of a closed keeper.
use Rattle.std.proofs.Common.{◌≡◌, ◌∙◌, [], ap, subst, sym}
use Rattle.std.proofs.Math.Logic.{∥∥₁_elim}
use Rattle.sqlite_disk.specs.declared.Disk.{Ghosts}
use Rattle.sqlite_disk.specs.declared.Files.{Files}
use Rattle.sqlite_store.specs.declared.store.FileStore.{FileStore}
use Rattle.sqlite_trees.specs.Props.{Trees-set}
use Rattle.sqlite_trees.specs.Tree.{Trees}
use Rattle.sqlite_wal.specs.Recovery.{Image}
use Rattle.sqlite.specs.Files.{HoldsDatabase, file_state}
use Rattle.fl_store.specs.Kept.{Kept}
use Rattle.fl_sql_tables.specs.Stored.{kept_in}
use Rattle.fl_sql_store.specs.Closing.{HoldsKept}
use Rattle.fl_sql_store.specs.SqlKeeping.{SqlKept, held_in}
use Rattle.fl_dir_maker.specs.Keeping.{IsFoundIn, IsKeptIn, MayRead, MayReadAlone}

-- an opening of an image that holds a database finds no other
found_is : (image : Image) (db held : Trees) → IsFoundIn image db → ∥ HoldsDatabase image held ∥₁ → db ≡ held
found_is image db held found it = ∥∥₁_elim it (Trees-set db held) (λ h. found.holds held h)

module _ {D : Type 0} {g : Ghosts D} (keeper : SqlKept (FileStore D g)) (files : Files D) (k : Kept) (closed : HoldsKept keeper files) where
  kept_if : (db : Trees) → db ≡ closed.db → k ≡ kept_in keeper.number db → held_in keeper.number (file_state keeper.conn) k
  kept_if db is same = (closed.kept k).1 (same ∙ ap (kept_in keeper.number) is)

  pub closed_both : IsKeptIn (MayRead g files) keeper.number k → held_in keeper.number (file_state keeper.conn) k
  closed_both it = kept_if it.db (found_is it.image it.db closed.db it.found (closed.left it.image it.held).both) it.same

  pub closed_alone : IsKeptIn (MayReadAlone g files) keeper.number k → held_in keeper.number (file_state keeper.conn) k
  closed_alone it =
      let alone = subst (λ image. ∥ HoldsDatabase image closed.db ∥₁) (sym it.held.2) (closed.left it.held.0 it.held.1).alone in
      kept_if it.db (found_is it.image it.db closed.db it.found alone) it.same
