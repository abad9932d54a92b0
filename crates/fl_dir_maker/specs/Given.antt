-- Files of which it is known what they hold.
use Rattle.std.specs.Prelude.{◌≡◌}
use Rattle.sqlite_trees.specs.Tree.{Trees}
use Rattle.sqlite_wal.specs.Recovery.{Image}
use Rattle.sqlite.specs.Files.{HoldsDatabase}

-- files that may read so read in one way, and hold this database
pub record HoldOnly (holds : Image → Type 0) (db : Trees) : Type 0 where
  pub image : Image
  pub only : (other : Image) → holds other → other ≡ image
  pub database : HoldsDatabase image db
