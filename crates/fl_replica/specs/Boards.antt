-- What contracts see of a board.
use Rattle.std.specs.Prelude.{◌≡◌, List, length, take}
use Rattle.logbook.specs.Pages.{Book}
use Rattle.fl_ops.specs.declared.op.Op.{Op}

-- a beginning of the one list of a board
pub record Front : Type 0 where
  pub board : Book
  pub list : List Op

-- the published list, and what waits to be published
pub record Pressed : Type 0 where
  pub board : Book
  pub list : List Op
  pub staged : List Op

module _ {A : Type 0} where
  -- the list begins with `front`
  abbrev pub StartsWith : List A → List A → Type 0
  StartsWith list front = take (length front) list ≡ front
