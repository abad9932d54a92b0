-- Aliases with room for more of them.
use Rattle.std.specs.Prelude.{ℕ}
use Rattle.fl_aliases.specs.Table.{Table}

-- what the aliases stand for, and how many more may be set with no memory, at least
pub record RoomyTable : Type 0 where
  pub table : Table
  pub room : ℕ
