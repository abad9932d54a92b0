-- What the lines of a script have made, and what they call it.
use Rattle.std.specs.Prelude.{[]}
use Rattle.fl_aliases.specs.Table.{Table}
use Rattle.fl_system.specs.World.{World, empty_world}

-- the world, and the aliases that are set
pub record Session : Type 0 where
  pub world : World
  pub aliases : Table

-- before the first line
abbrev pub begun : Session
begun = record { world = empty_world 1; aliases = [] }
