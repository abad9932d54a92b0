-- A world of nodes over their keepers.
use Rattle.std.specs.Prelude.{ℕ}
use Rattle.std.specs.Coded.{Coded}
use Rattle.fl_system.specs.World.{WorldOf, empty_of, coded_world_of}
use Rattle.fl_node.specs.Over.{NodeOver, coded_over}

abbrev pub WorldOver : Type 0 → Type 0
WorldOver K = WorldOf (NodeOver K)

-- without a node
abbrev pub empty_over : {K : Type 0} → ℕ → WorldOver K
empty_over = empty_of

-- it is stored as the tuple of its fields
abbrev pub coded_world_over : {K : Type 0} → Coded K → Coded (WorldOver K)
coded_world_over keeper = coded_world_of (coded_over keeper)
