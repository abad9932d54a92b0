-- What is so of crews that stand for nodes of a world.
use Rattle.std.specs.Prelude.{◌≡◌, ℕ, List}
use Rattle.fl_system.specs.Runs.{Moment, IsRun, end}
use Rattle.fl_system.specs.World.{World, empty_world}
use Rattle.fl_world.specs.Headline.{IsSafeWorld}
use Rattle.fl_world.specs.Lasting.{IsLastingWorld}
use Rattle.fl_crew_calls.specs.Over.{CrewsOver}
use Rattle.fl_crew_world_laws.specs.Crews.{IsWorldOf}

-- a run leads from this world to that
pub record RunsTo (w w' : World) : Type 0 where
  pub moments : List Moment
  pub is_run : IsRun w moments
  pub leads : end w moments ≡ w'

-- They stand for the nodes of a world to which a run leads from one without a node, with as many
-- desks as they have workers: so all that is true of worlds is true there.
pub record StandFor {K M : Type 0} (crews : CrewsOver K M) (workers : ℕ) : Type 0 where
  pub world : World
  pub stands : IsWorldOf crews world
  pub run : RunsTo (empty_world workers) world
  pub safe : IsSafeWorld world
  pub lasting : IsLastingWorld world
