-- The same script without workers.
use Rattle.std.specs.Prelude.{[], ℕ, List}
use Rattle.fl_store.specs.Custody.{Custody}
use Rattle.fl_makers.specs.Making.{Making}
use Rattle.fl_system.specs.World.{World}
use Rattle.fl_calls.specs.Entering.{Openings}
use Rattle.fl_turn_laws.specs.Certain.{IsSureRun}
use Rattle.fl_crew_calls.specs.Asking.{Opens}
use Rattle.fl_crew_calls.specs.Batches.{ServesBatch}
use Rattle.fl_crew_calls.specs.Calls.{RespondsTo}
use Rattle.fl_crew_calls.specs.Over.{CrewsOver}
use Rattle.fl_crew_turns.specs.Session.{CrewCalls, CrewSession}
use Rattle.fl_one_worker_calls.specs.Crews.{AreFew, AreSound, AreWhole, IsWorldOf}

-- each crew serves, with nothing due, over a keeper that may be trusted and is not broken
pub record LeavesWell {K M : Type 0} (custody : Custody K) (new : CrewsOver K M) : Type 0 where
  pub sound : AreSound custody new
  pub few : AreFew new
  pub whole : AreWhole custody new

-- calls of crews that leave all of them so: no keeper broke, and no crew stopped
abbrev pub calls_well : {K M : Type 0} → Custody K → Making M K → CrewCalls (CrewsOver K M)
calls_well custody making = record {
  opens = λ old number result new. Opens custody making old number result new
      × LeavesWell custody new;
  serves = λ old number jobs result new. ServesBatch custody old number jobs [] result new
      × LeavesWell custody new;
  responds = λ old line answer new. RespondsTo custody making old line answer new
      × LeavesWell custody new;
}

-- The text and the status are those of a run of the lines without workers, in which no memory was
-- refused and no keeper failed; its aliases are those of the crews' session, and the crews stand
-- for its world.
pub record IsRunWithout {K M : Type 0} (openings : Openings) (lines : List (List ℕ))
    (text : List ℕ) (status : ℕ) (end : CrewSession (CrewsOver K M)) : Type 0 where
  pub world : World
  pub run : IsSureRun openings lines text status (record { world = world; aliases = end.aliases })
  pub stands : IsWorldOf end.crews world
