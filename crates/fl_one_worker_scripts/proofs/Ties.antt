-- The crews of a script beside the world of the same script without workers.
use Rattle.std.specs.Prelude.{◌≡◌, ℕ}
use Rattle.fl_store.specs.Custody.{Custody}
use Rattle.fl_store.specs.Kept.{Kept}
use Rattle.fl_makers.specs.Making.{AllowsNoMore, Making}
use Rattle.fl_system.specs.Runs.{IsReached}
use Rattle.fl_system.specs.State.{kept_of}
use Rattle.fl_system.specs.World.{World}
use Rattle.fl_workers.specs.Over.{CrewOver}
use Rattle.fl_crew_calls.specs.Over.{CrewsOver, IsCrewAt}
use Rattle.fl_one_worker_calls.specs.Crews.{AreSound, IsWorldOf}

-- what the keeper of each crew may hold is what its node has saved
abbrev pub AreHeld : {K M : Type 0} → Custody K → CrewsOver K M → Type 0
AreHeld {K} custody crews =
    (number : ℕ) (crew : CrewOver K) → IsCrewAt crews number crew → (k : Kept)
    → custody.may_hold crew.node.keeper k → k ≡ kept_of crew.node.node

-- The crews stand for the world, to which a run leads, and their maker makes nothing that the first
-- one does not.
pub record Ties {K M : Type 0} (custody : Custody K) (making : Making M K) (maker : M)
    (crews : CrewsOver K M) (w : World) : Type 0 where
  pub stands : IsWorldOf crews w
  pub sound : AreSound custody crews
  pub held : AreHeld custody crews
  pub allows : AllowsNoMore making maker crews.maker
  pub reached : IsReached w

-- A step of the world leads to one for which these crews stand.
pub record Meets {K M : Type 0} (making : Making M K) (maker : M) (step : World → Type 0)
    (new : CrewsOver K M) : Type 0 where
  pub world : World
  pub steps : step world
  pub stands : IsWorldOf new world
  pub allows : AllowsNoMore making maker new.maker
