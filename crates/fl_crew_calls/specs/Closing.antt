-- What the maker of crews' keepers finds once each has been given back to it.
use Rattle.std.specs.Prelude.{◌⊎◌, ℕ}
use Rattle.fl_store.specs.Custody.{Custody}
use Rattle.fl_store.specs.Kept.{Kept}
use Rattle.fl_makers.specs.Making.{Making}
use Rattle.fl_workers.specs.Over.{CrewOver}
use Rattle.fl_crew_calls.specs.Over.{CrewsOver, IsCrewAt}

-- the keeper of the crew of this number may hold it, if that is honest
pub record IsLeftAt {K M : Type 0} (custody : Custody K) (crews : CrewsOver K M) (number : ℕ)
    (k : Kept) : Type 0 where
  pub crew : CrewOver K
  pub there : IsCrewAt crews number crew
  pub held : custody.is_honest crew.node.keeper → custody.may_hold crew.node.keeper k

-- that, or the maker found it before
abbrev pub MayBeLeft : {K M : Type 0} → Custody K → Making M K → CrewsOver K M → ℕ → Kept → Type 0
MayBeLeft custody making crews number k =
    making.finds crews.maker number k ⊎ IsLeftAt custody crews number k
