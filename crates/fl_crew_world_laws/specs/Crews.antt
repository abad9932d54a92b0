-- The world that crews of any number of workers stand for.
use Rattle.std.specs.Prelude.{◌≡◌, ◌≤◌, ℕ}
use Rattle.std.specs.FinMap as fin
use Rattle.std.specs.declared.option.Option.{Option}
use Rattle.std.specs.declared.option.Option.TheVariants.{None, Some}
use Rattle.fl_system.specs.State.{kept_of}
use Rattle.fl_system.specs.World.{World, KeptNode}
use Rattle.fl_workers.specs.Over.{CrewOver}
use Rattle.fl_crew_calls.specs.Over.{CrewsOver}
use Rattle.fl_crew_worlds.specs.Worlds.{AreAmong, IsNodeOf}

-- the node is the crew's, which has so many workers, and what is kept of it is what it saved
pub record IsPlaceOf {K : Type 0} (workers : ℕ) (c : CrewOver K) (s : KeptNode) : Type 0 where
  pub size : c.size ≡ workers
  pub is_node : IsNodeOf c s.node
  pub kept : s.kept ≡ kept_of s.node

-- where a crew is there is its node, and no other
abbrev pub AreTied : {K : Type 0} → ℕ → Option (Option (CrewOver K)) → Option KeptNode → Type 0
AreTied workers None None = Unit {0}
AreTied workers None (Some s) = ⊥
AreTied workers (Some None) _ = ⊥
AreTied workers (Some (Some crew)) None = ⊥
AreTied workers (Some (Some crew)) (Some s) = IsPlaceOf workers crew s

-- The world has the nodes of the crews, with as many desks each as they have workers, and has sent
-- what they sent.
pub record IsWorldOf {K M : Type 0} (crews : CrewsOver K M) (w : World) : Type 0 where
  pub some : 1 ≤ crews.workers
  pub desks : w.desks ≡ crews.workers
  pub nodes : (number : ℕ)
      → AreTied crews.workers (fin.get crews.crews number) (fin.get w.nodes number)
  pub sent : AreAmong crews.sent w.packets
