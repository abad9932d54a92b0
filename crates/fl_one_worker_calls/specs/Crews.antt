-- The world that crews of one worker stand for.
use Rattle.std.specs.Prelude.{◌≡◌, ◌≤◌, [], ℕ, false, List, length}
use Rattle.std.specs.FinMap as fin
use Rattle.std.specs.declared.option.Option.{Option}
use Rattle.std.specs.declared.option.Option.TheVariants.{None, Some}
use Rattle.fl_jobs.specs.declared.job.Job.{Job}
use Rattle.fl_registrar.specs.Listing.{HasListed}
use Rattle.fl_store.specs.Custody.{Custody}
use Rattle.fl_system.specs.declared.event.Event.{Event}
use Rattle.fl_system.specs.declared.reply.Reply.{Reply}
use Rattle.fl_system.specs.State.{kept_of}
use Rattle.fl_system.specs.World.{World, KeptNode}
use Rattle.fl_calls.specs.Over.{Trusts}
use Rattle.fl_workers.specs.Over.{CrewOver}
use Rattle.fl_crew_calls.specs.Over.{CrewsOver, IsCrewAt}
use Rattle.fl_one_worker_laws.specs.Single.{IsNodeOf}
use Rattle.fl_one_worker_calls.specs.Worlds.{CompletesAll, packets_in}

-- the crew serves, with nothing due, over a keeper that is honest, and its node has published what
-- the desks may see
pub record IsSound {K : Type 0} (custody : Custody K) (c : CrewOver K) : Type 0 where
  pub runs : c.stopped ≡ false
  pub idle : c.due ≡ None
  pub trusts : Trusts custody c.node.keeper
  pub listed : HasListed c.node.node c.list []

-- so is each crew
abbrev pub AreSound : {K M : Type 0} → Custody K → CrewsOver K M → Type 0
AreSound {K} custody crews =
    (number : ℕ) (crew : CrewOver K) → IsCrewAt crews number crew → IsSound custody crew

-- no list has more operations than a desk may look at
abbrev pub AreFew : {K M : Type 0} → CrewsOver K M → Type 0
AreFew {K} crews =
    (number : ℕ) (crew : CrewOver K) → IsCrewAt crews number crew
    → length crew.list ≤ 18446744073709551615

-- no keeper is broken
abbrev pub AreWhole : {K M : Type 0} → Custody K → CrewsOver K M → Type 0
AreWhole {K} custody crews =
    (number : ℕ) (crew : CrewOver K) → IsCrewAt crews number crew
    → custody.is_broken crew.node.keeper ≡ false

-- the node is the crew's, and what is kept of it is what it saved
pub record IsPlaceOf {K : Type 0} (c : CrewOver K) (s : KeptNode) : Type 0 where
  pub is_node : IsNodeOf c s.node
  pub kept : s.kept ≡ kept_of s.node

-- where a crew is there is its node, and no other
abbrev pub AreTied : {K : Type 0} → Option (Option (CrewOver K)) → Option KeptNode → Type 0
AreTied None None = Unit {0}
AreTied None (Some s) = ⊥
AreTied (Some None) _ = ⊥
AreTied (Some (Some crew)) None = ⊥
AreTied (Some (Some crew)) (Some s) = IsPlaceOf crew s

-- The world has the nodes of the crews, with one desk each, and has sent what they sent.
pub record IsWorldOf {K M : Type 0} (crews : CrewsOver K M) (w : World) : Type 0 where
  pub desks : w.desks ≡ 1
  pub workers : crews.workers ≡ 1
  pub nodes : (number : ℕ) → AreTied (fin.get crews.crews number) (fin.get w.nodes number)
  pub packets : packets_in w ≡ crews.sent

-- The events happen so, and behind them the world is that of these crews.
pub record Leads {K M : Type 0} (w : World) (events : List Event) (replies : List Reply)
    (new : CrewsOver K M) : Type 0 where
  pub world : World
  pub completes : CompletesAll w events replies world
  pub stands : IsWorldOf new world
