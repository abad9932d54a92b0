-- A world over keepers, with who makes them, and what a call does to the world that they may be.
use Rattle.std.specs.Prelude.{◌≢◌, ℕ, refl}
use Rattle.std.specs.Coded.{Coded, code_by, coded×}
use Rattle.fl_store.specs.Custody.{Custody}
use Rattle.fl_store.specs.Kept.{Kept}
use Rattle.fl_makers.specs.Making.{IsOut, Making}
use Rattle.fl_system.specs.declared.answer.Fault.{Fault}
use Rattle.fl_system.specs.declared.answer.Fault.TheVariants.{KeeperFailed}
use Rattle.fl_system.specs.declared.reply.Reply.TheVariants.{Refused}
use Rattle.fl_system.specs.Joins.{Joins}
use Rattle.fl_system.specs.World.{World}
use Rattle.fl_nodes.specs.Over.{WorldOver, empty_over, coded_world_over}
use Rattle.fl_nodes.specs.Goes.{Goes}
use Rattle.fl_calls.specs.Entering.{Openings}

pub record ClusterOver (K M : Type 0) : Type 0 where
  pub world : WorldOver K
  pub maker : M

-- without a node
abbrev pub begun_over : {K M : Type 0} → M → ClusterOver K M
begun_over maker = record { world = empty_over 1; maker = maker }

-- it is stored as the pair of its fields
abbrev pub coded_cluster_over : {K M : Type 0} → Coded K → Coded M → Coded (ClusterOver K M)
coded_cluster_over {K} {M} keeper maker =
    code_by (WorldOver K × M) (coded× (coded_world_over keeper) maker)
    (λ c. (c.world, c.maker))
    (λ t. record { world = t.0; maker = t.1 })
    (λ _. refl)

-- an honest keeper, and something that it may hold
pub record Trusts {K : Type 0} (custody : Custody K) (keeper : K) : Type 0 where
  pub honest : custody.is_honest keeper
  pub kept : Kept
  pub held : custody.may_hold keeper kept

-- Why a node is not opened: for its keeper's sake, since none was made, or the one that was failed; or
-- this one was made that did not fail, and did not join. Where what is left of it may be trusted it
-- might have held something over which it should not.
pub data NotOpened {K M : Type 0} (custody : Custody K) (making : Making M K) (maker : M)
    (w : World) (number : ℕ) (fault : Fault) : Type 0 where
  without_keeper : making.refuses maker number fault
      → NotOpened custody making maker w number fault
  not_joined : (keeper left : K) → making.makes maker number keeper → fault ≢ KeeperFailed
      → (Trusts custody left → custody.is_honest keeper × (k : Kept) × custody.may_hold keeper k
      × making.finds maker number k × Joins w number k (Refused fault) w)
      → NotOpened custody making maker w number fault

-- what a maker's keepers may hold, and why a node is not opened
abbrev pub openings_of : {K M : Type 0} → Custody K → Making M K → M → Openings
openings_of custody making maker =
    record { finds = making.finds maker; refuses = NotOpened custody making maker }

-- the same until the maker is this one: the keeper of each node that is opened is out then
abbrev pub openings_between : {K M : Type 0} → Custody K → Making M K → M → M → Openings
openings_between custody making maker left = record {
  finds = λ number k. making.finds maker number k × IsOut making left number;
  refuses = NotOpened custody making maker;
}

-- Where all keepers are honest they were before, and each world that it may be now comes by this step from one that it might
-- have been before, with the openings of the maker until now; and the maker makes nothing that it did not make before.
pub record GoesOn {K M : Type 0} (custody : Custody K) (making : Making M K)
    (old new : ClusterOver K M) (step : Openings → World → World → Type 0) : Type 0 where
  pub goes : Goes custody old.world new.world
      (step (openings_between custody making old.maker new.maker))
  pub makes_less : (number : ℕ) (keeper : K) → making.makes new.maker number keeper
      → making.makes old.maker number keeper
  pub finds_less : (number : ℕ) (k : Kept) → making.finds new.maker number k
      → making.finds old.maker number k
  pub refuses_less : (number : ℕ) (fault : Fault) → making.refuses new.maker number fault
      → making.refuses old.maker number fault
