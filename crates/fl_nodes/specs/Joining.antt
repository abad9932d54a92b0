-- What a call does that is handed a keeper, to the world that the nodes may be and to what the keeper may hold.
use Rattle.std.specs.Prelude.{◌≡◌, ◌⊎◌, ℕ}
use Rattle.std.specs.declared.option.Option.{Option}
use Rattle.std.specs.declared.option.Option.TheVariants.{None, Some}
use Rattle.fl_labels.specs.declared.name.Name.{Name}
use Rattle.fl_jobs.specs.declared.answer.Refusal.TheVariants.{NamesSpent}
use Rattle.fl_store.specs.Custody.{Custody}
use Rattle.fl_store.specs.Kept.{Kept, raised}
use Rattle.fl_system.specs.declared.answer.Fault.{Fault}
use Rattle.fl_system.specs.declared.answer.Fault.TheVariants as faults
use Rattle.fl_system.specs.declared.reply.Reply.{Reply}
use Rattle.fl_system.specs.declared.reply.Reply.TheVariants.{Booted, Refused}
use Rattle.fl_system.specs.declared.state.State.{State}
use Rattle.fl_system.specs.declared.state.State.TheVariants.{Running, Stopped}
use Rattle.fl_system.specs.Joins.{IsStray, Joins, Reopening}
use Rattle.fl_system.specs.World.{World}
use Rattle.fl_node.specs.Over.{NodeOver}
use Rattle.fl_nodes.specs.Over.{WorldOver}
use Rattle.fl_nodes.specs.Goes.{MayBe, AreHonest}

-- The keeper is taken into the world. Where all keepers are honest, they and this one were before, and each world that it
-- may be now comes by this step from one that it might have been, over something that the keeper might have held.
pub record TakesIn {K : Type 0} (custody : Custody K)
    (old : WorldOver K) (keeper : K) (new : WorldOver K) (step : World → Kept → World → Type 0) : Type 0 where
  pub honest : AreHonest custody new → AreHonest custody old × custody.is_honest keeper
  pub comes : AreHonest custody new → (after : World) → MayBe custody new after
      → (before : World) × (k : Kept) × MayBe custody old before × custody.may_hold keeper k
      × step before k after

-- A keeper is handed in, and one is given back. Where all keepers and the one given back are honest, they and the one handed
-- in were before, and each world that it may be now, with what the one given back may hold, comes by this step from a world
-- that it might have been, with something that the one handed in might have held.
pub record GivesBack {K : Type 0} (custody : Custody K)
    (old : WorldOver K) (keeper : K) (new : WorldOver K) (given : K)
    (step : World → Kept → World → Kept → Type 0) : Type 0 where
  pub honest : AreHonest custody new → custody.is_honest given
      → AreHonest custody old × custody.is_honest keeper
  pub comes : AreHonest custody new → custody.is_honest given → (after : World) (k' : Kept)
      → MayBe custody new after → custody.may_hold given k'
      → (before : World) × (k : Kept) × MayBe custody old before × custody.may_hold keeper k
      × step before k after k'

-- what a refused joining leaves of what was kept: its boot may have been raised, was if it was opened, and was not where no boot
-- was left
abbrev pub LeftBy : Fault → Kept → Kept → Type 0
LeftBy (faults.Clash name) k k' = k' ≡ raised k
LeftBy (faults.Impostor name) k k' = k' ≡ raised k
LeftBy (faults.Refused NamesSpent) k k' = k' ≡ k
LeftBy (faults.Refused other) k k' = (k' ≡ k) ⊎ (k' ≡ raised k)
LeftBy faults.KeeperFailed k k' = (k' ≡ k) ⊎ (k' ≡ raised k)
LeftBy faults.WrongNode k k' = (k' ≡ k) ⊎ (k' ≡ raised k)
LeftBy faults.Stopped k k' = (k' ≡ k) ⊎ (k' ≡ raised k)

-- A node of this number does not join the world, which is as before.
pub record IsRefused (number : ℕ) (fault : Fault) (w : World) (k : Kept) (w' : World)
    (k' : Kept) : Type 0 where
  pub same : w' ≡ w
  pub joins : Joins w number k (Refused fault) w
  pub left : LeftBy fault k k'

-- each operation that is saved is saved by the node whose number it has, if that is there
abbrev pub HasNoStray : World → Type 0
HasNoStray w = (name : Name) → ¬ IsStray w name

-- Where this is so before, a node of this number joins the world, or does not.
abbrev pub DoesJoin : ℕ → ℕ → World → Kept → World → Type 0
DoesJoin number boot w k w' = HasNoStray w → Joins w number k (Booted boot) w'

abbrev pub DoesNotJoin : ℕ → Fault → World → Kept → World → Kept → Type 0
DoesNotJoin number fault w k w' k' = HasNoStray w → IsRefused number fault w k w' k'

-- the keeper that no node has after a node is to be opened over another: its own, if it is stopped, or else the other
abbrev pub spare_of : {K : Type 0} → K → K → State → K
spare_of own other (Stopped doubt) = own
spare_of own other (Running pending) = other

abbrev pub spare : {K : Type 0} → Option (NodeOver K) → K → K
spare None other = other
spare (Some n) other = spare_of n.keeper other n.node.state

-- A keeper that is opened in the place of another is trusted no further than that: where it is honest that was honest too, and
-- where something may be found of it something might have been found of that.
pub record TakesOver {K : Type 0} (custody : Custody K) (was made : K) : Type 0 where
  pub honest : custody.is_honest made → custody.is_honest was
  pub held : custody.is_honest made → (k : Kept) → custody.may_hold made k → (before : Kept) × custody.may_hold was before

-- the node of this number is opened again over something that this keeper might have held
pub record ReturnsOver {K : Type 0} (custody : Custody K) (made : K) (number : ℕ) (reply : Reply) (w w' : World) : Type 0 where
  pub kept : Kept
  pub held : custody.may_hold made kept
  pub returns : Reopening w number kept reply w'
