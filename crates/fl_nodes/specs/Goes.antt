-- What a call of the nodes does to the world that they may be.
use Rattle.std.specs.Prelude.{◌≡◌, ℕ}
use Rattle.std.specs.FinMap as map
use Rattle.std.specs.declared.option.Option.{Option}
use Rattle.std.specs.declared.option.Option.TheVariants.{None, Some}
use Rattle.fl_store.specs.Custody.{Custody}
use Rattle.fl_store.specs.Keeping.{Held}
use Rattle.fl_system.specs.World.{World, KeptNode}
use Rattle.fl_node.specs.Over.{NodeOver}
use Rattle.fl_nodes.specs.Over.{WorldOver}

-- the same node, and of it is kept what its keeper may hold
abbrev pub MayBeNode : {K : Type 0} → (K → Held) → Option (NodeOver K) → Option KeptNode → Type 0
MayBeNode may_hold None None = Unit {0}
MayBeNode may_hold (Some n) (Some s) = (s.node ≡ n.node) × may_hold n.keeper s.kept
MayBeNode may_hold None (Some s) = ⊥
MayBeNode may_hold (Some n) None = ⊥

-- the world is one of those that it may be, if the call, or the process, ends here
pub record MayBe {K : Type 0} (custody : Custody K) (over : WorldOver K) (w : World) : Type 0 where
  pub desks : w.desks ≡ over.desks
  pub nodes : (number : ℕ) → MayBeNode custody.may_hold (map.get over.nodes number) (map.get w.nodes number)
  pub packets : w.packets ≡ over.packets
  pub audit : w.audit ≡ over.audit

-- the keeper of each node is honest
abbrev pub AreHonest : {K : Type 0} → Custody K → WorldOver K → Type 0
AreHonest {K} custody over =
    (number : ℕ) (n : NodeOver K) → map.get over.nodes number ≡ Some n → custody.is_honest n.keeper

-- where all keepers are honest they were before, and each world that it may be now comes by this step from one that it
-- might have been before
pub record Goes {K : Type 0} (custody : Custody K) (old new : WorldOver K)
    (step : World → World → Type 0) : Type 0 where
  pub honest : AreHonest custody new → AreHonest custody old
  pub comes : AreHonest custody new → (after : World) → MayBe custody new after
      → (before : World) × MayBe custody old before × step before after
