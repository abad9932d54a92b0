-- Why a call of the nodes says that a keeper failed.
use Rattle.std.specs.Prelude.{◌≡◌, ◌⊎◌, ℕ, Bool, IsTrue}
use Rattle.std.specs.FinMap as map
use Rattle.std.specs.declared.option.Option.TheVariants.{Some}
use Rattle.fl_store.specs.Custody.{Custody}
use Rattle.fl_system.specs.declared.event.Event.{Event}
use Rattle.fl_system.specs.declared.event.Event.TheVariants.{Save, Restart}
use Rattle.fl_node.specs.Causes.{LoadsBadRow}
use Rattle.fl_node.specs.Over.{NodeOver}
use Rattle.fl_nodes.specs.Over.{WorldOver}

-- the keeper of the node of this number is broken
pub record IsBrokenAt {K : Type 0} (custody : Custody K) (over : WorldOver K) (number : ℕ)
    : Type 0 where
  pub node : NodeOver K
  pub there : map.get over.nodes number ≡ Some node
  pub broken : IsTrue (custody.is_broken node.keeper)

-- The keeper of the node of this number is broken, or, as far as it is honest, this is so of the node
-- as it stood there before.
pub record FailsAt {K : Type 0} (custody : Custody K) (bad : NodeOver K → Type 0)
    (old new : WorldOver K) (number : ℕ) : Type 0 where
  pub was : NodeOver K
  pub node : NodeOver K
  pub stood : map.get old.nodes number ≡ Some was
  pub there : map.get new.nodes number ≡ Some node
  pub fails : IsTrue (custody.is_broken node.keeper) ⊎ (custody.is_honest node.keeper → bad was)

-- a row is bad that its keeper loads, before or after what was to be saved is saved
abbrev pub LoadsBadRowOf : {K : Type 0} → Custody K → NodeOver K → Type 0
LoadsBadRowOf custody n = LoadsBadRow custody n.node.state n.keeper

-- Why an event is answered that a keeper failed: its node saved, or was restarted. No other event
-- is.
pub data FailsIn {K : Type 0} (custody : Custody K) (old new : WorldOver K) : Event → Type 0 where
  saving : {number : ℕ} → IsBrokenAt custody new number → FailsIn custody old new (Save number)
  restarting : {number : ℕ} {keeps : Bool} → FailsAt custody (LoadsBadRowOf custody) old new number
      → FailsIn custody old new (Restart number keeps)
