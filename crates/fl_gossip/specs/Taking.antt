-- What a node takes of a packet.
use Rattle.std.specs.Prelude.{◌≡◌, ◌≢◌, ℕ, not, List, []}
use Rattle.std.specs.List.{Contains, filter}
use Rattle.std.specs.declared.cmp.Ordering.TheVariants.{Less}
use Rattle.fl_labels.specs.SetBy.{SetBy, In, contains}
use Rattle.fl_ops.specs.declared.op.Op.{Op}
use Rattle.fl_ops.specs.OpOrder.{op_cmp}
use Rattle.fl_ops.specs.Registry.{Registry}
use Rattle.fl_opset.specs.Catching.{MayTake}
use Rattle.fl_opset.specs.Windows.{IsName}
use Rattle.fl_wire.specs.NameOrder.{by_name}
use Rattle.fl_wire.specs.declared.packet.Packet.{Packet}
use Rattle.fl_wire.specs.declared.packet.Packet.TheVariants as kinds
use Rattle.fl_gossip.specs.declared.fault.GossipFault.{GossipFault}
use Rattle.fl_gossip.specs.declared.fault.GossipFault.TheVariants.{Impostor, Clash, Memory}

-- the operations that a packet brings
abbrev pub ops_of : Packet → List Op
ops_of (kinds.Full b) = b.ops
ops_of (kinds.Have w) = []
ops_of (kinds.Delta b) = b.ops
ops_of (kinds.Data d) = []

-- what the node of this number, which has saved U, has against the operation
abbrev pub Offends : ℕ → Registry → Op → GossipFault → Type 0
Offends me U op (Impostor name) = (name ≡ op.name) × (op.name.node ≡ me) × ¬ IsName U op.name
Offends me U op (Clash name) = (name ≡ op.name) × ((other : Op) × U other × (other.name ≡ op.name) × (other ≢ op))
Offends me U op Memory = ⊥

-- all of them may be taken, and new are those that the set lacks, in their order
pub record AreTaken (me : ℕ) (saved : SetBy op_cmp) (ops new : List Op) : Type 0 where
  pub each : (op : Op) → Contains ops op → MayTake me (In saved) op
  pub lacked : new ≡ filter (λ op. not (contains saved op)) ops

-- the operation of the least name that may not be taken, and why
pub record IsLeastOffence (me : ℕ) (U : Registry) (ops : List Op) (f : GossipFault) : Type 0 where
  pub op : Op
  pub there : Contains ops op
  pub offends : Offends me U op f
  pub least : (other : Op) → Contains ops other → by_name other op ≡ Less → MayTake me U other

-- each of them may be taken, and one is new
pub record BringsNew (me : ℕ) (U : Registry) (ops : List Op) : Type 0 where
  pub each : (op : Op) → Contains ops op → MayTake me U op
  pub op : Op
  pub there : Contains ops op
  pub new : ¬ U op

-- that, or no memory for what is new
abbrev pub Refuses : ℕ → Registry → List Op → GossipFault → Type 0
Refuses me U ops (Impostor name) = IsLeastOffence me U ops (Impostor name)
Refuses me U ops (Clash name) = IsLeastOffence me U ops (Clash name)
Refuses me U ops Memory = BringsNew me U ops
