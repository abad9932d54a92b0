-- Where there was no memory for what is new of a packet.
use Rattle.std.specs.Prelude.{ℕ, List}
use Rattle.std.specs.List.{Contains}
use Rattle.fl_ops.specs.declared.op.Op.{Op}
use Rattle.fl_ops.specs.Registry.{Registry}
use Rattle.fl_gossip.specs.declared.fault.GossipFault.{GossipFault}
use Rattle.fl_gossip.specs.declared.fault.GossipFault.TheVariants.{Impostor, Clash, Memory}
use Rattle.fl_gossip.specs.Taking.{IsLeastOffence}

-- one of them is new
pub record HasNew (U : Registry) (ops : List Op) : Type 0 where
  pub op : Op
  pub there : Contains ops op
  pub new : ¬ U op

-- the operation of the least name that may not be taken, or no memory for one that is new, and those behind it were
-- not looked at
abbrev pub Stops : ℕ → Registry → List Op → GossipFault → Type 0
Stops me U ops (Impostor name) = IsLeastOffence me U ops (Impostor name)
Stops me U ops (Clash name) = IsLeastOffence me U ops (Clash name)
Stops me U ops Memory = HasNew U ops
