-- Room for operations that come.
use Rattle.std.specs.Prelude.{◌≡◌, ◌+◌, ◌≤◌, List, length, vec_len, vec_capacity}
use Rattle.std.specs.List.{Any}
use Rattle.fl_opset.specs.declared.node_ops.NodeOps.{NodeOps}

-- the entry of the same node has room for those of the other one
abbrev pub FitsIn : NodeOps → NodeOps → Type 0
FitsIn other it = (it.node ≡ other.node) × (vec_len it.ops + length other.ops.items ≤ vec_capacity it.ops)

-- one of the entries is of the same node as the other one, with room for those of the other
pub record HasRoom (nodes : List NodeOps) (other : NodeOps) : Type 0 where
  pub at : Any (FitsIn other) nodes
