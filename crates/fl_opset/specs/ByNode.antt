-- Operations by the node that made them.
use Rattle.std.specs.Prelude.{◌≡◌, List}
use Rattle.std.specs.List.{All, flat_map}
use Rattle.std.specs.List.Sorted.{IsStrictlySortedBy}
use Rattle.std.specs.Ordering.{nat_cmp}
use Rattle.std.specs.declared.cmp.Ordering.{Ordering}
use Rattle.fl_ops.specs.declared.op.Op.{Op}
use Rattle.fl_ops.specs.OpOrder.{op_cmp}
use Rattle.fl_opset.specs.declared.node_ops.NodeOps.{NodeOps}

-- those of each node in turn
abbrev pub all_ops : List NodeOps → List Op
all_ops nodes = flat_map (λ it. it.ops.items) nodes

-- by their numbers
abbrev pub node_order : NodeOps → NodeOps → Ordering
node_order a b = nat_cmp a.node b.node

-- the operations rise, and are of their node
pub record AreOfNode (it : NodeOps) : Type 0 where
  pub rise : IsStrictlySortedBy op_cmp it.ops.items
  pub own : All (λ op. op.name.node ≡ it.node) it.ops.items

-- each node stands there once at most, by its number, with operations of its own
pub record AreByNode (nodes : List NodeOps) : Type 0 where
  pub rise : IsStrictlySortedBy node_order nodes
  pub each : All AreOfNode nodes
