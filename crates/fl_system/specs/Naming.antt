-- The names of a node's operations.
use Rattle.std.specs.Prelude.{◌≡◌, ◌≤◌, ◌<◌, ◌+◌, ℕ}
use Rattle.fl_labels.specs.SetBy.{SetBy, In}
use Rattle.fl_labels.specs.declared.name.Name.{Name}
use Rattle.fl_ops.specs.declared.op.Op.{Op}
use Rattle.fl_ops.specs.OpOrder.{op_cmp}

-- the greatest sequence number of the node's operations, or 0 where it has none
pub record IsLast (registry : SetBy op_cmp) (node last : ℕ) : Type 0 where
  pub upper : (op : Op) → In registry op → op.name.node ≡ node → op.name.seq ≤ last
  pub reached : 0 < last → (op : Op) × In registry op × (op.name.node ≡ node) × (op.name.seq ≡ last)

-- the name follows the last one of the node's operations
pub record IsNextAfter (saved : SetBy op_cmp) (number : ℕ) (name : Name) : Type 0 where
  pub last : ℕ
  pub is_last : IsLast saved number last
  pub node_is : name.node ≡ number
  pub seq_is : name.seq ≡ last + 1
