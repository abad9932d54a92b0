-- When one registry can catch up with another.
use Rattle.std.specs.Prelude.{◌≡◌, ℕ}
use Rattle.fl_ops.specs.declared.op.Op.{Op}
use Rattle.fl_ops.specs.Registry.{Registry}
use Rattle.fl_opset.specs.Windows.{IsName}

-- operations of one name, one from each, are the same
abbrev pub HaveNoClash : Registry → Registry → Type 0
HaveNoClash U V = (x y : Op) → U x → V y → x.name ≡ y.name → x ≡ y

-- V has no operation of the node that U lacks
abbrev pub KnowsOwn : ℕ → Registry → Registry → Type 0
KnowsOwn node U V = (op : Op) → V op → op.name.node ≡ node → U op

-- The node of this number, which has saved U, may take the operation: no other of its name is there, and one of its own
-- names is there already.
pub record MayTake (node : ℕ) (U : Registry) (op : Op) : Type 0 where
  pub own : op.name.node ≡ node → IsName U op.name
  pub agrees : (other : Op) → U other → other.name ≡ op.name → other ≡ op
