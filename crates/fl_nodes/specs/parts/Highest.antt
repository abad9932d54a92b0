-- Up to which number something is saved, and how many desks nodes have.
use Rattle.std.specs.Prelude.{◌≡◌, ◌≤◌, ℕ, length}
use Rattle.std.specs.FinMap as map
use Rattle.std.specs.Ordering.{nat_cmp}
use Rattle.std.specs.declared.option.Option.TheVariants.{Some}
use Rattle.fl_labels.specs.SetBy.{SetBy, In}
use Rattle.fl_ops.specs.declared.op.Op.{Op}
use Rattle.fl_ops.specs.OpOrder.{op_cmp}
use Rattle.fl_node.specs.Over.{NodeOver}

-- no operation of the set has the number of a node above this one
abbrev pub IsUpTo : ℕ → SetBy op_cmp → Type 0
IsUpTo highest saved = (op : Op) → In saved op → op.name.node ≤ highest

-- none that is saved at the node has, and it has so many desks
pub record IsWithin {K : Type 0} (highest desks : ℕ) (n : NodeOver K) : Type 0 where
  pub upto : IsUpTo highest n.node.saved
  pub desked : length n.node.views ≡ desks

-- this is so of each of these nodes
abbrev pub AreWithin : {K : Type 0} → ℕ → ℕ → map.FinMap nat_cmp (NodeOver K) → Type 0
AreWithin {K} highest desks nodes = (number : ℕ) (n : NodeOver K) → map.get nodes number ≡ Some n
    → IsWithin highest desks n
