-- What a node and a newcomer have against one another.
use Rattle.std.specs.Prelude.{ℕ}
use Rattle.fl_labels.specs.SetBy.{SetBy, In}
use Rattle.fl_labels.specs.declared.name.Name.{Name}
use Rattle.fl_ops.specs.OpOrder.{op_cmp}
use Rattle.fl_gossip.specs.Meeting.{IsClashOf, IsStrayOf}
use Rattle.fl_node.specs.Over.{NodeOver}

-- an operation of the set and one of this node clash under the name
pub record ClashesWith {K : Type 0} (saved : SetBy op_cmp) (e : ℕ × NodeOver K)
    (name : Name) : Type 0 where
  pub clash : IsClashOf (In saved) (In e.1.node.saved) name

-- An operation of this name comes with a newcomer of this number, which has saved these, and this node, whose number it has, has
-- not saved it; or the other way round.
pub data StraysWith {K : Type 0} (number : ℕ) (saved : SetBy op_cmp) (e : ℕ × NodeOver K)
    (name : Name) : Type 0 where
  brought : IsStrayOf (In saved) (In e.1.node.saved) e.0 name → StraysWith number saved e name
  awaited : IsStrayOf (In e.1.node.saved) (In saved) number name → StraysWith number saved e name
