-- What a node holds of operations, and when that is sound.
use Rattle.std.specs.Prelude.{◌≡◌, ◌≢◌, ◌⊎◌, ℕ, List}
use Rattle.std.specs.List.{Contains}
use Rattle.fl_labels.specs.SetBy.{SetBy, In}
use Rattle.fl_labels.specs.Found.{Within}
use Rattle.fl_ops.specs.declared.op.Op.{Op}
use Rattle.fl_ops.specs.OpOrder.{op_cmp}
use Rattle.fl_system.specs.declared.state.Pending.TheVariants.{Nothing, Unsaved, Due}
use Rattle.fl_system.specs.declared.state.State.{State}
use Rattle.fl_system.specs.declared.state.State.TheVariants.{Running, Stopped}
use Rattle.fl_system.specs.State.{NodeState, ops_of}
use Rattle.fl_system.specs.Whereabouts.{IsOnItsWay}

-- what a node holds of operations
pub record Holding : Type 0 where
  pub number : ℕ
  pub saved : SetBy op_cmp
  pub published : List Op
  pub state : State

abbrev pub holding : NodeState → Holding
holding n = record { number = n.number; saved = n.saved; published = n.published; state = n.state }

-- saved, and to be published
abbrev pub IsDue : State → Op → Type 0
IsDue (Running Nothing) op = ⊥
IsDue (Running (Unsaved batch)) op = ⊥
IsDue (Running (Due batch)) op = Contains (ops_of batch) op
IsDue (Stopped doubt) op = ⊥

-- of the node's own number, under a name that no saved operation has
pub record IsNew (n : Holding) (op : Op) : Type 0 where
  pub own : op.name.node ≡ n.number
  pub unknown : (other : Op) → In n.saved other → other.name ≢ op.name

-- What is saved is known, what is published or due is saved, and what is on the way is known, or
-- new and the only one of its name.
pub record IsSound (known : Op → Type 0) (n : Holding) : Type 0 where
  pub saved : Within (In n.saved) known
  pub published : Within (Contains n.published) (In n.saved)
  pub due : Within (IsDue n.state) (In n.saved)
  pub on_the_way : (op : Op) → IsOnItsWay n.state op → known op ⊎ IsNew n op
  pub alone : (a b : Op) → IsOnItsWay n.state a → IsOnItsWay n.state b
      → a.name ≡ b.name → a ≡ b

-- what is known once the node holds that
abbrev pub KnownWith : (Op → Type 0) → Holding → Op → Type 0
KnownWith known n op = known op ⊎ In n.saved op

-- The node keeps its number and what it saved; what it saves further is known, or was new and on
-- the way; and it is sound after.
pub record IsStep (known : Op → Type 0) (n n' : Holding) : Type 0 where
  pub number : n'.number ≡ n.number
  pub kept : Within (In n.saved) (In n'.saved)
  pub gained : (op : Op) → In n'.saved op → known op ⊎ (IsOnItsWay n.state op × IsNew n op)
  pub sound : IsSound (KnownWith known n') n'
