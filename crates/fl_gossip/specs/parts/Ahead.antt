-- What is left of operations that rise, from a name on.
use Rattle.std.specs.Prelude.{◌≡◌, ◌<◌, ◌⊎◌, ℕ, Bool, true, false, List, ◌++◌, length, slice_index_or}
use Rattle.std.specs.List.{All, Contains}
use Rattle.std.specs.List.Sorted.{IsStrictlySortedBy}
use Rattle.std.specs.Ordering.{is_lt}
use Rattle.std.specs.declared.cmp.Ordering.TheVariants.{Less}
use Rattle.std.specs.declared.option.Option.{Option}
use Rattle.std.specs.declared.option.Option.TheVariants.{Some}
use Rattle.fl_labels.specs.Name.{name_cmp}
use Rattle.fl_labels.specs.SetBy.{SetBy, In}
use Rattle.fl_labels.specs.declared.name.Name.{Name}
use Rattle.fl_ops.specs.declared.op.Op.{Op}
use Rattle.fl_ops.specs.OpOrder.{op_cmp}
use Rattle.fl_opset.specs.Catching.{MayTake}

-- the operation's name is not below this one
abbrev pub NotBelow : Name → Op → Type 0
NotBelow name op = is_lt (name_cmp op.name name) ≡ false

-- of operations that rise, those whose name is not below this one
pub record IsFrom (all : List Op) (name : Name) (rest : List Op) : Type 0 where
  pub before : List Op
  pub whole : all ≡ before ++ rest
  pub below : All (λ op. name_cmp op.name name ≡ Less) before
  pub rise : IsStrictlySortedBy op_cmp rest
  pub above : All (NotBelow name) rest

-- the members that a node made, rising
pub record AreOf (saved : SetBy op_cmp) (node : ℕ) (ops : List Op) : Type 0 where
  pub rise : IsStrictlySortedBy op_cmp ops
  pub only : (op : Op) → Contains ops op → In saved op × (op.name.node ≡ node)
  pub all : (op : Op) → In saved op → op.name.node ≡ node → Contains ops op

-- of what is left of the node's members, or of all of the name's node, those whose name is not below it
abbrev pub IsAhead : SetBy op_cmp → Option ℕ → List Op → Name → List Op → Type 0
IsAhead saved node left name rest =
    ((node ≡ Some name.node) × IsFrom left name rest)
    ⊎ ((ops : List Op) × AreOf saved name.node ops × IsFrom ops name rest)

-- the first of the operations has the name
pub record BeginsWith (ops : List Op) (name : Name) : Type 0 where
  pub some : 0 < length ops
  pub named : (d : Op) → (slice_index_or ops 0 d).name ≡ name

-- The node may take the operation, where the registry has these, and the answer is whether it lacks it.
pub record IsNewAmong (me : ℕ) (U : Op → Type 0) (op : Op) (new : Bool) : Type 0 where
  pub may : MayTake me U op
  pub lacked : new ≡ true → ¬ U op
  pub had : new ≡ false → U op
