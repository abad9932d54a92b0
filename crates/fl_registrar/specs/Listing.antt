-- What a registrar's node has published, beside the list of its press.
use Rattle.std.specs.Prelude.{◌≡◌, ◌++◌, ◌⊎◌, ℕ, false, List, []}
use Rattle.std.specs.declared.option.Option.{Option}
use Rattle.std.specs.declared.option.Option.TheVariants.{None, Some}
use Rattle.fl_ops.specs.declared.op.Op.{Op}
use Rattle.fl_store.specs.Custody.{Custody}
use Rattle.fl_store.specs.Kept.{Kept}
use Rattle.fl_system.specs.declared.state.Batch.{Batch}
use Rattle.fl_system.specs.declared.state.Pending.TheVariants.{Nothing, Due}
use Rattle.fl_system.specs.declared.state.State.TheVariants.{Running}
use Rattle.fl_system.specs.State.{NodeState, ops_of}

-- it has published this list, and then these operations, and nothing is on its way
pub record HasListed (n : NodeState) (list ops : List Op) : Type 0 where
  pub state : n.state ≡ Running Nothing
  pub published : n.published ≡ list ++ ops

-- it has published this list, and these operations are due
pub record Owes (n : NodeState) (list ops : List Op) : Type 0 where
  pub batch : Batch
  pub state : n.state ≡ Running (Due batch)
  pub its : ops_of batch ≡ ops
  pub published : n.published ≡ list

-- It has published what the press has, and nothing else where nothing is due to the press; of what
-- is, it has published all, or nothing.
abbrev pub Lists : NodeState → List Op → Option Batch → Type 0
Lists n list None = HasListed n list []
Lists n list (Some batch) = HasListed n list (ops_of batch) ⊎ Owes n list (ops_of batch)

-- so it is as far as the keeper may be trusted
abbrev pub ListsHonestly : {K : Type 0} → Custody K → K → NodeState → List Op → Option Batch → Type 0
ListsHonestly custody keeper n list due =
    custody.is_honest keeper → (k : Kept) → custody.may_hold keeper k → Lists n list due
