-- How operations of other nodes are received.
use Rattle.std.specs.Prelude.{◌≡◌, ◌≢◌, ◌⊎◌, ◌↔◌, ◌<◌, ℕ}
use Rattle.std.specs.declared.result.Result.{Result}
use Rattle.std.specs.declared.result.Result.TheVariants.{Ok, Err}
use Rattle.std.specs.declared.cmp.Ordering.TheVariants.{Less}
use Rattle.fl_labels.specs.Name.{name_cmp}
use Rattle.fl_labels.specs.SetBy as set
use Rattle.fl_labels.specs.SetBy.{SetBy, In}
use Rattle.fl_ops.specs.declared.op.Op.{Op}
use Rattle.fl_ops.specs.OpOrder.{op_cmp}
use Rattle.fl_jobs.specs.declared.answer.Refusal.TheVariants.{Memory}
use Rattle.fl_system.specs.declared.answer.Fault.{Fault}
use Rattle.fl_system.specs.declared.answer.Fault.TheVariants.{Refused, Clash, Impostor}
use Rattle.fl_system.specs.declared.state.Batch.TheVariants.{Received}
use Rattle.fl_system.specs.declared.state.Pending.TheVariants.{Nothing}
use Rattle.fl_system.specs.declared.state.State.TheVariants.{Running}
use Rattle.fl_system.specs.State.{NodeState}
use Rattle.fl_system.specs.Waiting.{IsRunning, NotRunning, IsTaken}
use Rattle.fl_system.specs.Begins.{pending_with}

-- an operation of the node's own number, whose name no saved operation has
pub record IsImpostor (n : NodeState) (op : Op) : Type 0 where
  pub own : op.name.node ≡ n.number
  pub unknown : (other : Op) → In n.saved other → other.name ≢ op.name

-- another operation of that name is saved
pub record IsClash (n : NodeState) (op : Op) : Type 0 where
  pub other : Op
  pub there : In n.saved other
  pub same_name : other.name ≡ op.name
  pub differs : other ≢ op

-- of the operations that may not be taken, this one has the least name
pub record IsFirstRefused (n : NodeState) (ops : SetBy op_cmp) (op : Op) : Type 0 where
  pub member : In ops op
  pub least : (other : Op) → In ops other → IsImpostor n other ⊎ IsClash n other
      → name_cmp other.name op.name ≢ Less

-- each of these may be taken
abbrev pub CanTake : NodeState → SetBy op_cmp → Type 0
CanTake n ops = (op : Op) → In ops op → (¬ IsImpostor n op) × (¬ IsClash n op)

-- the members of ops that the node has not saved
abbrev pub AreLacking : NodeState → SetBy op_cmp → SetBy op_cmp → Type 0
AreLacking n ops new = (op : Op) → In new op ↔ (In ops op × (¬ In n.saved op))

-- each of them may be taken, and one is not saved
pub record HasNew (n : NodeState) (ops : SetBy op_cmp) : Type 0 where
  pub may : CanTake n ops
  pub op : Op
  pub there : In ops op
  pub new : ¬ In n.saved op

-- Those of these operations that are not saved are to be saved, or none; the answer is how many. Nothing changes but
-- what is on its way.
pub data Receives (n : NodeState) (ops : SetBy op_cmp) : Result ℕ Fault → NodeState → Type 0 where
  stopped : {fault : Fault} → NotRunning n.state fault → Receives n ops (Err fault) n
  no_room : IsRunning n.state → HasNew n ops → Receives n ops (Err (Refused Memory)) n
  impostor : {op : Op} → IsRunning n.state → IsFirstRefused n ops op → IsImpostor n op
      → Receives n ops (Err (Impostor op.name)) n
  clash : {op : Op} → IsRunning n.state → IsFirstRefused n ops op → IsClash n op
      → Receives n ops (Err (Clash op.name)) n
  -- all of them are saved
  nothing_new : IsRunning n.state → CanTake n ops → ((op : Op) → In ops op → In n.saved op) → Receives n ops (Ok 0) n
  -- something else is on its way
  taken : (op : Op) {fault : Fault} → IsRunning n.state → CanTake n ops → In ops op → ¬ In n.saved op
      → IsTaken n.state fault → Receives n ops (Err fault) n
  receives : {new : SetBy op_cmp} → n.state ≡ Running Nothing → CanTake n ops → AreLacking n ops new
      → 0 < set.len new → Receives n ops (Ok (set.len new)) (pending_with n (Received new))
