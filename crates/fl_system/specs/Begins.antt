-- How an operation is begun.
use Rattle.std.specs.Prelude.{◌≡◌, ℕ}
use Rattle.std.specs.declared.option.Option.{Option}
use Rattle.std.specs.declared.result.Result.{Result}
use Rattle.std.specs.declared.result.Result.TheVariants.{Ok, Err}
use Rattle.fl_labels.specs.declared.name.Name.{Name}
use Rattle.fl_labels.specs.declared.pid.Pid.{Pid}
use Rattle.fl_ops.specs.declared.op.Body.{Body}
use Rattle.fl_jobs.specs.declared.answer.Refusal.TheVariants.{NamesSpent}
use Rattle.fl_system.specs.declared.answer.Fault.{Fault}
use Rattle.fl_system.specs.declared.answer.Fault.TheVariants.{Refused}
use Rattle.fl_system.specs.declared.state.Batch.{Batch}
use Rattle.fl_system.specs.declared.state.Batch.TheVariants.{Ordered}
use Rattle.fl_system.specs.declared.state.Pending.TheVariants.{Nothing, Unsaved}
use Rattle.fl_system.specs.declared.state.State.TheVariants.{Running}
use Rattle.fl_system.specs.State.{NodeState}
use Rattle.fl_system.specs.Naming.{IsLast, IsNextAfter}
use Rattle.fl_system.specs.Waiting.{IsTaken}

-- the batch of one operation
abbrev pub order : Name → Body → Option Pid → Option ℕ → Batch
order name body maker desk = Ordered (record { name = name; body = body }) maker desk

-- with this batch to be saved
abbrev pub pending_with : NodeState → Batch → NodeState
pending_with n batch = record n { state = Running (Unsaved batch) }

-- An operation of this body is begun, for its maker at a desk, or not; nothing but what is on its way changes.
pub data Begins (n : NodeState) (body : Body) (maker : Option Pid) (desk : Option ℕ)
    : Result Name Fault → NodeState → Type 0 where
  -- where nothing is on its way, it gets the next name
  begins : {name : Name} → n.state ≡ Running Nothing → IsNextAfter n.saved n.number name
      → Begins n body maker desk (Ok name) (pending_with n (order name body maker desk))
  -- something is on its way, or the node is stopped
  taken : {fault : Fault} → IsTaken n.state fault → Begins n body maker desk (Err fault) n
  -- no name is left
  spent : n.state ≡ Running Nothing → IsLast n.saved n.number 4294967295
      → Begins n body maker desk (Err (Refused NamesSpent)) n
