-- How what is pending is saved.
use Rattle.std.specs.Prelude.{◌≡◌, ◌⊎◌}
use Rattle.std.specs.declared.option.Option.{Option}
use Rattle.std.specs.declared.option.Option.TheVariants.{Some}
use Rattle.std.specs.declared.result.Result.{Result}
use Rattle.std.specs.declared.result.Result.TheVariants.{Ok, Err}
use Rattle.fl_jobs.specs.declared.answer.Refusal.TheVariants.{Memory}
use Rattle.fl_store.specs.Kept.{Kept, with_ops, with_batch}
use Rattle.fl_system.specs.declared.answer.Fault.{Fault}
use Rattle.fl_system.specs.declared.answer.Fault.TheVariants.{Refused, KeeperFailed}
use Rattle.fl_system.specs.declared.state.Batch.{Batch}
use Rattle.fl_system.specs.declared.state.Pending.TheVariants.{Unsaved, Due}
use Rattle.fl_system.specs.declared.state.State.TheVariants.{Running, Stopped}
use Rattle.fl_system.specs.State.{NodeState, ops_of}
use Rattle.fl_system.specs.Waiting.{NoneUnsaved}

-- with the batch saved, and due
abbrev pub stored : NodeState → Batch → NodeState
stored n batch = record n { saved = with_ops n.saved (ops_of batch); state = Running (Due batch) }

-- stopped, with what may be in doubt
abbrev pub halted : NodeState → Option Batch → NodeState
halted n doubt = record n { state = Stopped doubt }

-- What is pending is saved; beside the node, what is kept of it.
pub data Saves (n : NodeState) (k : Kept) : Result (Unit {0}) Fault → NodeState → Kept → Type 0 where
  saved : {batch : Batch} → n.state ≡ Running (Unsaved batch)
      → Saves n k (Ok tt) (stored n batch) (with_batch k (ops_of batch))
  no_room : {batch : Batch} → n.state ≡ Running (Unsaved batch) → Saves n k (Err (Refused Memory)) n k
  -- the keeper broke: the batch is in doubt, kept as a whole or not at all
  failed : {batch : Batch} {left : Kept} → n.state ≡ Running (Unsaved batch)
      → (left ≡ k) ⊎ (left ≡ with_batch k (ops_of batch))
      → Saves n k (Err KeeperFailed) (halted n (Some batch)) left
  none : {fault : Fault} → NoneUnsaved n.state fault → Saves n k (Err fault) n k
