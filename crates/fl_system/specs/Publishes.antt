-- How what is saved is published, and how what is not saved is given up.
use Rattle.std.specs.Prelude.{◌≡◌, ◌++◌, ℕ, List, length}
use Rattle.std.specs.declared.option.Option.TheVariants.{None, Some}
use Rattle.std.specs.declared.result.Result.{Result}
use Rattle.std.specs.declared.result.Result.TheVariants.{Ok, Err}
use Rattle.fl_labels.specs.declared.pid.Pid.{Pid}
use Rattle.fl_ops.specs.declared.op.Op.{Op}
use Rattle.fl_jobs.specs.declared.answer.Refusal.TheVariants.{Memory}
use Rattle.fl_bench.specs.Bench.{BenchState}
use Rattle.fl_bench.specs.Gifts.{finished, cancelled}
use Rattle.fl_system.specs.declared.answer.Fault.{Fault}
use Rattle.fl_system.specs.declared.answer.Fault.TheVariants.{Refused}
use Rattle.fl_system.specs.declared.state.Batch.{Batch}
use Rattle.fl_system.specs.declared.state.Batch.TheVariants.{Ordered, Received}
use Rattle.fl_system.specs.declared.state.Pending.TheVariants.{Nothing, Unsaved, Due}
use Rattle.fl_system.specs.declared.state.State.TheVariants.{Running}
use Rattle.fl_system.specs.Numbered.{change_item, with_item}
use Rattle.fl_system.specs.State.{NodeState, ops_of}
use Rattle.fl_system.specs.Waiting.{NoneUnsaved, NoneDue}
use Rattle.fl_system.specs.Jobs.{bench_of}

-- with the bench of this process changed
abbrev pub at_bench_of : Pid → (BenchState → BenchState) → List BenchState → List BenchState
at_bench_of pid change benches = change_item change benches (bench_of (length benches) pid.serial)

-- the benches, once its maker has what the batch gives
abbrev pub given_to : Batch → List BenchState → List BenchState
given_to (Ordered op None desk) benches = benches
given_to (Ordered op (Some pid) desk) benches = at_bench_of pid (λ b. finished b pid op) benches
given_to (Received ops) benches = benches

-- the benches, once its maker goes on with nothing
abbrev pub released : Batch → List BenchState → List BenchState
released (Ordered op None desk) benches = benches
released (Ordered op (Some pid) desk) benches = at_bench_of pid (λ b. cancelled b pid) benches
released (Received ops) benches = benches

-- the views, once the desk of an order is told that so many operations are published
abbrev pub told : Batch → ℕ → List ℕ → List ℕ
told (Ordered op maker None) count views = views
told (Ordered op maker (Some desk)) count views = with_item views desk count
told (Received ops) count views = views

abbrev pub list_with : NodeState → Batch → List Op
list_with n batch = n.published ++ ops_of batch

abbrev pub published_with : NodeState → Batch → NodeState
published_with n batch =
    record n {
      published = list_with n batch;
      views = told batch (length (list_with n batch)) n.views;
      state = Running Nothing;
      benches = given_to batch n.benches;
    }

-- What is saved and due is published. The answer is the length of the list.
pub data Publishes (n : NodeState) : Result ℕ Fault → NodeState → Type 0 where
  published : {batch : Batch} → n.state ≡ Running (Due batch)
      → Publishes n (Ok (length (list_with n batch))) (published_with n batch)
  no_room : {batch : Batch} → n.state ≡ Running (Due batch) → Publishes n (Err (Refused Memory)) n
  none : {fault : Fault} → NoneDue n.state fault → Publishes n (Err fault) n

abbrev pub cancelled_with : NodeState → Batch → NodeState
cancelled_with n batch = record n { state = Running Nothing; benches = released batch n.benches }

-- What is pending and not saved is given up.
pub data Cancels (n : NodeState) : Result (Unit {0}) Fault → NodeState → Type 0 where
  given_up : {batch : Batch} → n.state ≡ Running (Unsaved batch) → Cancels n (Ok tt) (cancelled_with n batch)
  none : {fault : Fault} → NoneUnsaved n.state fault → Cancels n (Err fault) n
