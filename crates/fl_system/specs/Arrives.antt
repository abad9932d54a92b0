-- How a message comes to a node.
use Rattle.std.specs.Prelude.{◌≡◌}
use Rattle.std.specs.declared.option.Option.TheVariants.{Some}
use Rattle.std.specs.declared.result.Result.{Result}
use Rattle.std.specs.declared.result.Result.TheVariants.{Ok, Err}
use Rattle.fl_ops.specs.Registry.{Registry}
use Rattle.fl_message.specs.declared.message.Data.{Data}
use Rattle.fl_jobs.specs.declared.job.Job.TheVariants.{Arrive}
use Rattle.fl_jobs.specs.declared.answer.Reply.{Reply}
use Rattle.fl_jobs.specs.declared.answer.Refusal.{Refusal}
use Rattle.fl_jobs.specs.declared.answer.Outcome.{Outcome}
use Rattle.fl_jobs.specs.declared.answer.Outcome.TheVariants as outcome
use Rattle.fl_bench.specs.Bench.{BenchState}
use Rattle.fl_bench.specs.Jobs.{Does}
use Rattle.fl_system.specs.declared.answer.Fault.{Fault}
use Rattle.fl_system.specs.declared.answer.Fault.TheVariants.{Refused}
use Rattle.fl_system.specs.Numbered.{item_at, with_item}
use Rattle.fl_system.specs.State.{NodeState}
use Rattle.fl_system.specs.Waiting.{IsRunning, NotRunning}
use Rattle.fl_system.specs.Jobs.{place_of}

-- an arrival asks nothing of the registry
abbrev pub Unasked : Registry
Unasked op = ⊥

-- at its receiver's bench the message has this result
pub record ArrivesAt (n : NodeState) (d : Data) (result : Result Outcome Refusal) (left : BenchState)
    : Type 0 where
  pub running : IsRunning n.state
  pub bench : BenchState
  pub stands : item_at n.benches (place_of n (Arrive d)) ≡ Some bench
  pub does : Does Unasked bench (Arrive d) result left

-- with the bench of the receiver left so
abbrev pub delivered : NodeState → Data → BenchState → NodeState
delivered n d left = record n { benches = with_item n.benches (place_of n (Arrive d)) left }

-- A message comes to its receiver at the node. No desk looks, and nothing but the receiver's bench changes.
pub data Arrives (n : NodeState) (d : Data) : Result Reply Fault → NodeState → Type 0 where
  stopped : {fault : Fault} → NotRunning n.state fault → Arrives n d (Err fault) n
  refused : {refusal : Refusal} {left : BenchState} → ArrivesAt n d (Err refusal) left
      → Arrives n d (Err (Refused refusal)) (delivered n d left)
  arrives : {reply : Reply} {left : BenchState} → ArrivesAt n d (Ok (outcome.Reply reply)) left
      → Arrives n d (Ok reply) (delivered n d left)
