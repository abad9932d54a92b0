-- What a job does at a node.
use Rattle.std.specs.Prelude.{◌≡◌, ◌⊎◌, ◌+◌, ◌-◌, ◌%◌, ◌<◌, ℕ, suc, min, max, length}
use Rattle.std.specs.declared.option.Option.TheVariants.{Some}
use Rattle.std.specs.declared.result.Result.{Result}
use Rattle.std.specs.declared.result.Result.TheVariants.{Ok, Err}
use Rattle.fl_labels.specs.declared.name.Name.{Name}
use Rattle.fl_labels.specs.declared.pid.Pid.{Pid}
use Rattle.fl_ops.specs.declared.op.Body.{Body}
use Rattle.fl_jobs.specs.declared.job.Job.{Job}
use Rattle.fl_jobs.specs.declared.job.Job.TheVariants.{Proc, By, Member, Arrive}
use Rattle.fl_jobs.specs.declared.answer.Reply.{Reply}
use Rattle.fl_jobs.specs.declared.answer.Refusal.{Refusal}
use Rattle.fl_jobs.specs.declared.answer.Refusal.TheVariants.{Memory}
use Rattle.fl_jobs.specs.declared.answer.Outcome.{Outcome}
use Rattle.fl_jobs.specs.declared.answer.Outcome.TheVariants as outcome
use Rattle.fl_message.specs.declared.message.Data.{Data}
use Rattle.fl_bench.specs.Bench.{BenchState}
use Rattle.fl_bench.specs.Jobs.{Does}
use Rattle.fl_system.specs.declared.answer.Answer.{Answer}
use Rattle.fl_system.specs.declared.answer.Answer.TheVariants as answer
use Rattle.fl_system.specs.declared.answer.Fault.{Fault}
use Rattle.fl_system.specs.declared.answer.Fault.TheVariants.{Refused}
use Rattle.fl_system.specs.Numbered.{item_at, with_item}
use Rattle.fl_system.specs.State.{NodeState, first_ops}
use Rattle.fl_system.specs.Waiting.{IsRunning, NotRunning}
use Rattle.fl_system.specs.Begins.{Begins}

-- The desk looks at the list up to that length, and then sees v operations: no fewer than before.
pub record Looks (n : NodeState) (desk upto v : ℕ) : Type 0 where
  pub running : IsRunning n.state
  pub seen : ℕ
  pub has_seen : item_at n.views desk ≡ Some seen
  pub sees : v ≡ max seen (min upto (length n.published))

-- the bench of a process, by its serial, of so many
abbrev pub bench_of : ℕ → ℕ → ℕ
bench_of count serial = suc ((serial - 1) % count)

-- the bench at which a job is done
abbrev pub bench_for : ℕ → ℕ → Job → ℕ
bench_for count procs Proc = suc procs
bench_for count procs (By pid act) = bench_of count pid.serial
bench_for count procs (Member root c) = 1
bench_for count procs (Arrive d) = bench_of count d.receiver.serial

-- the same, at this node
abbrev pub place_of : NodeState → Job → ℕ
place_of n job = bench_for (length n.benches) n.procs job

-- who asks for a new process is counted, refused or not
abbrev pub procs_after : ℕ → ℕ → Job → ℕ
procs_after count procs Proc = (procs + 1) % count
procs_after count procs (By pid act) = procs
procs_after count procs (Member root c) = procs
procs_after count procs (Arrive d) = procs

-- the job has this result at its bench, which it leaves so, under the first v operations of the list
pub record Decides (n : NodeState) (v : ℕ) (job : Job) (result : Result Outcome Refusal) (left : BenchState)
    : Type 0 where
  pub bench : BenchState
  pub stands : item_at n.benches (place_of n job) ≡ Some bench
  pub does : Does (first_ops v n.published) bench job result left

-- with v operations seen at the desk
abbrev pub looking : NodeState → ℕ → ℕ → NodeState
looking n desk v = record n { views = with_item n.views desk v }

-- and with the job counted, for which there was no room
abbrev pub turned_away : NodeState → ℕ → ℕ → Job → NodeState
turned_away n desk v job =
    record n { views = with_item n.views desk v; procs = procs_after (length n.benches) n.procs job }

-- and with its bench left so
abbrev pub worked : NodeState → ℕ → ℕ → Job → BenchState → NodeState
worked n desk v job left =
    record n {
      views = with_item n.views desk v;
      procs = procs_after (length n.benches) n.procs job;
      benches = with_item n.benches (place_of n job) left;
    }

-- A job at the desk, which looks at the list up to that length.
pub data Jobs (n : NodeState) (desk upto : ℕ) (job : Job) : Result Answer Fault → NodeState → Type 0 where
  -- a stopped node does nothing
  stopped : {fault : Fault} → NotRunning n.state fault → Jobs n desk upto job (Err fault) n
  -- the desk is to see more, and there is no room for that: it sees as many as before, or that many
  no_room : {v w : ℕ} (look : Looks n desk upto v) → look.seen < v → (w ≡ look.seen) ⊎ (w ≡ v)
      → Jobs n desk upto job (Err (Refused Memory)) (turned_away n desk w job)
  -- the bench refuses it
  refused : {v : ℕ} {refusal : Refusal} {left : BenchState} → Looks n desk upto v
      → Decides n v job (Err refusal) left
      → Jobs n desk upto job (Err (Refused refusal)) (worked n desk v job left)
  -- it is done
  replied : {v : ℕ} {reply : Reply} {left : BenchState} → Looks n desk upto v
      → Decides n v job (Ok (outcome.Reply reply)) left
      → Jobs n desk upto job (Ok (answer.Reply reply)) (worked n desk v job left)
  -- it sends
  sent : {v : ℕ} {packet : Data} {left : BenchState} → Looks n desk upto v
      → Decides n v job (Ok (outcome.Out packet)) left
      → Jobs n desk upto job (Ok (answer.Out packet)) (worked n desk v job left)
  -- it is an order, whose operation is begun
  begun : {v : ℕ} {body : Body} {pid : Pid} {left : BenchState} {name : Name} {n' : NodeState}
      → Looks n desk upto v → Decides n v job (Ok (outcome.Order body pid)) left
      → Begins (worked n desk v job left) body (Some pid) (Some desk) (Ok name) n'
      → Jobs n desk upto job (Ok (answer.Begun name)) n'
  -- or not begun: the benches are as before
  not_begun : {v : ℕ} {body : Body} {pid : Pid} {left : BenchState} {fault : Fault} {n' : NodeState}
      → Looks n desk upto v → Decides n v job (Ok (outcome.Order body pid)) left
      → Begins (worked n desk v job left) body (Some pid) (Some desk) (Err fault) n'
      → Jobs n desk upto job (Err fault) (looking n desk v)
