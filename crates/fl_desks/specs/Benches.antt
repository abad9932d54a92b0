-- The benches of a node, and which of them does a job.
use Rattle.std.specs.Prelude.{◌≡◌, Bool, ℕ, List, length, refl}
use Rattle.std.specs.Coded.{Coded, code_by, coded×, coded_ℕ, coded_list}
use Rattle.std.specs.declared.option.Option.TheVariants.{Some}
use Rattle.std.specs.declared.result.Result.{Result}
use Rattle.fl_labels.specs.Caps.{Caps}
use Rattle.fl_ops.specs.Registry.{Registry}
use Rattle.fl_jobs.specs.declared.job.Job.{Job}
use Rattle.fl_jobs.specs.declared.answer.Refusal.{Refusal}
use Rattle.fl_jobs.specs.declared.answer.Outcome.{Outcome}
use Rattle.fl_jobs.specs.declared.answer.Reply.{Reply}
use Rattle.fl_bench.specs.Bench.{BenchState, coded_state, new_bench}
use Rattle.fl_bench.specs.Foresight.{Could}
use Rattle.fl_bench.specs.Jobs.{Does}
use Rattle.fl_monitor.specs.Wanting.{Lacks}
use Rattle.fl_system.specs.Jobs.{bench_for, procs_after}
use Rattle.fl_system.specs.Numbered.{item_at, with_item, items_to}

pub record BenchesState : Type 0 where
  -- how often a new process was asked for, modulo the benches
  pub procs : ℕ
  -- from bench 1 on
  pub benches : List BenchState

-- so many, at this boot of the node
abbrev pub benches_of : ℕ → ℕ → ℕ → BenchesState
benches_of number boot count =
    record { procs = 0; benches = items_to count (λ index. new_bench number boot index count) }

-- the bench at which a job is done
abbrev pub bench_at : BenchesState → Job → ℕ
bench_at b job = bench_for (length b.benches) b.procs job

-- with the job counted
abbrev pub counted : BenchesState → Job → BenchesState
counted b job = record b { procs = procs_after (length b.benches) b.procs job }

-- The job has this result at its bench, under the registry, and is counted.
pub record DoesAt (registry : Registry) (b : BenchesState) (job : Job)
    (result : Result Outcome Refusal) (after : BenchesState) : Type 0 where
  pub bench : BenchState
  pub left : BenchState
  pub stands : item_at b.benches (bench_at b job) ≡ Some bench
  pub does : Does registry bench job result left
  pub leaves : after ≡ record {
    procs = procs_after (length b.benches) b.procs job;
    benches = with_item b.benches (bench_at b job) left;
  }

-- The job would be answered so at its bench, under the registry, where orders are guarded or not.
pub record CouldAtBench (guards : Bool) (registry : Registry) (b : BenchesState) (job : Job)
    (answer : Result Reply Refusal) : Type 0 where
  pub bench : BenchState
  pub stands : item_at b.benches (bench_at b job) ≡ Some bench
  pub could : Could guards registry bench job answer

-- what is wanting for the job at its bench, under the registry
abbrev pub LacksAt : Bool → Registry → BenchesState → Job → Caps
LacksAt guards registry b job c =
    (bench : BenchState) × (item_at b.benches (bench_at b job) ≡ Some bench)
    × Lacks guards registry bench job c

-- it is stored as the pair of both
abbrev pub coded_benches : Coded BenchesState
coded_benches =
    code_by (ℕ × List BenchState) (coded× coded_ℕ (coded_list coded_state))
    (λ b. (b.procs, b.benches))
    (λ t. record { procs = t.0; benches = t.1 })
    (λ _. refl)
