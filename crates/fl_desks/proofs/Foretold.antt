-- What is foretold of a job at its bench.
use Rattle.std.proofs.Common.{◌≡◌, ◌<◌, Bool, ℕ, suc, length, get_or, Result, Ok, Err, IfOk}
use Rattle.std.specs.declared.alloc.AllocError.{AllocError}
use Rattle.fl_ops.specs.Registry.{Registry}
use Rattle.fl_jobs.specs.declared.answer.Refusal.{Refusal}
use Rattle.fl_jobs.specs.declared.answer.Reply.{Reply}
use Rattle.fl_jobs.specs.declared.job.Job.{Job}
use Rattle.fl_bench.specs.Bench.{BenchState}
use Rattle.fl_bench.specs.Foresight.{Could}
use Rattle.fl_desks.specs.Benches.{BenchesState, CouldAtBench, bench_at}
use Rattle.fl_desks.proofs.Views.{item_here}

-- the bench at this place is that of the job
pub could_at : (guards : Bool) (V : Registry) (b : BenchesState) (job : Job) (k : ℕ) (bench : BenchState)
    → suc k ≡ bench_at b job → k < length b.benches → bench ≡ get_or b.benches k bench
    → (r : Result (Result Reply Refusal) AllocError) → IfOk r (λ answer. Could guards V bench job answer)
    → IfOk r (CouldAtBench guards V b job)
could_at guards V b job k bench place within is (Ok answer) h = record {
  bench = bench;
  stands = item_here _ k (bench_at b job) bench place within is;
  could = h;
}
could_at guards V b job k bench place within is (Err e) h = tt
