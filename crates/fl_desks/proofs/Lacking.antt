-- What is wanting for a job at its bench.
use Rattle.std.proofs.Common.{◌≡◌, ◌⊎◌, inl, inr, sym, subst, Bool, Result, Ok, Err, IfOk, OnErr, Some}
use Rattle.std.specs.declared.alloc.AllocError.{AllocError}
use Rattle.fl_labels.specs.Cap.{cap_cmp}
use Rattle.fl_labels.specs.SetBy.{SetBy}
use Rattle.fl_labels.specs.declared.cap.Cap.{Cap}
use Rattle.fl_ops.specs.Registry.{Registry}
use Rattle.fl_jobs.specs.declared.job.Job.{Job}
use Rattle.fl_bench.specs.Bench.{BenchState}
use Rattle.fl_monitor.specs.Wanting.{AreAll, Lacks}
use Rattle.fl_system.specs.Numbered.{item_at}
use Rattle.fl_desks.specs.Benches.{BenchesState, LacksAt, bench_at}

module _ (guards : Bool) (V : Registry) (b : BenchesState) (job : Job) (bench : BenchState)
    (stands : item_at b.benches (bench_at b job) ≡ Some bench) where
  to : (c : Cap) → Lacks guards V bench job c → LacksAt guards V b job c
  to c h = (bench, stands, h)

  from : (c : Cap) → LacksAt guards V b job c → Lacks guards V bench job c
  from c h =
      let same : h.0 ≡ bench = cc (stands, h.1) in
      subst (λ it. Lacks guards V it job c) same h.2

  pub all_at : (r : Result (SetBy cap_cmp) AllocError) → IfOk r (AreAll (Lacks guards V bench job))
      → IfOk r (AreAll (LacksAt guards V b job))
  all_at (Ok found) are = record {
    each = λ c. (λ h. to c ((are.each c).0 h), λ h. (are.each c).1 (from c h));
  }
  all_at (Err e) are = are

  pub some_at : (P : Type 0) (r : Result (SetBy cap_cmp) AllocError)
      → OnErr r (P ⊎ ((c : Cap) × Lacks guards V bench job c))
      → OnErr r (P ⊎ ((c : Cap) × LacksAt guards V b job c))
  some_at P (Ok found) some = some
  some_at P (Err e) some = elim some [ inl p ↦ inl p | inr h ↦ inr (h.0, to h.0 h.1) ]
