-- Who is born at a bench, and who goes.
use Rattle.std.proofs.Common.{◌≡◌, ◌∙◌, inl, inr, sym, subst, List, Some, None, Result}
use Rattle.std.specs.FinMap as map
use Rattle.fl_labels.specs.PidOrder.{pid_total, pid_exact}
use Rattle.fl_labels.specs.declared.cap.Cap.{Cap}
use Rattle.fl_labels.specs.declared.pid.Pid.{Pid}
use Rattle.fl_ops.specs.declared.op.Op.{Op}
use Rattle.fl_jobs.specs.declared.job.Act.TheVariants.{Exit}
use Rattle.fl_jobs.specs.declared.job.Job.{Job}
use Rattle.fl_jobs.specs.declared.job.Job.TheVariants.{By}
use Rattle.fl_jobs.specs.declared.answer.Refusal.{Refusal}
use Rattle.fl_jobs.specs.declared.answer.Outcome.{Outcome}
use Rattle.fl_bench.specs.Bench.{BenchState}
use Rattle.fl_bench.specs.Gifts.{settles}
use Rattle.fl_bench.specs.Jobs.{Does}
use Rattle.fl_bench.specs.Births.{IsBirth}
use Rattle.fl_bench.specs.declared.process.Process.{Process}
use Rattle.fl_bench.specs.laws.Puts.{get_put, get_gone, none_some, same_found}
use Rattle.fl_bench.specs.Summary.{loses, bears, keeps, Changes, turns, stays, Keeps}
use Rattle.fl_bench_laws.specs.laws.Changes.{does_changes, settles_keeps}

module _ (V : Op → Type 0) (b : BenchState) where
  -- at a bench that has its processes still, nobody is new, and nobody gone
  pub keeps_nobody : {after : BenchState} → Keeps V b after → (pid : Pid) → map.get b.processes pid ≡ None → map.get after.processes pid ≡ None
  keeps_nobody (stays e) pid none = subst (λ (x : BenchState). map.get x.processes pid ≡ None) (sym e) none
  keeps_nobody (turns q old new there h is) pid none = subst (λ (x : BenchState). map.get x.processes pid ≡ None) (sym is) (elim (get_put pid_total pid_exact b.processes q new pid) [
    | inl s ↦ absurd (none_some none (subst (λ k. map.get b.processes k ≡ Some old) (sym s.0) there))
    | inr s ↦ s ∙ none
  ])

  -- what stands at a bench after a process was put there
  put_stays : (q : Pid) (new : Process) (pid : Pid) (p : Process) → map.get b.processes pid ≡ Some p → map.get (map.insert b.processes q new) pid ≡ None → ⊥
  put_stays q new pid p there none = elim (get_put pid_total pid_exact b.processes q new pid) [
    | inl s ↦ none_some none s.1
    | inr s ↦ none_some (sym s ∙ none) there
  ]

  pub keeps_all : {after : BenchState} → Keeps V b after → (pid : Pid) (p : Process) → map.get b.processes pid ≡ Some p → map.get after.processes pid ≡ None → ⊥
  keeps_all (stays e) pid p there none = none_some (subst (λ (x : BenchState). map.get x.processes pid ≡ None) e none) there
  keeps_all (turns q old new known h is) pid p there none = put_stays q new pid p there (subst (λ (x : BenchState). map.get x.processes pid ≡ None) is none)

  -- who is new was born
  changes_born : {job : Job} {after : BenchState} → Changes V b job after → (pid : Pid) (child : Process) → map.get b.processes pid ≡ None → map.get after.processes pid ≡ Some child → IsBirth V b job pid child
  changes_born (keeps k) pid child none there = absurd (none_some (keeps_nobody k pid none) there)
  changes_born {job} (bears q new birth is) pid child none there =
      let put : map.get (map.insert b.processes q new) pid ≡ Some child = subst (λ (x : BenchState). map.get x.processes pid ≡ Some child) is there in
      elim (get_put pid_total pid_exact b.processes q new pid) [
        | inl s ↦ subst (λ k. IsBirth V b job k child) (sym s.0) (subst (IsBirth V b job q) (same_found s.1 put) birth)
        | inr s ↦ absurd (none_some none (sym s ∙ put))
      ]
  changes_born (loses q asked is) pid child none there =
      let left : map.get (map.remove b.processes q) pid ≡ Some child = subst (λ (x : BenchState). map.get x.processes pid ≡ Some child) is there in
      elim (get_gone pid_total pid_exact b.processes q pid) [
        | inl s ↦ absurd (none_some s.1 left)
        | inr s ↦ absurd (none_some none (sym s ∙ left))
      ]

  -- who is gone asked for it
  changes_gone : {job : Job} {after : BenchState} → Changes V b job after → (pid : Pid) (p : Process) → map.get b.processes pid ≡ Some p → map.get after.processes pid ≡ None → job ≡ By pid Exit
  changes_gone (keeps k) pid p there none = absurd (keeps_all k pid p there none)
  changes_gone (bears q new birth is) pid p there none = absurd (put_stays q new pid p there (subst (λ (x : BenchState). map.get x.processes pid ≡ None) is none))
  changes_gone {job} (loses q asked is) pid p there none =
      let left : map.get (map.remove b.processes q) pid ≡ None = subst (λ (x : BenchState). map.get x.processes pid ≡ None) is none in
      elim (get_gone pid_total pid_exact b.processes q pid) [
        | inl s ↦ subst (λ k. job ≡ By k Exit) (sym s.0) asked
        | inr s ↦ absurd (none_some (sym s ∙ left) there)
      ]

  module _ {job : Job} {r : Result Outcome Refusal} {after : BenchState} (d : Does V b job r after) (pid : Pid) where
    pub does_born : (child : Process) → map.get b.processes pid ≡ None → map.get after.processes pid ≡ Some child → IsBirth V b job pid child
    does_born child none there = changes_born (does_changes V d) pid child none there

    pub does_gone : (p : Process) → map.get b.processes pid ≡ Some p → map.get after.processes pid ≡ None → job ≡ By pid Exit
    does_gone p there none = changes_gone (does_changes V d) pid p there none

  -- a finish and a cancel
  module _ (maker : Pid) (caps : List Cap) (pid : Pid) where
    pub settles_nobody : map.get b.processes pid ≡ None → map.get (settles b maker caps).processes pid ≡ None
    settles_nobody = keeps_nobody (settles_keeps V b maker caps) pid

    pub settles_all : (p : Process) → map.get b.processes pid ≡ Some p → map.get (settles b maker caps).processes pid ≡ None → ⊥
    settles_all = keeps_all (settles_keeps V b maker caps) pid
