-- A job keeps a bench orderly.
use Rattle.std.proofs.Common.{sym, subst, Result}
use Rattle.fl_ops.specs.declared.op.Op.{Op}
use Rattle.fl_jobs.specs.declared.job.Job.{Job}
use Rattle.fl_jobs.specs.declared.answer.Refusal.{Refusal}
use Rattle.fl_jobs.specs.declared.answer.Outcome.{Outcome}
use Rattle.fl_bench.specs.Bench.{BenchState}
use Rattle.fl_bench.specs.Jobs.{Does}
use Rattle.fl_bench.specs.Orderly.{IsOrderly}
use Rattle.fl_bench.specs.Summary.{loses, bears, keeps, Changes, turns, stays, Keeps}
use Rattle.fl_bench.specs.laws.Orderly.{put_orderly, gone_orderly, born_orderly}
use Rattle.fl_bench_laws.specs.laws.Changes.{does_changes}

module _ {b : BenchState} (h : IsOrderly b) where
  keeps_orderly : (V : Op → Type 0) {after : BenchState} → Keeps V b after → IsOrderly after
  keeps_orderly V (stays e) = subst IsOrderly (sym e) h
  keeps_orderly V (turns pid old new e follows is) =
      subst IsOrderly (sym is) (put_orderly h pid old new e)

  changes_orderly : (V : Op → Type 0) {job : Job} {after : BenchState} → Changes V b job after
      → IsOrderly after
  changes_orderly V (keeps k) = keeps_orderly V k
  changes_orderly V (bears pid child birth is) =
      subst IsOrderly (sym is) (born_orderly h pid child birth.next)
  changes_orderly V (loses pid asked is) = subst IsOrderly (sym is) (gone_orderly h pid)

  pub does_orderly : {V : Op → Type 0} {after : BenchState} {job : Job} {r : Result Outcome Refusal}
      → Does V b job r after → IsOrderly after
  does_orderly {V} d = changes_orderly V (does_changes V d)
