-- What a job, a finish and a cancel change of a bench.
use Rattle.std.proofs.Common.{◌≡◌, refl, List, Option, Some, None, Result}
use Rattle.std.specs.FinMap as map
use Rattle.fl_labels.specs.SetBy as set
use Rattle.fl_labels.specs.declared.cap.Cap.{Cap}
use Rattle.fl_labels.specs.declared.pid.Pid.{Pid}
use Rattle.fl_ops.specs.declared.op.Op.{Op}
use Rattle.fl_ops.specs.declared.op.Body.{Body}
use Rattle.fl_jobs.specs.declared.job.Job.{Job}
use Rattle.fl_jobs.specs.declared.answer.Refusal.{Refusal}
use Rattle.fl_jobs.specs.declared.answer.Outcome.{Outcome}
use Rattle.fl_bench.specs.Process.{owns}
use Rattle.fl_bench.specs.Bench.{BenchState, has_at}
use Rattle.fl_bench.specs.Gifts.{given, settled, receives, settles, finished}
use Rattle.fl_bench.specs.Jobs.{Does}
use Rattle.fl_bench.specs.declared.process.Holding.{Holding}
use Rattle.fl_bench.specs.declared.process.Holding.TheVariants.{Idle, Ordering}
use Rattle.fl_bench.specs.declared.process.Process.{Process}
use Rattle.fl_bench.specs.laws.Steps.{same_labels, does_step}
use Rattle.fl_bench.specs.Summary.{Summary, sends, orders, replies, refuses, IsOrder, keeps}
use Rattle.fl_bench.specs.Summary.{Changes, turns, stays, Keeps}
use Rattle.fl_bench.specs.laws.Orders.{finished_at}

module _ (V : Op → Type 0) where
  -- a process that has its labels still, and holds this
  same_labelled : {b after : BenchState} (pid : Pid) (p : Process) (owned : Holding)
      → map.get b.processes pid ≡ Some p → after ≡ has_at b pid (record p { owned = owned })
      → Keeps V b after
  same_labelled pid p owned e is =
      turns pid p (record p { owned = owned }) e (same_labels V p (record p { owned = owned }) refl)
      is

  module _ {b after : BenchState} {job : Job} where
    order_keeps : {body : Body} {pid : Pid} → IsOrder V b job body pid after → Keeps V b after
    order_keeps {pid} o = same_labelled pid o.process (Ordering (owns o.process)) o.lived o.leaves

    -- an order with its finish
    pub finished_keeps : {body : Body} {pid : Pid} → IsOrder V b job body pid after → (op : Op)
        → Keeps V b (finished after pid op)
    finished_keeps {pid} o op =
        same_labelled pid o.process (Idle (set.insert_all (owns o.process) (given op))) o.lived
        (finished_at o op)

  step_changes : {b after : BenchState} {job : Job} {r : Result Outcome Refusal}
      → Summary V b job r after → Changes V b job after
  step_changes refuses = keeps (stays refl)
  step_changes (replies h) = h
  step_changes (orders o) = keeps (order_keeps o)
  step_changes (sends h is) = keeps (stays is)

  pub does_changes : {b after : BenchState} {job : Job} {r : Result Outcome Refusal}
      → Does V b job r after → Changes V b job after
  does_changes {b} d = step_changes (does_step V b d)

  -- a finish and a cancel
  pub settles_keeps : (b : BenchState) (pid : Pid) (caps : List Cap)
      → Keeps V b (settles b pid caps)
  settles_keeps b pid caps = by_found (map.get b.processes pid) refl
    where
      by_found : (o : Option Process) → map.get b.processes pid ≡ o
          → Keeps V b (record b { processes = receives b.processes pid caps o })
      by_found None e = stays refl
      by_found (Some p) e = same_labelled pid p (settled p.owned caps) e refl
