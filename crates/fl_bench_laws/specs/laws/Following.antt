-- What becomes of the processes of a bench.
use Rattle.std.proofs.Common.{◌≡◌, ◌<◌, ◌∙◌, ◌⊎◌, inl, inr, refl, sym, ap, subst, List, Option}
use Rattle.std.proofs.Common.{Some, None, Result, Ok, arith}
use Rattle.std.specs.FinMap as map
use Rattle.fl_labels.specs.Name.{name_cmp}
use Rattle.fl_labels.specs.SetBy.{SetBy}
use Rattle.fl_labels.specs.PidOrder.{pid_total, pid_exact}
use Rattle.fl_labels.specs.declared.cap.Cap.{Cap}
use Rattle.fl_labels.specs.declared.pid.Pid.{Pid}
use Rattle.fl_ops.specs.declared.op.Op.{Op}
use Rattle.fl_ops.specs.declared.op.Body.{Body}
use Rattle.fl_jobs.specs.declared.job.Side.{Side}
use Rattle.fl_jobs.specs.declared.job.Act.TheVariants.{Relabel}
use Rattle.fl_jobs.specs.declared.job.Job.{Job}
use Rattle.fl_jobs.specs.declared.job.Job.TheVariants.{By}
use Rattle.fl_jobs.specs.declared.answer.Refusal.{Refusal}
use Rattle.fl_jobs.specs.declared.answer.Outcome.{Outcome}
use Rattle.fl_rules.specs.Safety.{SafeChange}
use Rattle.fl_bench.specs.Process.{effective, side_of, with_side}
use Rattle.fl_bench.specs.Bench.{BenchState, IsNext, has_at, gone}
use Rattle.fl_bench.specs.Gifts.{settles, finished}
use Rattle.fl_bench.specs.Jobs.{Does, passed}
use Rattle.fl_bench.specs.Orderly.{IsOrderly}
use Rattle.fl_bench.specs.Following.{Follows}
use Rattle.fl_bench.specs.declared.process.Process.{Process}
use Rattle.fl_bench.specs.laws.Puts.{get_here, get_put, get_gone}
use Rattle.fl_bench.specs.laws.Steps.{same_labels, passed_by}
use Rattle.fl_bench.specs.Summary.{loses, bears, keeps, Changes, turns, stays, Keeps}
use Rattle.fl_bench.specs.laws.Orders.{order_at}
use Rattle.fl_bench_laws.specs.laws.Changes.{does_changes, settles_keeps, finished_keeps}

module _ (V : Op → Type 0) where
  pub follows_same : (o : Option Process) → Follows V o o
  follows_same None = tt
  follows_same (Some p) = same_labels V p p refl

  -- what becomes of each process of a bench
  abbrev pub AllFollow : BenchState → BenchState → Type 0
  AllFollow b after = (q : Pid) → Follows V (map.get b.processes q) (map.get after.processes q)

  all_same : (b after : BenchState) → after ≡ b → AllFollow b after
  all_same b after e = subst (AllFollow b) (sym e) (λ q. follows_same _)

  -- one process was put
  follows_put : (b : BenchState) (pid : Pid) (new : Process)
      → Follows V (map.get b.processes pid) (Some new) → AllFollow b (has_at b pid new)
  follows_put b pid new h q = by_place (get_put pid_total pid_exact b.processes pid new q)
    where
      by_place : ((q ≡ pid) × (map.get (map.insert b.processes pid new) q ≡ Some new)) ⊎
          (map.get (map.insert b.processes pid new) q ≡ map.get b.processes q)
          → Follows V (map.get b.processes q) (map.get (map.insert b.processes pid new) q)
      by_place (inl s) =
          subst (λ k. Follows V (map.get b.processes k)
          (map.get (map.insert b.processes pid new) q)) (sym s.0)
          (subst (Follows V (map.get b.processes pid)) (sym s.1) h)
      by_place (inr s) = subst (Follows V (map.get b.processes q)) (sym s) (follows_same _)

  pub keeps_follow : {b after : BenchState} → Keeps V b after → AllFollow b after
  keeps_follow {b} {after} (stays e) = all_same b after e
  keeps_follow {b} (turns pid old new e h is) =
      subst (AllFollow b) (sym is) (follows_put b pid new
      (subst (λ o. Follows V o (Some new)) (sym e) h))

  -- who is new or gone follows nobody, and the next process takes no other's place
  new_follows : (b : BenchState) (pid : Pid) (child : Process) → IsOrderly b → IsNext b pid
      → (o : Option Process) → map.get b.processes pid ≡ o → Follows V o (Some child)
  new_follows b pid child h next None e = tt
  new_follows b pid child h next (Some p) e =
      let below : pid.serial < b.next = (h.each pid p e).below in absurd
      (omega (arith, below, next.serial))

  gone_follows : (o : Option Process) → Follows V o None
  gone_follows None = tt
  gone_follows (Some p) = tt

  follows_gone : (b : BenchState) (pid : Pid) → AllFollow b (gone b pid)
  follows_gone b pid q = by_place (get_gone pid_total pid_exact b.processes pid q)
    where
      by_place : ((q ≡ pid) × (map.get (map.remove b.processes pid) q ≡ None)) ⊎
          (map.get (map.remove b.processes pid) q ≡ map.get b.processes q)
          → Follows V (map.get b.processes q) (map.get (map.remove b.processes pid) q)
      by_place (inl s) = subst (Follows V (map.get b.processes q)) (sym s.1) (gone_follows _)
      by_place (inr s) = subst (Follows V (map.get b.processes q)) (sym s) (follows_same _)

  changes_follow : {b after : BenchState} {job : Job} → IsOrderly b → Changes V b job after
      → AllFollow b after
  changes_follow h (keeps k) = keeps_follow k
  changes_follow {b} h (bears pid child birth is) =
      subst (AllFollow b) (sym is) (follows_put b pid child
      (new_follows b pid child h birth.next _ refl))
  changes_follow {b} h (loses pid asked is) = subst (AllFollow b) (sym is) (follows_gone b pid)

  pub follows_does : {b after : BenchState} {job : Job} {r : Result Outcome Refusal} → IsOrderly b
      → Does V b job r after → AllFollow b after
  follows_does h d = changes_follow h (does_changes V d)

  -- a finish and a cancel
  pub follows_settles : (b : BenchState) (pid : Pid) (caps : List Cap)
      → AllFollow b (settles b pid caps)
  follows_settles b pid caps = keeps_follow (settles_keeps V b pid caps)

  -- an order with its finish
  pub follows_finished : {b after : BenchState} {job : Job} {body : Body} {pid : Pid}
      → Does V b job (Ok (Outcome.Order body pid)) after → (op : Op)
      → AllFollow b (finished after pid op)
  follows_finished d op = keeps_follow (finished_keeps V (order_at d) op)

-- a label was set where the check let it pass
pub record Set (V : Op → Type 0) (b : BenchState) (pid : Pid) (side : Side) (label : SetBy name_cmp)
    (after : BenchState) : Type 0 where
  pub process : Process
  pub lived : map.get b.processes pid ≡ Some process
  pub safe : SafeChange (effective V process) (side_of side process.labels) label
  pub lives : map.get after.processes pid ≡ Some
      (record process { labels = with_side side label process.labels })

module _ {V : Op → Type 0} {b : BenchState} {pid : Pid} {side : Side} {label : SetBy name_cmp}
    {after : BenchState} where
  pub does_set : {x : Outcome} → Does V b (By pid (Relabel side (Ok label))) (Ok x) after
      → Set V b pid side label after
  does_set (passed s f) = record {
    process = f.0;
    lived = f.1;
    safe = (passed_by V b pid (Relabel side (Ok label)) f.0 f.1 s).1.0;
    lives =
        ap (λ (d : BenchState). map.get d.processes pid) f.2.1 ∙ get_here pid_total b.processes pid
        _;
  }

  -- and no operation is made
  pub set_is_no_order : {body : Body} {maker : Pid}
      → Does V b (By pid (Relabel side (Ok label))) (Ok (Outcome.Order body maker)) after → ⊥
  set_is_no_order d = let asked = (order_at d).asked in absurd (cc)
