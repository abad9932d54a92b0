-- What the parts of a bench do keeps it orderly.
use Rattle.std.proofs.Common.{◌≡◌, ◌+◌, ◌≤◌, sym, subst, List, ℕ, Result, arith}
use Rattle.std.specs.FinMap as map
use Rattle.fl_labels.specs.Pid.{pid_cmp}
use Rattle.fl_labels.specs.declared.cap.Cap.{Cap}
use Rattle.fl_labels.specs.declared.pid.Pid.{Pid}
use Rattle.fl_ops.specs.Registry.{Registry}
use Rattle.fl_jobs.specs.declared.job.Act.{Act}
use Rattle.fl_jobs.specs.declared.answer.Refusal.{Refusal}
use Rattle.fl_jobs.specs.declared.answer.Outcome.{Outcome}
use Rattle.fl_message.specs.declared.message.Data.{Data}
use Rattle.fl_bench.specs.Bench.{BenchState, IsNext}
use Rattle.fl_bench.specs.Gifts.{receives}
use Rattle.fl_bench.specs.Orderly.{IsOrderly}
use Rattle.fl_bench.specs.declared.process.Process.{Process}
use Rattle.fl_bench.specs.laws.Orderly.{opened_orderly, put_orderly, gone_orderly, born_orderly, settles_orderly}
use Rattle.fl_monitor.specs.parts.Acts.{ActsAt, ArrivesAt, Ends, Sequel}

-- a bench that opens
pub opened_kept : (node boot index stride next : ℕ) (m : map.FinMap pid_cmp Process) → next ≡ index → m ≡ map.empty
    → 1 ≤ index → index ≤ stride
    → IsOrderly (record { node = node; boot = boot; next = next; stride = stride; processes = m })
opened_kept node boot index stride next m e f from within =
    subst IsOrderly (λ i. record { node = node; boot = boot; next = sym e i; stride = stride; processes = sym f i })
    (opened_orderly node boot index stride (omega (arith, from)) (omega (arith, from, within)))

module _ {b : BenchState} (h : IsOrderly b) where
  pub acts_kept : {V : Registry} {pid : Pid} {act : Act} {r : Result Sequel Refusal} {m : map.FinMap pid_cmp Process}
      → ActsAt V b.processes pid act r m → IsOrderly (record b { processes = m })
  acts_kept (ActsAt.nobody e) = h
  acts_kept {pid} (ActsAt.did {p} {p'} e k) = put_orderly h pid p p' e

  pub ends_kept : {pid : Pid} {r : Result (Unit {0}) Refusal} {m : map.FinMap pid_cmp Process}
      → Ends b.processes pid r m → IsOrderly (record b { processes = m })
  ends_kept (Ends.nobody e) = h
  ends_kept (Ends.busy e n) = h
  ends_kept {pid} (Ends.ended e idle) = gone_orderly h pid

  pub arrives_kept : {d : Data} {r : Result Outcome Refusal} {m : map.FinMap pid_cmp Process}
      → ArrivesAt b.processes d r m → IsOrderly (record b { processes = m })
  arrives_kept (ArrivesAt.nobody e) = h
  arrives_kept {d} (ArrivesAt.came {p} {p'} e k) = put_orderly h d.receiver p p' e

module _ {b : BenchState} (h : IsOrderly b) (m : map.FinMap pid_cmp Process) where
  pub gone_kept : (pid : Pid) → m ≡ map.remove b.processes pid → IsOrderly (record b { processes = m })
  gone_kept pid e = subst (λ m. IsOrderly (record b { processes = m })) (sym e) (gone_orderly h pid)

  pub receives_kept : (pid : Pid) (caps : List Cap) → m ≡ receives b.processes pid caps (map.get b.processes pid)
      → IsOrderly (record b { processes = m })
  receives_kept pid caps e = subst (λ m. IsOrderly (record b { processes = m })) (sym e) (settles_orderly h pid caps)

  pub born_kept : (pid : Pid) (p : Process) (n : ℕ) → IsNext b pid → m ≡ map.insert b.processes pid p → n ≡ b.stride
      → IsOrderly (record b { next = b.next + n; processes = m })
  born_kept pid p n next e f =
      subst IsOrderly (λ i. record b { next = b.next + sym f i; processes = sym e i }) (born_orderly h pid p next)
