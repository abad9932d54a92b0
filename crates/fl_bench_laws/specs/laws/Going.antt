-- The pids that a bench gives, one after another.
use Rattle.std.proofs.Common.{◌≡◌, ◌≢◌, ◌∙◌, refl, sym, ap, subst, List, Some, Result, arith}
use native.Mathlib.Nat.{add-mod_right}
use Rattle.std.specs.FinMap as map
use Rattle.fl_labels.specs.Pid.{pid_cmp}
use Rattle.fl_labels.specs.declared.cap.Cap.{Cap}
use Rattle.fl_labels.specs.declared.pid.Pid.{Pid}
use Rattle.fl_ops.specs.declared.op.Op.{Op}
use Rattle.fl_jobs.specs.declared.job.Job.{Job}
use Rattle.fl_jobs.specs.declared.answer.Refusal.{Refusal}
use Rattle.fl_jobs.specs.declared.answer.Outcome.{Outcome}
use Rattle.fl_bench.specs.Bench.{BenchState, IsNext, born}
use Rattle.fl_bench.specs.Gifts.{settles}
use Rattle.fl_bench.specs.Jobs.{Does}
use Rattle.fl_bench.specs.Births.{GoesOn}
use Rattle.fl_bench.specs.Orderly.{IsOrderly}
use Rattle.fl_bench.specs.declared.process.Process.{Process}
use Rattle.fl_bench.specs.Summary.{loses, bears, keeps, Changes, turns, stays, Keeps}
use Rattle.fl_bench_laws.specs.laws.Changes.{does_changes, settles_keeps}

module _ (b : BenchState) where
  pub goes_same : GoesOn b b
  goes_same =
      record {
        node_is = refl;
        boot_is = refl;
        stride_is = refl;
        forward = omega arith;
        residue_is =
            refl;
      }

  goes_with : (m : map.FinMap pid_cmp Process) → GoesOn b (record b { processes = m })
  goes_with m =
      record {
        node_is = refl;
        boot_is = refl;
        stride_is = refl;
        forward = omega arith;
        residue_is =
            refl;
      }

  goes_born : (pid : Pid) (child : Process) → GoesOn b (born b pid child)
  goes_born pid child = record {
    node_is = refl;
    boot_is = refl;
    stride_is = refl;
    forward = omega arith;
    residue_is = add-mod_right b.next b.stride;
  }

-- one time after another
pub goes_longer : {a b c : BenchState} → GoesOn a b → GoesOn b c → GoesOn a c
goes_longer g h = record {
  node_is = h.node_is ∙ g.node_is;
  boot_is = h.boot_is ∙ g.boot_is;
  stride_is = h.stride_is ∙ g.stride_is;
  forward = omega (arith, g.forward, h.forward);
  residue_is = h.residue_is ∙ g.residue_is;
}

-- the pid of who stands at a bench is never the next one again
pub never_next : {b later : BenchState} {pid next : Pid} {p : Process} → IsOrderly b
    → map.get b.processes pid ≡ Some p
    → GoesOn b later → IsNext later next → next ≢ pid
never_next {pid} {p} h there on is same =
    let below = (h.each pid p there).below in
    let serial = ap (λ (k : Pid). k.serial) same in
    absurd (omega (arith, below, on.forward, is.serial, serial))

module _ (V : Op → Type 0) (b : BenchState) where
  keeps_going : {after : BenchState} → Keeps V b after → GoesOn b after
  keeps_going (stays e) = subst (GoesOn b) (sym e) (goes_same b)
  keeps_going (turns q old new there h is) =
      subst (GoesOn b) (sym is) (goes_with b (map.insert b.processes q new))

  changes_going : {job : Job} {after : BenchState} → Changes V b job after → GoesOn b after
  changes_going (keeps k) = keeps_going k
  changes_going (bears q new birth is) = subst (GoesOn b) (sym is) (goes_born b q new)
  changes_going (loses q asked is) =
      subst (GoesOn b) (sym is) (goes_with b (map.remove b.processes q))

  pub does_going : {job : Job} {r : Result Outcome Refusal} {after : BenchState}
      → Does V b job r after → GoesOn b after
  does_going d = changes_going (does_changes V d)

  -- a finish and a cancel
  pub settles_going : (maker : Pid) (caps : List Cap) → GoesOn b (settles b maker caps)
  settles_going maker caps = keeps_going (settles_keeps V b maker caps)
