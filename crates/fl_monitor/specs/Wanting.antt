-- Which capabilities a bench says to be wanting for a job.
use Rattle.std.specs.Prelude.{◌≡◌, ◌↔◌, Bool, false}
use Rattle.std.specs.declared.option.Option.TheVariants.{Some}
use Rattle.std.specs.FinMap as map
use Rattle.fl_labels.specs.Cap.{cap_cmp}
use Rattle.fl_labels.specs.Caps.{Caps}
use Rattle.fl_labels.specs.SetBy.{SetBy, In}
use Rattle.fl_labels.specs.declared.cap.Cap.{Cap}
use Rattle.fl_ops.specs.Registry.{Registry}
use Rattle.fl_jobs.specs.declared.job.Act.{Act}
use Rattle.fl_jobs.specs.declared.job.Job.{Job}
use Rattle.fl_jobs.specs.declared.job.Job.TheVariants.{Proc, By, Member, Arrive}
use Rattle.fl_bench.specs.Bench.{BenchState}
use Rattle.fl_bench.specs.Foresight.{WantsBy}
use Rattle.fl_bench.specs.Process.{is_busy}
use Rattle.fl_bench.specs.declared.process.Process.{Process}

-- what is wanting for an act of the process; while an operation of it is under way nothing is, since no capability
-- would help
abbrev pub LacksBy : Bool → Registry → Process → Act → Caps
LacksBy guards V p act c = (is_busy p ≡ false) × WantsBy guards V p act c

-- what is wanting for a job at the bench
abbrev pub Lacks : Bool → Registry → BenchState → Job → Caps
Lacks guards V b (By pid act) c = (p : Process) × (map.get b.processes pid ≡ Some p) × LacksBy guards V p act c
Lacks guards V b Proc c = ⊥
Lacks guards V b (Member root asked) c = ⊥
Lacks guards V b (Arrive d) c = ⊥

-- the set has all of these, and no others
pub record AreAll (P : Caps) (found : SetBy cap_cmp) : Type 0 where
  pub each : (c : Cap) → In found c ↔ P c
