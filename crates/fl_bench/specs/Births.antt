-- Who is born at a bench.
use Rattle.std.specs.Prelude.{◌≡◌, ◌≤◌, ◌%◌}
use Rattle.std.specs.declared.option.Option.TheVariants.{Some}
use Rattle.std.specs.FinMap as map
use Rattle.fl_labels.specs.Cap.{cap_cmp}
use Rattle.fl_labels.specs.Found.{Within}
use Rattle.fl_labels.specs.SetBy.{SetBy, In}
use Rattle.fl_labels.specs.declared.pid.Pid.{Pid}
use Rattle.fl_ops.specs.Registry.{Registry}
use Rattle.fl_jobs.specs.declared.job.Act.TheVariants.{Spawn}
use Rattle.fl_jobs.specs.declared.job.Job.{Job}
use Rattle.fl_jobs.specs.declared.job.Job.TheVariants.{Proc, By}
use Rattle.fl_bench.specs.Process.{newborn, child_of, effective}
use Rattle.fl_bench.specs.Bench.{BenchState, IsNext}
use Rattle.fl_bench.specs.declared.process.Process.{Process}

-- who the job bears at the bench b: a process with nothing, or one with the labels of its parent and a part of what
-- that has in effect
pub data IsChild (V : Registry) (b : BenchState) (job : Job) : Process → Type 0 where
  alone : job ≡ Proc → IsChild V b job newborn
  of : {parent : Pid} {p : Process} {caps : SetBy cap_cmp} → job ≡ By parent (Spawn caps)
      → map.get b.processes parent ≡ Some p → Within (In caps) (effective V p) → IsChild V b job (child_of p caps)

-- a process that the job bore as pid, under the next serial
pub record IsBirth (V : Registry) (b : BenchState) (job : Job) (pid : Pid) (child : Process) : Type 0 where
  pub next : IsNext b pid
  pub child_is : IsChild V b job child

-- the bench gives serials of one residue, and none again
pub record GoesOn (b after : BenchState) : Type 0 where
  pub node_is : after.node ≡ b.node
  pub boot_is : after.boot ≡ b.boot
  pub stride_is : after.stride ≡ b.stride
  pub forward : b.next ≤ after.next
  pub residue_is : after.next % after.stride ≡ b.next % b.stride
