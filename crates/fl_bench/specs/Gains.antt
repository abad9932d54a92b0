-- How processes come to own capabilities.
use Rattle.std.specs.Prelude.{◌≡◌, true}
use Rattle.std.specs.List.{Contains}
use Rattle.std.specs.declared.option.Option.TheVariants.{Some}
use Rattle.std.specs.FinMap as map
use Rattle.fl_labels.specs.Cap.{cap_cmp}
use Rattle.fl_labels.specs.SetBy.{SetBy, In}
use Rattle.fl_labels.specs.declared.name.Name.{Name}
use Rattle.fl_labels.specs.declared.cap.Cap.{Cap}
use Rattle.fl_labels.specs.declared.pid.Pid.{Pid}
use Rattle.fl_ops.specs.declared.op.Op.{Op}
use Rattle.fl_ops.specs.Registry.{Registry}
use Rattle.fl_ops.specs.Logins.{IsFirstLogin}
use Rattle.fl_message.specs.declared.message.Data.{Data}
use Rattle.fl_jobs.specs.declared.secret.Secret.{Secret}
use Rattle.fl_jobs.specs.declared.job.Act.TheVariants.{Spawn, Enter}
use Rattle.fl_jobs.specs.declared.job.Job.{Job}
use Rattle.fl_jobs.specs.declared.job.Job.TheVariants.{By, Arrive}
use Rattle.fl_bench.specs.Secrets.{digest_of}
use Rattle.fl_bench.specs.Process.{owns, is_busy, effective}
use Rattle.fl_bench.specs.Bench.{BenchState, IsNext}
use Rattle.fl_bench.specs.Gifts.{given}
use Rattle.fl_bench.specs.declared.process.Process.{Process}

-- the process that stands as pid owns c
pub record OwnsAt (b : BenchState) (pid : Pid) (c : Cap) : Type 0 where
  pub process : Process
  pub lives : map.get b.processes pid ≡ Some process
  pub owned : In (owns process) c

-- the ways in which a job at the bench b makes pid the owner of c
pub data Gains (V : Registry) (b : BenchState) (job : Job) (pid : Pid) (c : Cap) : Type 0 where
  born : {parent : Pid} {p : Process} {caps : SetBy cap_cmp} → job ≡ By parent (Spawn caps)
      → map.get b.processes parent ≡ Some p → IsNext b pid → In caps c → effective V p c → Gains V b job pid c
  entered : {login : Name} {secret : Secret} → job ≡ By pid (Enter login secret)
      → IsFirstLogin V login c (digest_of secret) → Gains V b job pid c
  arrived : {d : Data} → job ≡ Arrive d → pid ≡ d.receiver → In d.message.caps c → Gains V b job pid c

-- the ways in which the end of an operation of maker makes pid the owner of c
pub data GainsAtEnd (b : BenchState) (maker : Pid) (op : Op) (pid : Pid) (c : Cap) : Type 0 where
  made : {p : Process} → pid ≡ maker → map.get b.processes maker ≡ Some p → is_busy p ≡ true
      → Contains (given op) c → GainsAtEnd b maker op pid c
