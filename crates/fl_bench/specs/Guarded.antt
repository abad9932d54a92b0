-- Processes whose open endpoints are safe.
use Rattle.std.specs.Prelude.{◌≡◌}
use Rattle.std.specs.declared.option.Option.TheVariants.{Some}
use Rattle.std.specs.FinMap as map
use Rattle.fl_labels.specs.Found.{Within}
use Rattle.fl_labels.specs.declared.pid.Pid.{Pid}
use Rattle.fl_ops.specs.Registry.{Registry}
use Rattle.fl_mailbox.specs.Offenders.{CrossesAt, DualAt}
use Rattle.fl_bench.specs.Process.{effective}
use Rattle.fl_bench.specs.Bench.{BenchState}
use Rattle.fl_bench.specs.declared.process.Process.{Process}

-- each open endpoint of the process is safe by what the process has in effect under the registry V
abbrev pub Guarded : Registry → Process → Type 0
Guarded V p = Within (CrossesAt p.labels p.mailbox.endpoints) (DualAt (effective V p))

-- so are those of each process of the bench
pub record IsGuarded (V : Registry) (b : BenchState) : Type 0 where
  pub each : (pid : Pid) (p : Process) → map.get b.processes pid ≡ Some p → Guarded V p
