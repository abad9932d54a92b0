-- Orderly benches: each process has a pid that the bench gave it, and the next one is nobody's.
use Rattle.std.specs.Prelude.{◌≡◌, ◌<◌, ◌%◌}
use Rattle.std.specs.declared.option.Option.TheVariants.{Some}
use Rattle.std.specs.FinMap as map
use Rattle.fl_labels.specs.declared.pid.Pid.{Pid}
use Rattle.fl_bench.specs.Bench.{BenchState}
use Rattle.fl_bench.specs.declared.process.Process.{Process}

-- pid is one of those that the bench gives: of its node and boot, with a serial that is some strides
-- away from the next
pub record IsOwn (b : BenchState) (pid : Pid) : Type 0 where
  pub node_is : pid.node ≡ b.node
  pub boot_is : pid.boot ≡ b.boot
  pub residue_is : pid.serial % b.stride ≡ b.next % b.stride

-- and was given: its serial is before the next
pub record IsGiven (b : BenchState) (pid : Pid) : Type 0 where
  pub own : IsOwn b pid
  pub below : pid.serial < b.next

pub record IsOrderly (b : BenchState) : Type 0 where
  pub begun : 0 < b.next
  pub forward : 0 < b.stride
  pub each : (pid : Pid) (p : Process) → map.get b.processes pid ≡ Some p → IsGiven b pid
