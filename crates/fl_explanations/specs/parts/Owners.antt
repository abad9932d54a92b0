-- Processes that own what leads to a capability.
use Rattle.std.specs.Prelude.{List}
use Rattle.std.specs.FinMap as map
use Rattle.std.specs.List.{Contains}
use Rattle.fl_labels.specs.SetBy.{In}
use Rattle.fl_labels.specs.declared.cap.Cap.{Cap}
use Rattle.fl_labels.specs.declared.pid.Pid.{Pid}
use Rattle.fl_ops.specs.Registry.{Listed, Reach}
use Rattle.fl_ops.specs.declared.op.Op.{Op}
use Rattle.fl_bench.specs.Bench.{BenchState}
use Rattle.fl_bench.specs.Process.{owns}
use Rattle.fl_bench.specs.declared.process.Process.{Process}

-- the bench has this process, which owns what leads to c
abbrev pub IsOwner : List Op → BenchState → Cap → Pid → Type 0
IsOwner ops bench c pid = (process : Process) × Contains (map.entries bench.processes) (pid, process)
    × Reach (Listed ops) (In (owns process)) c
