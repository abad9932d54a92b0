-- The processes of a node.
use Rattle.std.specs.Prelude.{length}
use Rattle.std.specs.FinMap as map
use Rattle.std.specs.declared.option.Option.{Option}
use Rattle.std.specs.declared.option.Option.TheVariants.{None, Some}
use Rattle.fl_labels.specs.declared.pid.Pid.{Pid}
use Rattle.fl_bench.specs.Bench.{BenchState}
use Rattle.fl_bench.specs.declared.process.Process.{Process}
use Rattle.fl_system.specs.Numbered.{item_at}
use Rattle.fl_system.specs.State.{NodeState}
use Rattle.fl_system.specs.Jobs.{bench_of}

-- that stands at the bench, if there is one
abbrev pub process_at : Option BenchState → Pid → Option Process
process_at None pid = None
process_at (Some b) pid = map.get b.processes pid

-- that stands at its bench
abbrev pub process_of : NodeState → Pid → Option Process
process_of n pid = process_at (item_at n.benches (bench_of (length n.benches) pid.serial)) pid
