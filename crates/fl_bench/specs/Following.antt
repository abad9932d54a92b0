-- What becomes of a process.
use Rattle.std.specs.declared.option.Option.{Option}
use Rattle.std.specs.declared.option.Option.TheVariants.{None, Some}
use Rattle.fl_ops.specs.Registry.{Registry}
use Rattle.fl_jobs.specs.declared.job.Side.{Side}
use Rattle.fl_rules.specs.Safety.{SafeChange}
use Rattle.fl_bench.specs.Process.{effective, side_of}
use Rattle.fl_bench.specs.declared.process.Process.{Process}

-- Under the registry V, a process that was there and is there still had in effect what its labels gained or lost.
abbrev pub Follows : Registry → Option Process → Option Process → Type 0
Follows V None None = Unit {0}
Follows V None (Some new) = Unit {0}
Follows V (Some old) None = Unit {0}
Follows V (Some old) (Some new) =
    (side : Side) → SafeChange (effective V old) (side_of side old.labels) (side_of side new.labels)
