use Rattle.std.proofs.Common.{take}
use Rattle.std.specs.FinMap as map
use Rattle.std.specs.List.{flat_map}
use Rattle.fl_sink.specs.Sink.{Passes}
use Rattle.fl_explanations.specs.Lines.{standing_line}
use Rattle.fl_explanations.proofs.overview.write_all.Given as goal

-- the lines so far passed
abbrev pub invariant-loop-pid : goal.invariant-loop-pid
invariant-loop-pid g l =
    Passes (g.W.Writer.contents l.initial.output) (g.W.Writer.contents l.output) l.initial.sink
    (flat_map standing_line (take l.pid-index (map.entries l.bench.processes))) l.sink
