use Rattle.std.proofs.Common.{take}
use Rattle.std.specs.List.{flat_map}
use Rattle.fl_sink.specs.Sink.{Passes}
use Rattle.fl_explanations.specs.Lines.{process_line}
use Rattle.fl_explanations.proofs.naming.write_pids.Given as goal

-- the lines so far passed
abbrev pub invariant-loop-pid : goal.invariant-loop-pid
invariant-loop-pid g l =
    Passes (g.W.Writer.contents l.initial.output) (g.W.Writer.contents l.output) l.initial.sink
    (flat_map process_line (take l.pid-index l.pids)) l.sink
