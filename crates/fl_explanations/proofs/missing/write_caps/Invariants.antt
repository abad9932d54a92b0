use Rattle.std.proofs.Common.{take}
use Rattle.std.specs.List.{flat_map}
use Rattle.fl_sink.specs.Sink.{Passes}
use Rattle.fl_explanations.specs.Lines.{cap_line}
use Rattle.fl_explanations.proofs.missing.write_caps.Given as goal

-- the lines so far passed
abbrev pub invariant-loop-cap : goal.invariant-loop-cap
invariant-loop-cap g l =
    Passes (g.W.Writer.contents l.initial.output) (g.W.Writer.contents l.output) l.initial.sink
    (flat_map cap_line (take l.cap-index l.caps)) l.sink
