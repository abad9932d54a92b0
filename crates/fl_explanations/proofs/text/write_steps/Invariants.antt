use Rattle.std.proofs.Common.{take}
use Rattle.std.specs.List.{flat_map}
use Rattle.fl_sink.specs.Sink.{Passes}
use Rattle.fl_explanations.specs.Lines.{step_line}
use Rattle.fl_explanations.proofs.text.write_steps.Given as goal

-- the lines so far passed
abbrev pub invariant-loop-step : goal.invariant-loop-step
invariant-loop-step g l =
    Passes (g.W.Writer.contents l.initial.output) (g.W.Writer.contents l.output) l.initial.sink
    (flat_map step_line (take l.step-index l.steps)) l.sink
