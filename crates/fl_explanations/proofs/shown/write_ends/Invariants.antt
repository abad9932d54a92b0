use Rattle.std.specs.FinMap as map
use Rattle.fl_explanations.specs.Lines.{end_line}
use Rattle.fl_explanations.proofs.Passed.{IsPassed}
use Rattle.fl_explanations.proofs.shown.write_ends.Given as goal

-- the lines so far passed
abbrev pub invariant-loop-endpoint : goal.invariant-loop-endpoint
invariant-loop-endpoint g l =
    IsPassed end_line (map.entries l.fn.endpoints) l.endpoint-iterator
    (g.W.Writer.contents l.initial.output) (g.W.Writer.contents l.output) l.initial.sink l.sink
