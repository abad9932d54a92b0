use Rattle.std.proofs.Common.{take}
use Rattle.std.specs.List.{flat_map}
use Rattle.fl_sink.specs.Sink.{Passes}
use Rattle.fl_explanations.specs.Lines.{group_line}
use Rattle.fl_explanations.proofs.naming.write_groups.Given as goal

-- the lines so far passed
abbrev pub invariant-loop-group : goal.invariant-loop-group
invariant-loop-group g l =
    Passes (g.W.Writer.contents l.initial.output) (g.W.Writer.contents l.output) l.initial.sink
    (flat_map group_line (take l.group-index l.groups)) l.sink
