use Rattle.std.proofs.Common.{take}
use Rattle.std.specs.List.{flat_map}
use Rattle.fl_sink.specs.Sink.{Passes}
use Rattle.fl_answers.proofs.Braces.{behind_comma}
use Rattle.fl_answers.proofs.listed.put_more.Given as goal

-- the items so far passed
abbrev pub invariant-loop-item : goal.invariant-loop-item
invariant-loop-item g l =
    Passes (g.W.Writer.contents l.initial.output) (g.W.Writer.contents l.output) l.initial.sink
    (flat_map (behind_comma g.T.Listed.text) (take l.item-index l.items)) l.sink
