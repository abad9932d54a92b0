use Rattle.std.proofs.Common.{take}
use Rattle.std.specs.List.{flat_map, filter}
use Rattle.fl_sink.specs.Sink.{Passes}
use Rattle.fl_opset.specs.RegistryText.{op_line}
use Rattle.fl_opset.specs.Without.{is_outside}
use Rattle.fl_opset.proofs.text.write_lines_but.Given as goal

-- the lines so far passed, but those
abbrev pub invariant-loop-op : goal.invariant-loop-op
invariant-loop-op g l =
    Passes (g.W.Writer.contents l.initial.output) (g.W.Writer.contents l.output) l.initial.sink
    (flat_map op_line (filter (is_outside l.those) (take l.op-index l.ops))) l.sink
