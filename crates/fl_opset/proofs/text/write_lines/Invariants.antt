use Rattle.std.proofs.Common.{take}
use Rattle.std.specs.List.{flat_map}
use Rattle.fl_sink.specs.Sink.{Passes}
use Rattle.fl_opset.specs.RegistryText.{op_line}
use Rattle.fl_opset.proofs.text.write_lines.Given as goal

-- the lines so far passed
abbrev pub invariant-loop-op : goal.invariant-loop-op
invariant-loop-op g l = Passes (g.W.Writer.contents l.initial.output) (g.W.Writer.contents l.output) l.initial.sink (flat_map op_line (take l.op-index l.ops)) l.sink
