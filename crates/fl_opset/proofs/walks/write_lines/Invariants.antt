use Rattle.std.proofs.Common.{take}
use Rattle.std.specs.List.{flat_map}
use Rattle.fl_sink.specs.Sink.{Passes}
use Rattle.fl_opset.specs.ByNode.{all_ops}
use Rattle.fl_opset.specs.RegistryText.{op_line}
use Rattle.fl_opset.proofs.walks.write_lines.Given as goal

-- the lines of the nodes so far passed
abbrev pub invariant-loop-it : goal.invariant-loop-it
invariant-loop-it g l =
    Passes (g.W.Writer.contents l.initial.output) (g.W.Writer.contents l.output) l.initial.sink
    (flat_map op_line (all_ops (take l.it-index l.nodes))) l.sink
