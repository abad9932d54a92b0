use Rattle.std.proofs.Common.{take}
use Rattle.std.specs.List.{flat_map, filter}
use Rattle.fl_sink.specs.Sink.{Passes}
use Rattle.fl_opset.specs.ByNode.{all_ops}
use Rattle.fl_opset.specs.RegistryText.{op_line}
use Rattle.fl_opset.specs.Without.{is_outside}
use Rattle.fl_opset.proofs.walks.write_lines_but.Given as goal

-- the lines of the nodes so far passed, but those
abbrev pub invariant-loop-it : goal.invariant-loop-it
invariant-loop-it g l =
    Passes (g.W.Writer.contents l.initial.output) (g.W.Writer.contents l.output) l.initial.sink
    (flat_map op_line (filter (is_outside l.those) (all_ops (take l.it-index l.nodes)))) l.sink
