use Rattle.std.proofs.Common.{take}
use Rattle.std.specs.List.{flat_map}
use Rattle.fl_sink.specs.Sink.{Passes}
use Rattle.fl_machine.proofs.Texts.{line_of}
use Rattle.fl_machine.proofs.answers.put_lines.Given as goal

-- the lines so far passed
abbrev pub invariant-loop-packet : goal.invariant-loop-packet
invariant-loop-packet g l =
    Passes (g.W.Writer.contents l.initial.output) (g.W.Writer.contents l.output) l.initial.sink
    (flat_map line_of (take l.packet-index l.packets)) l.sink
