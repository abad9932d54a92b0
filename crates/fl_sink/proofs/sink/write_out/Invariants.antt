use Rattle.std.proofs.Common.{[], length}
use Rattle.fl_sink.specs.Sink.{Passes}
use Rattle.fl_sink.proofs.sink.write_out.Given as goal

abbrev pub invariant-loop-rest : goal.invariant-loop-rest
invariant-loop-rest g l = Passes (g.W.Writer.contents l.initial.output) (g.W.Writer.contents l.output) [] l.bytes l.rest

abbrev pub decreases-loop-rest : goal.decreases-loop-rest
decreases-loop-rest g l = length l.rest
