use Rattle.std.proofs.Common.{take}
use Rattle.std.specs.List.{flat_map}
use Rattle.fl_sink.specs.Sink.{Passes}
use Rattle.fl_sink.proofs.sink.Sink.put_all.Given as goal

abbrev pub invariant-loop-piece : goal.invariant-loop-piece
invariant-loop-piece g l = Passes (g.W.Writer.contents l.initial.output) (g.W.Writer.contents l.output) l.initial.self (flat_map (λ p. p.now) (take l.piece-index l.pieces)) l.self
