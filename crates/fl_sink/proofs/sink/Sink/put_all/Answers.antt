use Rattle.std.proofs.Common.{◌<◌, [], arith, length}
use Rattle.fl_sink.specs.laws.Passing.{passes_then, puts_then, puts_stop}
use Rattle.fl_sink.specs.laws.Pieces.{flat_map_more, flat_map_at}
use Rattle.fl_sink.proofs.sink.Sink.put_all.Goals as goal

pub loop-piece-preserved : goal.loop-piece-preserved
loop-piece-preserved g c =
    let inside : c.loop-piece.piece-index < length c.args.pieces.now = omega arith in
    rw (flat_map_more (λ p. p.now) c.args.pieces.now c.loop-piece.piece-index (record { ref_ptr = (0, 0); now = [] }) inside)
    (passes_then _ _ _ c.loop-piece.invariant c.in_ok-put.ensures.puts.is)

pub returns-in_err-put-clause-puts : goal.returns-in_err-put-clause-puts
returns-in_err-put-clause-puts g c =
    let inside : c.loop-piece.piece-index < length c.args.pieces.now = omega arith in
    rw (flat_map_at (λ p. p.now) c.args.pieces.now c.loop-piece.piece-index (record { ref_ptr = (0, 0); now = [] }) inside)
    (puts_then c.loop-piece.invariant (puts_stop _ _ c.in_err-put.ensures.puts.is c.from_residual.ensures.0))
