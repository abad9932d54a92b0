use Rattle.std.proofs.Common.{◌∙◌, ap}
use Rattle.std.specs.Arc.{arc_slice_items}
use Rattle.fl_bench.specs.parts.Changes.{after}
use Rattle.fl_bench.proofs.Changes.{pieces_more}
use Rattle.fl_bench.proofs.history.apply_pieces.Goals as goal

pub loop-piece-preserved : goal.loop-piece-preserved
loop-piece-preserved c =
    pieces_more arc_slice_items _ _ _ c.args.pieces.now _ _ c.loop-piece-test.true c.piece-item.is
    c.loop-piece.invariant
    (c.in_ok-apply_all.ensures ∙ ap (λ l. after c.loop-piece.caps l) c.as_slice.ensures.value)
