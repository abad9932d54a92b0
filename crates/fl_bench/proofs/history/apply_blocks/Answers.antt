use Rattle.std.proofs.Common.{◌∙◌, ap}
use Rattle.std.specs.Arc.{arc_slice_items}
use Rattle.std.specs.List.{flat_map}
use Rattle.fl_bench.specs.parts.Changes.{after}
use Rattle.fl_bench.proofs.Changes.{blocks_more}
use Rattle.fl_bench.proofs.history.apply_blocks.Goals as goal

pub loop-block-preserved : goal.loop-block-preserved
loop-block-preserved c =
    blocks_more arc_slice_items arc_slice_items _ _ _ c.args.blocks.now _ _ c.loop-block-test.true
    c.block-item.is c.loop-block.invariant
    (c.in_ok-apply_pieces.ensures
    ∙ ap (λ l. after c.loop-block.caps (flat_map arc_slice_items l)) c.as_slice.ensures.value)
