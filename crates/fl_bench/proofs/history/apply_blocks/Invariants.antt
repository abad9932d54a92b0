use Rattle.std.proofs.Common.{◌≡◌, take}
use Rattle.std.specs.Arc.{arc_slice_items}
use Rattle.std.specs.List.{flat_map}
use Rattle.fl_bench.specs.parts.Changes.{after}
use Rattle.fl_bench.proofs.history.apply_blocks.Given as goal

abbrev pub invariant-loop-block : goal.invariant-loop-block
invariant-loop-block l =
    let pieces = flat_map arc_slice_items (take l.block-index l.blocks) in
    l.caps ≡ after l.initial.caps (flat_map arc_slice_items pieces)
