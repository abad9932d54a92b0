use Rattle.std.proofs.Common.{◌≡◌, take}
use Rattle.std.specs.Arc.{arc_slice_items}
use Rattle.std.specs.List.{flat_map}
use Rattle.fl_bench.specs.parts.Changes.{after}
use Rattle.fl_bench.proofs.history.apply_pieces.Given as goal

abbrev pub invariant-loop-piece : goal.invariant-loop-piece
invariant-loop-piece l =
    l.caps ≡ after l.initial.caps (flat_map arc_slice_items (take l.piece-index l.pieces))
