use Rattle.std.proofs.Common.{◌≡◌, take}
use Rattle.std.specs.Arc.{arc_slice_items}
use Rattle.std.specs.List.{flat_map}
use Rattle.fl_bench.specs.parts.Changes.{after}
use Rattle.fl_bench.proofs.history.apply_groups.Given as goal

abbrev pub invariant-loop-group : goal.invariant-loop-group
invariant-loop-group l =
    let blocks = flat_map arc_slice_items (take l.group-index l.groups) in
    let pieces = flat_map arc_slice_items blocks in
    l.caps ≡ after l.initial.caps (flat_map arc_slice_items pieces)
