use Rattle.std.proofs.Common.{◌∙◌, ap}
use Rattle.std.specs.Arc.{arc_slice_items}
use Rattle.std.specs.List.{flat_map}
use Rattle.fl_bench.specs.parts.Changes.{after}
use Rattle.fl_bench.proofs.Changes.{groups_more}
use Rattle.fl_bench.proofs.history.apply_groups.Goals as goal

pub loop-group-preserved : goal.loop-group-preserved
loop-group-preserved c =
    groups_more arc_slice_items arc_slice_items arc_slice_items _ _ _ c.args.groups.now _ _
    c.loop-group-test.true c.group-item.is c.loop-group.invariant
    (c.in_ok-apply_blocks.ensures
    ∙ ap (λ l. after c.loop-group.caps (flat_map arc_slice_items (flat_map arc_slice_items l)))
    c.as_slice.ensures.value)
