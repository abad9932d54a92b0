use Rattle.std.proofs.Common.{◌≡◌, ◌∙◌, ap, List, ◌++◌}
use Rattle.std.specs.Arc.{arc_slice_items}
use Rattle.std.specs.List.{flat_map}
use Rattle.fl_labels.specs.Cap.{cap_cmp}
use Rattle.fl_labels.specs.declared.cap.Cap.{Cap}
use Rattle.fl_labels.specs.SetBy as set
use Rattle.fl_bench.specs.parts.Changes.{after}
use Rattle.fl_bench.proofs.Changes.{after_both, after_groups}
use Rattle.fl_bench.proofs.history.History.to_set.Goals as goal

pub returns : goal.returns
returns c =
    let base = set.of_list {R = cap_cmp} (arc_slice_items c.self.inside.first) in
    let first : c.in_ok-caps.caps ≡ base = c.in_ok-caps.ensures
    ∙ ap (λ (l : List Cap). set.of_list {R = cap_cmp} l)
    (c.in_ok-from_slice.ensures.items ∙ c.as_slice.ensures.value) in
    after_both arc_slice_items base c.apply_blocks.new.caps _
    (flat_map arc_slice_items
    (flat_map arc_slice_items c.self.inside.groups.items ++ c.self.inside.blocks.items))
    c.self.inside.pieces.items
    (after_groups arc_slice_items arc_slice_items base c.apply_groups.new.caps _
    (flat_map arc_slice_items c.self.inside.groups.items) c.self.inside.blocks.items
    (c.in_ok-apply_groups.ensures
    ∙ ap (λ s. after s (flat_map arc_slice_items (flat_map arc_slice_items
    (flat_map arc_slice_items c.deref.result.now)))) first
    ∙ ap (λ l. after base (flat_map arc_slice_items (flat_map arc_slice_items
    (flat_map arc_slice_items l)))) c.deref.ensures.value)
    (c.in_ok-apply_blocks.ensures
    ∙ ap (λ l. after c.apply_groups.new.caps (flat_map arc_slice_items (flat_map arc_slice_items l)))
    c.deref-2.ensures.value))
    (c.in_ok-apply_pieces.ensures
    ∙ ap (λ l. after c.apply_blocks.new.caps (flat_map arc_slice_items l)) c.deref-3.ensures.value)
    ∙ c.self.view_is
