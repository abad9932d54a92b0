use Rattle.std.proofs.Common.{◌∙◌, ap, subst, [], ◌∷◌, ◌++◌}
use Rattle.std.specs.Arc.{arc_slice_items}
use Rattle.std.specs.List.{flat_map}
use Rattle.fl_labels.specs.SetBy as set
use Rattle.fl_bench.specs.parts.Changes.{after}
use Rattle.fl_bench.proofs.Changes.{AreAlike, flat_closed}
use Rattle.fl_bench.proofs.history.History.close_group.Goals as goal

pub returns : goal.returns
returns c =
    let group = c.in_ok-group.group in
    ap (λ l. after (set.of_list (arc_slice_items c.self.inside.first))
    (flat_map arc_slice_items (l ++ c.self.inside.pieces.items)))
    (flat_closed arc_slice_items arc_slice_items c.self.inside.groups.items _ group
    c.self.inside.blocks.items _
    (c.in_ok-push.ensures.items ∙ ap (λ l. l ++ group ∷ []) c.in_ok-reserve_exact.ensures.items)
    c.clear.ensures.items
    (subst (λ l. AreAlike arc_slice_items l (arc_slice_items group)) c.deref.ensures.value
    c.in_ok-group.ensures.ok))
    ∙ c.self.view_is
