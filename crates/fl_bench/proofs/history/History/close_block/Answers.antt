use Rattle.std.proofs.Common.{◌≡◌, ◌∙◌, ap, subst, [], ◌∷◌, ◌++◌}
use Rattle.std.specs.Arc.{arc_slice_items}
use Rattle.std.specs.List.{flat_map}
use Rattle.fl_labels.specs.SetBy as set
use Rattle.fl_bench.specs.parts.Changes.{after}
use Rattle.fl_bench.proofs.Changes.{AreAlike, flat_closed, block_behind}
use Rattle.fl_bench.proofs.history.History.close_block.Goals as goal
use Rattle.fl_bench.proofs.history.History.close_block.Goals.{then-len-ge-MANY+in_ok-close_group}
use Rattle.fl_bench.proofs.history.History.close_block.Goals.{else-len-ge-MANY}

pub returns : goal.returns
returns c =
    let same : c.if-len-ge-MANY.self ≡ c.args.self.now =
    elim c.if-len-ge-MANY.branch [
      | then-len-ge-MANY+in_ok-close_group w ↦ w.self-is ∙ w.close_group.ensures
      | else-len-ge-MANY w ↦ w.self-is
    ] in
    let block = c.in_ok-block.block in
    ap (λ l. after (set.of_list (arc_slice_items c.self-2.inside.first)) l)
    (flat_closed arc_slice_items arc_slice_items
    (flat_map arc_slice_items c.self-2.inside.groups.items ++ c.self-2.inside.blocks.items) _ block
    c.self-2.inside.pieces.items _
    (block_behind (flat_map arc_slice_items c.self-2.inside.groups.items)
    c.self-2.inside.blocks.items _ block
    (c.in_ok-push.ensures.items ∙ ap (λ l. l ++ block ∷ []) c.in_ok-reserve_exact.ensures.items))
    c.clear.ensures.items
    (subst (λ l. AreAlike arc_slice_items l (arc_slice_items block)) c.deref.ensures.value
    c.in_ok-block.ensures.ok))
    ∙ c.self-2.view_is ∙ same
