use Rattle.std.proofs.Common.{◌≡◌, ◌∙◌, ap, [], ◌∷◌, ◌++◌}
use Rattle.std.specs.Arc.{arc_slice_items}
use Rattle.std.specs.List.{flat_map}
use Rattle.fl_labels.specs.SetBy as set
use Rattle.fl_bench.specs.parts.Changes.{after}
use Rattle.fl_bench.proofs.Changes.{after_piece}
use Rattle.fl_bench.proofs.history.History.add.Goals as goal
use Rattle.fl_bench.proofs.history.History.add.Goals.{then-len-ge-MANY+in_ok-close_block}
use Rattle.fl_bench.proofs.history.History.add.Goals.{else-len-ge-MANY}

pub returns-clause-ok : goal.returns-clause-ok
returns-clause-ok c =
    let same : c.if-len-ge-MANY.self ≡ c.args.self.now =
    elim c.if-len-ge-MANY.branch [
      | then-len-ge-MANY+in_ok-close_block w ↦ w.self-is ∙ w.close_block.ensures
      | else-len-ge-MANY w ↦ w.self-is
    ] in
    after_piece arc_slice_items (set.of_list (arc_slice_items c.self-2.inside.first))
    (flat_map arc_slice_items
    (flat_map arc_slice_items c.self-2.inside.groups.items ++ c.self-2.inside.blocks.items))
    c.self-2.inside.pieces.items _ c.args.piece
    (c.in_ok-push.ensures.items ∙ ap (λ l. l ++ c.args.piece ∷ []) c.in_ok-reserve_exact.ensures.items)
    ∙ ap (λ s. after s (arc_slice_items c.args.piece)) (c.self-2.view_is ∙ same)
