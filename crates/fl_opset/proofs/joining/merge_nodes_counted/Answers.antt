use Rattle.std.proofs.Common.{refl, arith}
use Rattle.fl_opset.proofs.JoinedNodes.{new_ones}
use Rattle.fl_opset.proofs.joining.merge_nodes_counted.Goals as goal

pub overflow_add-result : goal.overflow_add-result
overflow_add-result c =
    let few = new_ones _ _ _ _ c.in_ok-added.added c.in_ok-added.ensures.ok refl c.in_ok-added.ensures.count in
    omega (arith, few, c.if-more-count.false, c.requires.second_counted)
