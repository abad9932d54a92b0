use Rattle.std.proofs.Common.{◌≡◌, ltb, leb, rules}
use Rattle.std.proofs.lemmas.Fn.{always_returns_same}
use Rattle.std.proofs.lemmas.List.Sorted.{IsPartitionedBy-leb, IsPartitionedBy-ltb}
use Rattle.fl_opset.specs.declared.node_ops.NodeOps.{NodeOps}
use Rattle.fl_opset.proofs.Between.{numbers_rise, front_numbers, kept_between}
use Rattle.fl_opset.proofs.walks.nodes_between.Goals as goal

pub returns : goal.returns
returns c =
    let rise = numbers_rise c.args.nodes.now c.requires in
    let rises = front_numbers c.args.nodes.now _ _ c.split_at.ensures.front rise in
    kept_between c.args.first c.args.last c.args.nodes.now _ _ _ _ c.partition_point.ensures.bound c.partition_point-2.ensures.bound c.split_at.ensures.front c.split_at-2.ensures.back
    (c.partition_point.ensures.partitioned (λ it. leb it.node c.args.last) (always_returns_same _ (λ a r. r ≡ leb a.0.now.node c.args.last) _ (λ a r f k. search rules))
    (IsPartitionedBy-leb (λ (it : NodeOps). it.node) _ _ rise))
    (c.partition_point-2.ensures.partitioned (λ it. ltb it.node c.args.first) (always_returns_same _ (λ a r. r ≡ ltb a.0.now.node c.args.first) _ (λ a r f k. search rules))
    (IsPartitionedBy-ltb (λ (it : NodeOps). it.node) _ _ rises))
