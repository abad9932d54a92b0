use Rattle.std.proofs.Common.{◌<◌, leb, rules, length, refl, ap, ◌∙◌, arith}
use Rattle.std.proofs.lemmas.List.Sorted.{IsPartitionPoint-from_clause}
use Rattle.std.proofs.lemmas.List.{length-drop}
use Rattle.fl_opset.proofs.Names.{nodes_parted}
use Rattle.fl_opset.proofs.SplitNodes.{none_split, first_within, more_split}
use Rattle.fl_opset.proofs.joining.by_node_of.Goals as goal

pub loop-first-init : goal.loop-first-init
loop-first-init c = none_split c.args.ops.now c.new-nodes.result.items c.requires c.new-nodes.ensures.items

pub loop-first-smaller : goal.loop-first-smaller
loop-first-smaller c =
    let rest = c.loop-first.rest.now in
    let end = c.partition_point-end.result in
    let point = IsPartitionPoint-from_clause (λ op. leb op.name.node c.in-Some.first.now.name.node) _ _ c.partition_point-end.ensures.partitioned (nodes_parted rest c.loop-first.invariant.rise c.in-Some.first.now.name.node) (λ a r f k. search rules) in
    let within : 0 < end = first_within c.args.ops.now c.loop-first.nodes.items rest c.loop-first.invariant c.in-Some.first.now c.in-Some.ensures.item.3.0 c.in-Some.ensures.item.3.1 end c.partition_point-end.ensures.bound point in
    omega (arith, c.partition_point-end.ensures.bound, ap length c.split_at.ensures.back, length-drop end rest)

pub loop-first-preserved : goal.loop-first-preserved
loop-first-preserved c =
    let rest = c.loop-first.rest.now in
    let end = c.partition_point-end.result in
    let point = IsPartitionPoint-from_clause (λ op. leb op.name.node c.in-Some.first.now.name.node) _ _ c.partition_point-end.ensures.partitioned (nodes_parted rest c.loop-first.invariant.rise c.in-Some.first.now.name.node) (λ a r f k. search rules) in
    more_split c.args.ops.now c.loop-first.nodes.items rest c.loop-first.invariant c.in-Some.first.now c.in-Some.ensures.item.3.0 c.in-Some.ensures.item.3.1 end c.partition_point-end.ensures.bound point
    _ refl (c.in_ok-ops.ensures.items ∙ c.split_at.ensures.front) _ _ c.in_ok-push.ensures.items c.split_at.ensures.back
