use Rattle.std.proofs.Common.{subst, rules}
use Rattle.std.specs.List.Sorted.{IsStrictlySortedBy}
use Rattle.std.specs.Ordering.{is_lt}
use Rattle.std.proofs.lemmas.List.Sorted.{IsPartitionPoint-from_clause}
use Rattle.fl_labels.specs.Name.{name_cmp}
use Rattle.fl_ops.specs.OpOrder.{op_cmp}
use Rattle.fl_gossip.specs.laws.Cutting.{front_rises}
use Rattle.fl_gossip.proofs.Fronts.{names_parted, from_there}
use Rattle.fl_gossip.proofs.ahead.from_name.Goals as goal

pub returns : goal.returns
returns c =
    let near = c.split_at.result.0.now in
    let up = front_rises op_cmp near c.split_at.result.1.now (subst (IsStrictlySortedBy op_cmp) c.split_at.ensures.by_index.0 c.requires) in
    let point = IsPartitionPoint-from_clause (λ op. is_lt (name_cmp op.name c.args.name)) _ _ c.partition_point.ensures.partitioned (names_parted near up c.args.name) (λ a r f k. search rules) in
    from_there c.args.ops.now near _ _ _ c.args.name c.requires c.bound.ensures.inside c.split_at.ensures.front c.partition_point.ensures.bound c.split_at-2.ensures.back point.0 point.1 c.bound.ensures.above
