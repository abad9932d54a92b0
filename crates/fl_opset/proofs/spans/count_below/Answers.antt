use Rattle.std.proofs.Common.{ltb, rules, refl, ap, arith}
use Rattle.std.proofs.lemmas.List.Sorted.{IsPartitionPoint-from_clause, IsPartitionedBy-ltb}
use Rattle.fl_opset.specs.declared.span.Span.{Span}
use Rattle.fl_opset.specs.Rank.{name_rank, last_rank}
use Rattle.fl_opset.proofs.Lacks.{cut_below, cut_above}
use Rattle.fl_opset.proofs.Walk.{lasts_rise}
use Rattle.fl_opset.proofs.Ends.{all_end, others_end}
use Rattle.fl_opset.proofs.spans.count_below.Goals as goal

pub returns-clause-below : goal.returns-clause-below
returns-clause-below c =
    let point = IsPartitionPoint-from_clause (λ s. ltb (last_rank s) c.args.low) _ _ c.partition_point.ensures.partitioned (IsPartitionedBy-ltb last_rank _ _ (lasts_rise _ _ _ c.requires)) (λ a r f k. search rules) in
    cut_below last_rank _ _ _ c.partition_point.ensures.bound _ refl point.0

pub returns-clause-above : goal.returns-clause-above
returns-clause-above c =
    let point = IsPartitionPoint-from_clause (λ s. ltb (last_rank s) c.args.low) _ _ c.partition_point.ensures.partitioned (IsPartitionedBy-ltb last_rank _ _ (lasts_rise _ _ _ c.requires)) (λ a r f k. search rules) in
    cut_above last_rank _ _ _ c.partition_point.ensures.bound _ refl point.1

pub returns-then-last_rank_of-low-clause-below : goal.returns-then-last_rank_of-low-clause-below
returns-then-last_rank_of-low-clause-below c =
    all_end c.args.spans.now c.requires c.args.low c.index-spans-count.result c.if-count-gt0.true c.index-spans-count.is
    (omega (arith, c.last_rank_of.ensures, ap last_rank c.index-spans-count.is, c.if-last_rank_of-low.true))

pub returns-then-rank-low-clause-below : goal.returns-then-rank-low-clause-below
returns-then-rank-low-clause-below c =
    others_end c.args.spans.now c.requires c.args.low c.index-spans-count.result c.if-count-gt0.true c.index-spans-count.is
    (omega (arith, c.rank.ensures, ap (λ (s : Span). name_rank s.first) c.index-spans-count.is, c.if-rank-low.true))
