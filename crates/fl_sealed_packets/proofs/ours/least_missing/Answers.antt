use Rattle.std.proofs.Common.{ltb, arith, refl, rules}
use Rattle.std.proofs.lemmas.List.Sorted.{IsPartitionPoint-from_clause}
use Rattle.fl_ops.specs.declared.op.Op.{Op}
use Rattle.fl_sealed_packets.proofs.Rows.{numbers_parted, back_above, row_is, none_missing, first_missing}
use Rattle.fl_sealed_packets.proofs.ours.least_missing.Goals as goal

pub in_a_row-row-requires-clause-above : goal.in_a_row-row-requires-clause-above
in_a_row-row-requires-clause-above c =
    let ops = c.args.ops.now in
    let first = c.args.span.now.first.seq in
    let cut = c.split_at.ensures.back in
    let bound = c.partition_point.ensures.bound in
    let parted = numbers_parted ops c.split_at.result.1.now _ first bound cut c.requires.rise in
    let point = IsPartitionPoint-from_clause (λ (op : Op). ltb op.name.seq first) _ _ c.partition_point.ensures.partitioned parted (λ a r f k. search rules) in
    back_above ops c.split_at.result.1.now _ first bound cut point.1

pub returns-then-row-span : goal.returns-then-row-span
returns-then-row-span c =
    let ops = c.args.ops.now in
    let s = c.args.span.now in
    let cut = c.split_at.ensures.back in
    let bound = c.partition_point.ensures.bound in
    let parted = numbers_parted ops c.split_at.result.1.now _ s.first.seq bound cut c.requires.rise in
    let point = IsPartitionPoint-from_clause (λ (op : Op). ltb op.name.seq s.first.seq) _ _ c.partition_point.ensures.partitioned parted (λ a r f k. search rules) in
    let found = c.in_a_row-row.ensures in
    let row = row_is ops c.split_at.result.1.now _ s.first.seq bound cut _ found.inside found.row found.others point.0 in
    none_missing ops _ _ s row c.requires.node (omega (arith, c.if-row-span.true))

pub returns : goal.returns
returns c =
    let ops = c.args.ops.now in
    let s = c.args.span.now in
    let cut = c.split_at.ensures.back in
    let bound = c.partition_point.ensures.bound in
    let parted = numbers_parted ops c.split_at.result.1.now _ s.first.seq bound cut c.requires.rise in
    let point = IsPartitionPoint-from_clause (λ (op : Op). ltb op.name.seq s.first.seq) _ _ c.partition_point.ensures.partitioned parted (λ a r f k. search rules) in
    let found = c.in_a_row-row.ensures in
    let row = row_is ops c.split_at.result.1.now _ s.first.seq bound cut _ found.inside found.row found.others point.0 in
    first_missing ops _ _ s row c.requires.node (omega (arith, c.if-row-span.false)) _ refl refl
