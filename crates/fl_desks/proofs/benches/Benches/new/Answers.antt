use Rattle.std.proofs.Common.{arith}
use Rattle.fl_desks.proofs.Making.{first_turn, to_count}
use Rattle.fl_desks.proofs.benches.Benches.new.Goals as goal

pub invariant_of-result : goal.invariant_of-result
invariant_of-result c =
    let count = to_count _ c.loop-index.index c.loop-index.all.items c.loop-index.invariant in
    first_turn _ (omega (arith, count, c.loop-index.auto.index-end, c.ranges.count.fits))

pub returns-clause-count : goal.returns-clause-count
returns-clause-count c =
    let count = to_count _ c.loop-index.index c.loop-index.all.items c.loop-index.invariant in
    omega (arith, count, c.loop-index.auto.index-end, c.loop-index-test.false)
