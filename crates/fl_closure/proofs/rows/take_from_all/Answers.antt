use Rattle.std.proofs.Common.{sym, arith, bit_and, ◌-◌}
use Rattle.fl_closure.proofs.Rowing.{part_among}
use Rattle.fl_closure.proofs.rows.take_from_all.Goals as goal

pub returns-in-Some : goal.returns-in-Some
returns-in-Some c =
    part_among c.args.row.now (c.get_mut.follows.lender (bit_and c.in-Some.bits.now (4294967295 - c.args.block.bits))) c.args.block c.in-Some.bits.now (omega arith) (sym c.in-Some.ensures.value) (c.get_mut.follows.holds _).3
