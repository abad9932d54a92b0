use Rattle.std.proofs.Common.{sym, arith, bit_or}
use Rattle.fl_closure.proofs.Rowing.{join_among, new_among}
use Rattle.fl_closure.proofs.rows.add_to_all.Goals as goal

pub returns-clause-ok : goal.returns-clause-ok
returns-clause-ok c =
    join_among c.args.row.now (c.get_mut.follows.lender (bit_or c.in-Some.bits.now c.args.block.bits)) c.args.block c.in-Some.bits.now (sym c.in-Some.ensures.value) (c.get_mut.follows.holds _).3

pub returns-clause-new : goal.returns-clause-new
returns-clause-new c = new_among c.args.row.now c.args.block c.in-Some.bits.now (omega arith) (sym c.in-Some.ensures.value)
