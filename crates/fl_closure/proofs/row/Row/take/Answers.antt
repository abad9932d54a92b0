use Rattle.std.proofs.Common.{sym, arith, bit_and, ◌∙◌, ◌-◌}
use Rattle.fl_closure.proofs.OneRow.{part_last, part_other}
use Rattle.fl_closure.proofs.row.Row.take.Goals as goal

pub returns-then-eq : goal.returns-then-eq
returns-then-eq c = part_last c.args.self.now c.args.block (omega arith) (sym c.eq.ensures ∙ c.if-eq.true)

pub returns-in-Some : goal.returns-in-Some
returns-in-Some c =
    part_other c.args.self.now c.args.block c.in-Some.bits.now (c.get_mut.follows.lender (bit_and c.in-Some.bits.now (4294967295 - c.args.block.bits))) (sym c.eq.ensures ∙ c.if-eq.false)
    (sym c.in-Some.ensures.value) (omega arith) (c.get_mut.follows.holds _).3
