use Rattle.std.proofs.Common.{sym, arith, bit_or, ◌∙◌}
use Rattle.fl_closure.proofs.OneRow.{join_last, join_new, join_other, new_first, new_last, new_other}
use Rattle.fl_closure.proofs.row.Row.add.Goals as goal

pub returns-then-eq-clause-ok : goal.returns-then-eq-clause-ok
returns-then-eq-clause-ok c = join_last c.args.self.now c.args.block (sym c.eq.ensures ∙ c.if-eq.true)

pub returns-then-eq-clause-new : goal.returns-then-eq-clause-new
returns-then-eq-clause-new c = new_last c.args.self.now c.args.block (omega arith) (sym c.eq.ensures ∙ c.if-eq.true)

pub returns-in_default-clause-ok : goal.returns-in_default-clause-ok
returns-in_default-clause-ok c =
    join_new c.args.self.now c.args.block c.get_mut.follows.lender-at-none c.insert.new.self (sym c.eq.ensures ∙ c.if-eq.false) (sym c.in_default.ensures.value)
    c.get_mut.follows.holds-at-none c.in_ok-insert.ensures.updates

pub returns-in_default-clause-new : goal.returns-in_default-clause-new
returns-in_default-clause-new c = new_first c.args.self.now c.args.block (sym c.eq.ensures ∙ c.if-eq.false) (sym c.in_default.ensures.value)

pub returns-clause-ok : goal.returns-clause-ok
returns-clause-ok c =
    join_other c.args.self.now c.args.block c.in-Some.bits.now (c.get_mut.follows.lender (bit_or c.in-Some.bits.now c.args.block.bits)) (sym c.eq.ensures ∙ c.if-eq.false)
    (sym c.in-Some.ensures.value) (c.get_mut.follows.holds _).3

pub returns-clause-new : goal.returns-clause-new
returns-clause-new c = new_other c.args.self.now c.args.block c.in-Some.bits.now (omega arith) (sym c.eq.ensures ∙ c.if-eq.false) (sym c.in-Some.ensures.value)
