use Rattle.std.proofs.Common.{◌≡◌, true, sym, subst, ◌∙◌}
use Rattle.std.specs.Cmp.{Equal-is, tied_itself}
use Rattle.std.specs.Ordering.{eq_by_cmp}
use Rattle.fl_ops.specs.declared.op.Op.{Op}
use Rattle.fl_ops.specs.OpOrder.{op_cmp}
use Rattle.fl_ops.specs.OpLaws.{op_total, op_exact}
use Rattle.fl_registrar.proofs.awaited.is_op.Goals as goal

tied : (a b : Op) → a ≡ b → eq_by_cmp op_cmp a b ≡ true
tied a b e = subst (λ (x : Op). eq_by_cmp op_cmp a x ≡ true) e
    ((Equal-is (op_cmp a a)).1 (tied_itself op_total a))

pub returns : goal.returns
returns c = (
  λ fine. op_exact c.args.one c.args.other ((Equal-is (op_cmp c.args.one c.args.other)).0
      (sym c.eq.ensures ∙ fine)),
  λ e. c.eq.ensures ∙ tied c.args.one c.args.other e,
)
