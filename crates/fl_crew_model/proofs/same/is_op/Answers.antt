use Rattle.std.proofs.Common.{rules, ◌≡◌, ◌↔◌, ◌∙◌, sym, refl}
use Rattle.std.specs.Bool.{IsTrue}
use Rattle.std.specs.Ordering.{eq_by_cmp}
use Rattle.fl_labels.specs.laws.Orders.{equals}
use Rattle.fl_ops.specs.OpOrder.{op_cmp}
use Rattle.fl_ops.specs.OpLaws.{op_total, op_exact}
use Rattle.fl_crew_model.proofs.same.is_op.Goals as goal

pub returns : goal.returns
returns c =
    let test = eq_by_cmp op_cmp c.args.one c.args.other in
    let both : IsTrue test ↔ (c.args.one ≡ c.args.other) =
    equals op_total op_exact (eq_by_cmp op_cmp) (λ a b. refl) c.args.one c.args.other in
    let same : c.eq.result ≡ eq_by_cmp op_cmp c.args.one c.args.other = search rules in
    (λ fine. both.0 (sym same ∙ fine), λ e. same ∙ both.1 e)
