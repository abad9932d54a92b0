use Rattle.std.proofs.Common.{rules, ◌≡◌, true, ap}
use Rattle.std.specs.Cmp.{Equal-is}
use Rattle.std.specs.Ordering.{eq_by_cmp}
use Rattle.fl_ops.specs.OpOrder.{op_cmp}
use Rattle.fl_ops.specs.OpLaws.{op_exact}
use Rattle.fl_ops.specs.declared.op.Op.{Op}
use Rattle.fl_worker.proofs.checks.does.Goals as goal

pub returns : goal.returns
returns c fine =
    let wanted : Op = record { name = c.args.op.name; body = c.args.body } in
    let e : eq_by_cmp op_cmp c.args.op wanted ≡ true = search rules in
    ap (λ o. o.body) (op_exact c.args.op wanted ((Equal-is (op_cmp c.args.op wanted)).0 e))
