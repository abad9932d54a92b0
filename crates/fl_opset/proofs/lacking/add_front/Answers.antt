use Rattle.std.proofs.Common.{◌-◌, arith}
use Rattle.std.proofs.lemmas.Result.{on_err_weaker}
use Rattle.fl_opset.proofs.Front.{front_added, all_added, some_added}
use Rattle.fl_opset.proofs.lacking.add_front.Goals as goal

pub returns-clause-ok : goal.returns-clause-ok
returns-clause-ok c =
    all_added c.args.list.now.items c.split_at.result.0.now _ _ (front_added c.args.most (c.args.most - c.len.result) _ c.args.list.now.items c.args.ops.now _ (omega (arith, c.len.ensures, c.args.list.now.ok)) c.requires c.min.ensures c.split_at.ensures.front) c.extend_from_slice.result c.extend_from_slice.ensures.items

pub returns-clause-wants : goal.returns-clause-wants
returns-clause-wants c =
    on_err_weaker c.extend_from_slice.result (λ full.
    some_added c.args.list.now.items c.split_at.result.0.now c.args.list.now.items _ (front_added c.args.most (c.args.most - c.len.result) _ c.args.list.now.items c.args.ops.now _ (omega (arith, c.len.ensures, c.args.list.now.ok)) c.requires c.min.ensures c.split_at.ensures.front) (omega (arith, full, c.args.list.now.ok, c.args.list.now.small)))
    c.extend_from_slice.ensures.full
