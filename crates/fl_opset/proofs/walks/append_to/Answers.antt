use Rattle.std.proofs.Common.{arith}
use Rattle.fl_opset.proofs.MergeLemmas.{on_error}
use Rattle.fl_opset.proofs.Wants.{some_in_all}
use Rattle.fl_opset.proofs.walks.append_to.Goals as goal

pub returns-in_err-extend_from_slice-clause-wants : goal.returns-in_err-extend_from_slice-clause-wants
returns-in_err-extend_from_slice-clause-wants c =
    on_error c.from_residual.result
    (some_in_all c.args.nodes.now c.loop-it.it-index c.it-item.result c.deref.result.now c.loop-it-test.true c.it-item.is c.deref.ensures.value
    (omega (arith, c.in_err-extend_from_slice.ensures.full, c.loop-it.list.ok, c.loop-it.list.small)))
