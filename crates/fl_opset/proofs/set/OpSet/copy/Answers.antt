use Rattle.fl_labels.specs.laws.SortedVec.{len_listed}
use Rattle.fl_ops.specs.OpLaws.{op_total, op_exact}
use Rattle.fl_opset.proofs.MergeLemmas.{on_error}
use Rattle.fl_opset.proofs.Wants.{counted_some}
use Rattle.fl_opset.proofs.set.OpSet.copy.Goals as goal

pub returns-in_err-nodes-clause-wants : goal.returns-in_err-nodes-clause-wants
returns-in_err-nodes-clause-wants c =
    on_error c.from_residual.result
    (counted_some _ _ _ c.if-self-eq0.false c.self.invariant.counted (len_listed op_total op_exact _ _ c.self.invariant.kept.rises c.self.view_is))

pub returns-in_err-spans-clause-wants : goal.returns-in_err-spans-clause-wants
returns-in_err-spans-clause-wants c =
    on_error c.from_residual-in_err-spans.result
    (counted_some _ _ _ c.if-self-eq0.false c.self.invariant.counted (len_listed op_total op_exact _ _ c.self.invariant.kept.rises c.self.view_is))
