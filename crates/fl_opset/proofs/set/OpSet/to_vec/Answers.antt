use Rattle.std.proofs.Common.{◌++◌, sym, ap, ◌∙◌}
use Rattle.fl_labels.specs.SetBy.{members, members-of_list}
use Rattle.fl_ops.specs.OpLaws.{op_total, op_exact}
use Rattle.std.proofs.lemmas.Bool.{false≢true}
use Rattle.fl_labels.specs.laws.SortedVec.{len_listed}
use Rattle.fl_opset.specs.ByNode.{all_ops}
use Rattle.fl_opset.proofs.MergeLemmas.{on_error}
use Rattle.fl_opset.proofs.Wants.{counted_some, listed_some}
use Rattle.fl_opset.proofs.set.OpSet.to_vec.Goals as goal

pub returns-clause-ok : goal.returns-clause-ok
returns-clause-ok c =
    c.in_ok-append_to.ensures.ok ∙ ap (λ l. l ++ all_ops c.deref.result.now) c.in_ok-ops.ensures.items ∙ ap (λ ns. all_ops ns) c.deref.ensures.value
    ∙ sym (members-of_list op_total op_exact _ c.self.invariant.kept.rises) ∙ ap members c.self.view_is

pub returns-in_err-ops-clause-wants : goal.returns-in_err-ops-clause-wants
returns-in_err-ops-clause-wants c =
    on_error c.from_residual.result
    (counted_some _ _ _ (λ none. false≢true (c.in_err-ops.ensures.succeeds none)) c.self.invariant.counted (len_listed op_total op_exact _ _ c.self.invariant.kept.rises c.self.view_is))

pub returns-in_err-append_to-clause-wants : goal.returns-in_err-append_to-clause-wants
returns-in_err-append_to-clause-wants c =
    on_error c.from_residual-in_err-append_to.result
    (listed_some _ _ _ c.in_err-append_to.ensures.wants (ap (λ ns. all_ops ns) c.deref.ensures.value) (len_listed op_total op_exact _ _ c.self.invariant.kept.rises c.self.view_is))
