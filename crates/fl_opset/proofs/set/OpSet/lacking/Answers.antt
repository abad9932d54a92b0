use Rattle.std.proofs.Common.{◌≡◌, ◌<◌, IfOk, OnErr, List, length, take, sym, ap, subst}
use Rattle.fl_ops.specs.declared.op.Op.{Op}
use Rattle.fl_opset.specs.ByNode.{all_ops, AreByNode}
use Rattle.fl_opset.proofs.Whole.{lacking_found}
use Rattle.fl_opset.proofs.set.OpSet.lacking.Goals as goal

pub lacking_of-requires : goal.lacking_of-requires
lacking_of-requires c = subst AreByNode (sym c.deref.ensures.value) c.self.invariant.by_node

pub returns-clause-ok : goal.returns-clause-ok
returns-clause-ok c =
    subst (λ (l : List Op). IfOk c.lacking_of.result (λ ops. ops.items ≡ take c.args.most l))
    (lacking_found _ _ _ c.self.view_is (ap (λ ns. all_ops ns) c.deref.ensures.value) c.self.invariant.kept.rises c.args.window.now) c.lacking_of.ensures.ok

pub returns-clause-wants : goal.returns-clause-wants
returns-clause-wants c =
    subst (λ (l : List Op). OnErr c.lacking_of.result (0 < length (take c.args.most l)))
    (lacking_found _ _ _ c.self.view_is (ap (λ ns. all_ops ns) c.deref.ensures.value) c.self.invariant.kept.rises c.args.window.now) c.lacking_of.ensures.wants
