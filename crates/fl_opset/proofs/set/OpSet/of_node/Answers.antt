use Rattle.std.proofs.Common.{List, sym, subst}
use Rattle.std.specs.List.{Contains}
use Rattle.fl_opset.specs.declared.node_ops.NodeOps.{NodeOps}
use Rattle.fl_opset.specs.ByNode.{all_ops}
use Rattle.fl_opset.specs.laws.Members.{listed_in}
use Rattle.fl_opset.proofs.set.OpSet.of_node.Goals as goal

pub returns-clause-only : goal.returns-clause-only
returns-clause-only c = λ op has.
    let h = c.ops_of.ensures.only op has in
    ((listed_in _ c.args.self.now c.self.view_is op).0 (subst (λ (ns : List NodeOps). Contains (all_ops ns) op) c.deref.ensures.value h.0), h.1)

pub returns-clause-all : goal.returns-clause-all
returns-clause-all c = λ op in_self of.
    c.ops_of.ensures.all op (subst (λ (ns : List NodeOps). Contains (all_ops ns) op) (sym c.deref.ensures.value) ((listed_in _ c.args.self.now c.self.view_is op).1 in_self)) of
