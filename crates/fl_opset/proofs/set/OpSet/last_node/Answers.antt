use Rattle.std.proofs.Common.{◌≡◌, ◌≤◌, ℕ, List, subst}
use Rattle.std.specs.List.{All, Any}
use Rattle.std.proofs.lemmas.Option.{IfSome_then}
use Rattle.fl_labels.specs.laws.SortedVec.{every_member, item_member}
use Rattle.fl_ops.specs.declared.op.Op.{Op}
use Rattle.fl_ops.specs.OpLaws.{op_total, op_exact}
use Rattle.fl_opset.specs.declared.node_ops.NodeOps.{NodeOps}
use Rattle.fl_opset.specs.ByNode.{all_ops}
use Rattle.fl_opset.proofs.set.OpSet.last_node.Goals as goal

pub returns-clause-some : goal.returns-clause-some
returns-clause-some c =
    let P : List NodeOps → ℕ → Type 0 = λ ns last. All (λ op. op.name.node ≤ last) (all_ops ns) × Any (λ op. op.name.node ≡ last) (all_ops ns) in
    IfSome_then c.last_node.result c.last_node.ensures.some (λ last h.
    let g = subst (λ (ns : List NodeOps). P ns last) c.deref.ensures.value h in
    let w = g.1 in (
      every_member op_total op_exact (λ (op : Op). op.name.node ≤ last) _ c.args.self.now c.self.view_is g.0,
      (w.1, item_member op_total op_exact _ c.args.self.now c.self.view_is w.1 w.0 w.2 w.3, w.4),
    ))
