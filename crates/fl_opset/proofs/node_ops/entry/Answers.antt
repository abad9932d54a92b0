use Rattle.std.proofs.Common.{◌≢◌, List, sym, ap, ◌∙◌, subst}
use Rattle.std.specs.List.{All, Contains}
use Rattle.std.proofs.lemmas.List.Elements.{All-contains_itself}
use Rattle.fl_ops.specs.declared.op.Op.{Op}
use Rattle.fl_opset.specs.declared.node_ops.NodeOps.{NodeOps}
use Rattle.fl_opset.specs.ByNode.{all_ops, AreByNode}
use Rattle.fl_opset.proofs.ByNode.{IsNodePlace, missed_node, all_none_of_node, empty_of_node, insert_by_node, all_insert_none, each_kept}
use Rattle.fl_opset.proofs.MergeLemmas.{on_error}
use Rattle.fl_opset.proofs.node_ops.entry.Goals as goal

pub returns-in_err-insert-in-Err-clause-lacking : goal.returns-in_err-insert-in-Err-clause-lacking
returns-in_err-insert-in-Err-clause-lacking c =
    let a : AreByNode c.deref.result.now = subst AreByNode (sym c.deref.ensures.value) c.requires in
    let at = missed_node c.deref.result.now c.args.node c.in-Err.place a c.in-Err.ensures.bound (c.in-Err.ensures.position a.rise) in
    on_error c.from_residual.result (subst (λ (ns : List NodeOps). All (λ (op : Op). op.name.node ≢ c.args.node) (all_ops ns)) c.deref.ensures.value (all_none_of_node c.deref.result.now c.args.node c.in-Err.place a at))

pub returns-in_ok-insert-in-Err-clause-by_node : goal.returns-in_ok-insert-in-Err-clause-by_node
returns-in_ok-insert-in-Err-clause-by_node c =
    let a : AreByNode c.deref.result.now = subst AreByNode (sym c.deref.ensures.value) c.requires in
    let at = missed_node c.deref.result.now c.args.node c.in-Err.place a c.in-Err.ensures.bound (c.in-Err.ensures.position a.rise) in
    subst AreByNode (sym c.in_ok-insert-in-Err.ensures.items)
    (insert_by_node c.args.nodes.now.items c.in-Err.place _ (subst (λ (ns : List NodeOps). IsNodePlace ns c.args.node c.in-Err.place) c.deref.ensures.value at)
    (empty_of_node _ c.new.ensures.items) c.requires)

pub returns-in_ok-insert-in-Err-clause-same : goal.returns-in_ok-insert-in-Err-clause-same
returns-in_ok-insert-in-Err-clause-same c =
    ap (λ ns. all_ops ns) c.in_ok-insert-in-Err.ensures.items ∙ all_insert_none c.args.nodes.now.items c.in-Err.place _ c.new.ensures.items

pub returns-in_err-insert-in-Err-clause-kept : goal.returns-in_err-insert-in-Err-clause-kept
returns-in_err-insert-in-Err-clause-kept c =
    subst (λ (ns : List NodeOps). All (Contains ns) c.args.nodes.now.items) (sym c.in_err-insert-in-Err.ensures.items) (All-contains_itself c.args.nodes.now.items)

pub returns-in_ok-insert-in-Err-clause-kept : goal.returns-in_ok-insert-in-Err-clause-kept
returns-in_ok-insert-in-Err-clause-kept c =
    subst (λ (ns : List NodeOps). All (Contains ns) c.args.nodes.now.items) (sym c.in_ok-insert-in-Err.ensures.items) (each_kept c.args.nodes.now.items c.in-Err.place _)

pub returns-in-Ok-clause-kept : goal.returns-in-Ok-clause-kept
returns-in-Ok-clause-kept c = All-contains_itself c.args.nodes.now.items
