use Rattle.std.proofs.Common.{List, sym, ap, ◌∙◌, subst}
use Rattle.std.specs.List.{Contains}
use Rattle.fl_ops.specs.declared.op.Op.{Op}
use Rattle.fl_ops.specs.OpOrder.{op_cmp}
use Rattle.fl_opset.specs.declared.node_ops.NodeOps.{NodeOps}
use Rattle.fl_opset.proofs.ByNode.{rise_none, found_node, missed_node, in_all, own_node, in_entry, none_of_node}
use Rattle.fl_opset.proofs.node_ops.ops_of.Goals as goal

pub returns-in-Ok-clause-only : goal.returns-in-Ok-clause-only
returns-in-Ok-clause-only c = λ op has.
    let it = c.index-nodes-place.result in
    let h = subst (λ (xs : List Op). Contains xs op) (c.deref.ensures.value ∙ ap (λ (m : NodeOps). m.ops.items) (sym c.index-nodes-place.is)) has in (
      in_all c.args.nodes.now c.in-Ok.place it op c.in-Ok.ensures.bound c.index-nodes-place.is h,
      own_node c.args.nodes.now c.in-Ok.place it op c.requires c.in-Ok.ensures.bound c.index-nodes-place.is h
          ∙ found_node c.args.nodes.now c.args.node c.in-Ok.place it (c.in-Ok.ensures.position c.requires.rise) c.index-nodes-place.is,
    )

pub returns-in-Ok-clause-all : goal.returns-in-Ok-clause-all
returns-in-Ok-clause-all c = λ op has of.
    let it = c.index-nodes-place.result in
    subst (λ (xs : List Op). Contains xs op) (sym (c.deref.ensures.value ∙ ap (λ (m : NodeOps). m.ops.items) (sym c.index-nodes-place.is)))
    (in_entry c.args.nodes.now c.in-Ok.place it op c.requires c.in-Ok.ensures.bound c.index-nodes-place.is
    (of ∙ sym (found_node c.args.nodes.now c.args.node c.in-Ok.place it (c.in-Ok.ensures.position c.requires.rise) c.index-nodes-place.is)) has)

pub returns-in-Err-clause-rise : goal.returns-in-Err-clause-rise
returns-in-Err-clause-rise c = rise_none op_cmp

pub returns-in-Err-clause-all : goal.returns-in-Err-clause-all
returns-in-Err-clause-all c = λ op has of.
    absurd (none_of_node c.args.nodes.now c.args.node c.in-Err.field-0 op c.requires
    (missed_node c.args.nodes.now c.args.node c.in-Err.field-0 c.requires c.in-Err.ensures.bound (c.in-Err.ensures.position c.requires.rise)) has of)
