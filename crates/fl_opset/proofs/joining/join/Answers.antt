use Rattle.std.proofs.Common.{sym, ap, subst, ◌∙◌, List, true}
use Rattle.std.specs.List.{insert_slice}
use Rattle.std.specs.Set.{sorted_merge}
use Rattle.fl_labels.specs.Arranged.{IsArranged}
use Rattle.fl_ops.specs.declared.op.Op.{Op}
use Rattle.fl_ops.specs.OpOrder.{op_cmp}
use Rattle.fl_opset.proofs.Gaps.{gap_merged}
use Rattle.fl_opset.proofs.JoinedNodes.{arranged_merge}
use Rattle.fl_opset.proofs.joining.join.Goals as goal

pub returns-in-Ok : goal.returns-in-Ok
returns-in-Ok c =
    c.in-Ok.ensures.ok
    ∙ ap (λ l. insert_slice l c.in-Some.place c.args.more.now) (sym c.deref.ensures.value)
    ∙ gap_merged _ _ c.in-Some.place c.in-Some.ensures.some
    ∙ ap (λ l. sorted_merge op_cmp true l c.args.more.now) c.deref.ensures.value

pub returns-in-Ok-extend_from_slice : goal.returns-in-Ok-extend_from_slice
returns-in-Ok-extend_from_slice c =
    arranged_merge c.args.own.now.items c.args.more.now c.arrange.new.items.items c.requires.own c.requires.more
    (subst (λ (l : List Op). IsArranged op_cmp l c.arrange.new.items.items) c.in-Ok-extend_from_slice.ensures.items c.arrange.ensures)
