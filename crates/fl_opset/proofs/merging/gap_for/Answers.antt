use Rattle.std.proofs.Common.{◌≡◌, List, sym, subst, Less}
use Rattle.std.proofs.lemmas.List.{take_rest}
use Rattle.std.specs.List.{All}
use Rattle.std.specs.List.Sorted.{IsStrictlySortedBy}
use Rattle.fl_labels.specs.laws.Rising.{searchable}
use Rattle.fl_ops.specs.declared.op.Op.{Op}
use Rattle.fl_ops.specs.OpLaws.{op_total}
use Rattle.fl_ops.specs.OpOrder.{op_cmp}
use Rattle.fl_opset.proofs.Gaps.{rest_rises, tied, fits, too_wide}
use Rattle.fl_opset.proofs.merging.gap_for.Goals as goal

pub returns-in_default-place_of-clause-none : goal.returns-in_default-place_of-clause-none
returns-in_default-place_of-clause-none c =
    tied c.args.left.now c.args.right.now c.in-Some.first.now c.in-Some.ensures.item.3.1 c.in-Some.ensures.item.3.0 c.in_default-place_of.field-0 c.in_default-place_of.ensures.bound (c.in_default-place_of.ensures.position c.requires.first)

pub all_below-requires-clause-second : goal.all_below-requires-clause-second
all_below-requires-clause-second c =
    subst (IsStrictlySortedBy op_cmp) (sym (take_rest c.args.left.now c.in-Err.place)) (rest_rises op_cmp c.args.left.now c.in-Err.place c.requires.first)

pub returns-then-all_below-clause-some : goal.returns-then-all_below-clause-some
returns-then-all_below-clause-some c =
    fits c.args.left.now c.args.right.now c.in-Some.first.now c.in-Some.ensures.item.3.1 c.in-Some.ensures.item.3.0 c.in-Err.place (c.in-Err.ensures.position c.requires.first (searchable op_total c.args.left.now c.in-Some.first.now c.requires.first)) c.in-Err.ensures.bound c.requires.second
    (subst (λ (l : List Op). All (λ (y : Op). All (λ (x : Op). op_cmp y x ≡ Less) l) c.args.right.now) (take_rest c.args.left.now c.in-Err.place) (c.all_below.ensures.below c.if-all_below.true))

pub returns-else-all_below-clause-none : goal.returns-else-all_below-clause-none
returns-else-all_below-clause-none c =
    too_wide c.args.left.now c.args.right.now c.in-Some.first.now c.in-Some.ensures.item.3.1 c.in-Some.ensures.item.3.0 c.in-Err.place (c.in-Err.ensures.position c.requires.first (searchable op_total c.args.left.now c.in-Some.first.now c.requires.first))
    (subst (λ (l : List Op). ¬ All (λ (y : Op). All (λ (x : Op). op_cmp y x ≡ Less) l) c.args.right.now) (take_rest c.args.left.now c.in-Err.place) (c.all_below.ensures.not_below c.if-all_below.false))
