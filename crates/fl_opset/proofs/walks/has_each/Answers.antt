use Rattle.std.proofs.Common.{sym, ◌∙◌}
use Rattle.fl_opset.proofs.Each.{more_within, not_within, all_within}
use Rattle.fl_opset.proofs.walks.has_each.Goals as goal

pub loop-other-preserved : goal.loop-other-preserved
loop-other-preserved c =
    let only = c.ops_of.ensures.only in
    more_within c.args.nodes.now c.args.others.now c.loop-other.other-index c.other-item.result c.deref.result.now c.ops_of.result.now c.first_outside.result c.loop-other-test.true c.other-item.is c.deref.ensures.value c.first_outside.ensures
    (sym c.is_some.ensures ∙ c.if-is_some.false) (λ op has. (only op has).0) c.loop-other.invariant

pub returns-then-is_some : goal.returns-then-is_some
returns-then-is_some c =
    not_within c.args.nodes.now c.args.others.now c.loop-other.other-index c.other-item.result c.deref.result.now c.ops_of.result.now c.first_outside.result c.loop-other-test.true c.other-item.is c.deref.ensures.value c.first_outside.ensures
    (sym c.is_some.ensures ∙ c.if-is_some.true) c.requires.those c.ops_of.ensures.all

pub returns : goal.returns
returns c = all_within c.args.nodes.now c.args.others.now c.loop-other.other-index c.loop-other-test.false c.loop-other.invariant
