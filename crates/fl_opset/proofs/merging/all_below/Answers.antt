use Rattle.std.proofs.Common.{sym, ◌∙◌}
use Rattle.fl_ops.specs.OpLaws.{op_total}
use Rattle.fl_opset.proofs.MergeLemmas.{each_below}
use Rattle.fl_opset.proofs.merging.all_below.Goals as goal

pub returns-in-Some-Some-clause-below : goal.returns-in-Some-Some-clause-below
returns-in-Some-Some-clause-below c = λ less.
    each_below op_total c.args.left.now c.args.right.now c.in-Some-Some.last.now c.in-Some-Some.first.now c.requires.first c.requires.second c.in-Some-Some.ensures.item.3.1 c.in-Some-Some.ensures'.item.3.1 (sym c.lt.ensures ∙ less)
