use Rattle.std.proofs.Common.{sym, ◌∙◌}
use Rattle.fl_ops.specs.OpLaws.{op_total}
use Rattle.fl_opset.proofs.Partition.{at_end}
use Rattle.fl_opset.proofs.search.place_of.Goals as goal

pub returns-then-lt-clause-position : goal.returns-then-lt-clause-position
returns-then-lt-clause-position c = λ up _.
    at_end op_total c.args.ops.now c.args.op.now c.in-Some.last.now up c.in-Some.ensures.item.3.1 (sym c.lt.ensures ∙ c.if-lt.true)
