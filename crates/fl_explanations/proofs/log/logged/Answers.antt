use Rattle.fl_explanations.proofs.Parts.{part}
use Rattle.fl_explanations.proofs.log.logged.Goals as goal

pub returns : goal.returns
returns c =
    part c.args.place c.min-start.result c.min-count.result c.args.ops.now c.min-start.ensures
    c.min-count.ensures
