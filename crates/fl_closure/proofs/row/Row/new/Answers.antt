use Rattle.fl_closure.proofs.OneRow.{only_last}
use Rattle.fl_closure.proofs.row.Row.new.Goals as goal

pub returns : goal.returns
returns c = only_last c.args.block c.new.result c.new.ensures.empty
