use Rattle.fl_closure.proofs.Closing.{open_gift}
use Rattle.fl_closure.proofs.closed.gift.Goals as goal

pub returns-in-Open : goal.returns-in-Open
returns-in-Open c = open_gift c.args.op.now c.in-Open.group c.in-Open.is
