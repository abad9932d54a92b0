use Rattle.fl_chains.proofs.Gifts.{open_gift}
use Rattle.fl_chains.proofs.giver.gift.Goals as goal

pub returns-in-Open : goal.returns-in-Open
returns-in-Open c = open_gift c.args.op.now c.in-Open.group c.in-Open.is
