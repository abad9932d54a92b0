use Rattle.fl_chains.proofs.Rooting.{told_among}
use Rattle.fl_chains.proofs.roots.owns.Goals as goal

pub returns : goal.returns
returns c = told_among c.args.owned.now c.args.cap c.contains.result c.contains.ensures.value
