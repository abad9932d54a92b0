use Rattle.fl_gossip.proofs.Deltas.{FilledOf}
use Rattle.fl_gossip.proofs.replying.first_of.Given as goal

abbrev pub invariant-loop-entry : goal.invariant-loop-entry
invariant-loop-entry l = FilledOf l.most l.nodes l.entry-index l.deltas.items l.waiting.items l.left
