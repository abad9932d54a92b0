use Rattle.fl_nodes.proofs.Highs.{none_up}
use Rattle.fl_nodes.proofs.nodes.Nodes.new.Goals as goal

pub invariant_of-result : goal.invariant_of-result
invariant_of-result g c = (c.requires, none_up c.new.result.entries c.new.ensures.empty 0 c.args.desks)
