use Rattle.std.proofs.Common.{◌∙◌}
use Rattle.fl_nodes.proofs.Entries.{held}
use Rattle.fl_nodes.proofs.nodes.Nodes.node.Goals as goal

pub returns : goal.returns
returns g c = c.get.ensures.value ∙ held c.self.inside.all.entries c.self.inside.all.entries c.self.inside.sent.items c.self.inside.audit.items c.args.self.now c.self.view_is c.args.number
