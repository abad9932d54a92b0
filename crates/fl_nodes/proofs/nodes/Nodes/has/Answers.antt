use Rattle.std.proofs.Common.{◌∙◌, ap}
use Rattle.std.specs.Prelude.{is_some}
use Rattle.fl_nodes.proofs.Entries.{held}
use Rattle.fl_nodes.proofs.nodes.Nodes.has.Goals as goal

pub returns : goal.returns
returns g c = c.contains_key.ensures ∙ ap is_some (held c.self.inside.all.entries c.self.inside.all.entries c.self.inside.sent.items c.self.inside.audit.items c.args.self.now c.self.view_is c.args.number)
