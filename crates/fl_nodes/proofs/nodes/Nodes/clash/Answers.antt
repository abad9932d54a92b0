use Rattle.std.proofs.Common.{rules}
use Rattle.fl_nodes.proofs.Entries.{held}
use Rattle.fl_nodes.proofs.Highs.{no_clash}
use Rattle.fl_nodes.proofs.Meets.{clash_of_world}
use Rattle.fl_nodes.proofs.nodes.Nodes.clash.Goals as goal

pub returns : goal.returns
returns g c w are =
    clash_of_world c.self.inside.all c.least_clash_with.ensures.ordered c.args.self.now
    (held c.self.inside.all.entries c.self.inside.all.entries c.self.inside.sent.items c.self.inside.audit.items c.args.self.now c.self.view_is)
    w are c.args.saved.now _ c.least_clash_with.ensures.least

pub returns-then-is_empty : goal.returns-then-is_empty
returns-then-is_empty g c w are = no_clash w c.args.saved.now (c.is_empty.ensures.0 (search rules))
