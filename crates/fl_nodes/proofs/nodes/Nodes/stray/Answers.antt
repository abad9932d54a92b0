use Rattle.std.proofs.Common.{subst, rules}
use Rattle.fl_nodes.specs.Over.{WorldOver}
use Rattle.fl_nodes.specs.parts.Highest.{AreWithin}
use Rattle.fl_nodes.proofs.Entries.{held}
use Rattle.fl_nodes.proofs.Highs.{no_stray}
use Rattle.fl_nodes.proofs.Meets.{stray_of_world}
use Rattle.fl_nodes.proofs.nodes.Nodes.stray.Goals as goal

pub returns : goal.returns
returns g c w are =
    stray_of_world c.self.inside.all c.least_stray_with.ensures.ordered c.args.self.now
    (held c.self.inside.all.entries c.self.inside.all.entries c.self.inside.sent.items c.self.inside.audit.items c.args.self.now c.self.view_is)
    w are c.args.number c.args.saved.now _ c.least_stray_with.ensures.least

pub returns-then-self-number : goal.returns-then-self-number
returns-then-self-number g c w are =
    no_stray c.args.self.now w are c.self.inside.highest c.args.number c.self.inside.desks
    (subst (λ (over : WorldOver g.row.K.Denot). AreWithin c.self.inside.highest c.self.inside.desks over.nodes) c.self.view_is c.self.invariant.1)
    c.if-self-number.true c.args.saved.now (c.is_empty.ensures.0 (search rules))
