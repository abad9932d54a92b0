use Rattle.std.proofs.Common.{sym}
use Rattle.fl_mailbox.proofs.Opens.{relabelled, absent_open, there_absent}
use Rattle.fl_mailbox.proofs.endpoints.Endpoints.set_labels.Goals as goal

pub returns-in_default-clause-there : goal.returns-in_default-clause-there
returns-in_default-clause-there c =
    λ opened is. absurd (absent_open c.self.inside.all.entries c.args.self.now c.args.endpoint opened c.self.view_is c.in_default.ensures.value is)

pub returns-clause-there : goal.returns-clause-there
returns-clause-there c =
    λ opened is. relabelled c.self.inside.all.entries _ c.args.self.now c.args.endpoint c.in-Some.opened.now opened c.args.labels c.self.view_is (sym c.in-Some.ensures.value) (c.get_mut.follows.holds _).0 is

pub returns-clause-absent : goal.returns-clause-absent
returns-clause-absent c =
    λ none. absurd (there_absent c.self.inside.all.entries c.args.self.now c.args.endpoint c.in-Some.opened.now c.self.view_is (sym c.in-Some.ensures.value) none)
