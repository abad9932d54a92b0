use Rattle.std.proofs.Common.{sym, ◌∙◌}
use Rattle.fl_mailbox.proofs.Opens.{passed_open, stopped_free, none_free}
use Rattle.fl_mailbox.proofs.endpoints.Endpoints.least_free.Goals as goal

pub returns-then-not-contains_key : goal.returns-then-not-contains_key
returns-then-not-contains_key c =
    stopped_free c.self.inside.all.entries c.args.self.now c.self.view_is _ (sym c.if-not-contains_key.true ∙ c.contains_key.ensures) c.loop-number.invariant

pub loop-number-preserved : goal.loop-number-preserved
loop-number-preserved c =
    passed_open c.self.inside.all.entries c.args.self.now c.self.view_is c.loop-number.number (sym c.if-not-contains_key.false ∙ c.contains_key.ensures) c.loop-number.invariant

pub returns : goal.returns
returns c = none_free c.args.self.now c.loop-number.number c.loop-number-test.false c.loop-number.invariant
