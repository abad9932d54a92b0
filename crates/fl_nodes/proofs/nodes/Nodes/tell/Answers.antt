use Rattle.std.proofs.Common.{◌∙◌, refl, sym, ap}
use Rattle.fl_system.specs.declared.event.Event.TheVariants as event
use Rattle.fl_system.specs.Deliveries.{TellAt}
use Rattle.fl_system.specs.WorldSteps.{Step}
use Rattle.fl_nodes.specs.Over.{WorldOver}
use Rattle.fl_nodes.proofs.Entries.{held}
use Rattle.fl_nodes.proofs.CallLemmas.{no_such}
use Rattle.fl_nodes.proofs.FailLemmas.{no_refusal_missing}
use Rattle.fl_nodes.proofs.Unfailing.{tell_refused, sending_replied}
use Rattle.fl_nodes.proofs.TellLemmas.{tells, tells_nothing}
use Rattle.fl_nodes.proofs.nodes.Nodes.tell.Goals as goal

pub returns-in_default-clause-goes : goal.returns-in_default-clause-goes
returns-in_default-clause-goes g c =
    no_such g.K.Keeper.custody c.args.self.now (event.Tell c.args.number)
    (sym (held c.self.inside.all.entries c.self.inside.all.entries c.self.inside.sent.items c.self.inside.audit.items c.args.self.now c.self.view_is c.args.number) ∙ sym c.in_default.ensures.value)

pub returns-in-Ok-clause-goes : goal.returns-in-Ok-clause-goes
returns-in-Ok-clause-goes g c =
    tells g.K.Keeper.custody c.args.self.now c.args.number c.in-Some.node.now
    (sym (held c.self.inside.all.entries c.self.inside.all.entries c.self.inside.sent.items c.self.inside.audit.items c.args.self.now c.self.view_is c.args.number) ∙ sym c.in-Some.ensures.value)
    (event.Tell c.args.number) _ c.in-Ok.told.items c.self.inside.sent.items c.send_all.new.sent.items c.send_all.result (ap (λ (w : WorldOver g.row.K.Denot). w.packets) c.self.view_is)
    (ap (λ (w : WorldOver g.row.K.Denot). record w { packets = c.send_all.new.sent.items }) c.self.view_is) c.send_all.ensures
    (λ some w k at is. Step.tell at (TellAt.no_room c.in-Ok.ensures.running))
    (λ w k at is. Step.tell at (TellAt.tells c.in-Ok.ensures.running c.in-Ok.ensures.ok))

pub returns-in_default-clause-cause : goal.returns-in_default-clause-cause
returns-in_default-clause-cause g c failed = no_refusal_missing _ failed

pub returns-in-Ok-clause-cause : goal.returns-in-Ok-clause-cause
returns-in-Ok-clause-cause g c = sending_replied _ _ _ _ _ c.send_all.ensures

pub returns-in-Err-clause-cause : goal.returns-in-Err-clause-cause
returns-in-Err-clause-cause g c = tell_refused _ _ c.in-Err.ensures.err

pub returns-in-Err-clause-goes : goal.returns-in-Err-clause-goes
returns-in-Err-clause-goes g c =
    tells_nothing g.K.Keeper.custody c.args.self.now c.args.number c.in-Some.node.now
    (sym (held c.self.inside.all.entries c.self.inside.all.entries c.self.inside.sent.items c.self.inside.audit.items c.args.self.now c.self.view_is c.args.number) ∙ sym c.in-Some.ensures.value)
    (event.Tell c.args.number) c.args.self.now c.in-Err.fault refl c.in-Err.ensures.err
    (λ stopped w k at is. Step.tell at (TellAt.stopped stopped))
    (λ running w k at is. Step.tell at (TellAt.no_room running))
