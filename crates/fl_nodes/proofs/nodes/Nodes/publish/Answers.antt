use Rattle.std.proofs.Common.{◌∙◌, sym, ap, ℕ}
use Rattle.std.specs.BTreeMap.{BTreeMap}
use Rattle.fl_system.specs.declared.event.Event.TheVariants as event
use Rattle.fl_node.specs.Over.{NodeOver}
use Rattle.fl_nodes.proofs.Entries.{held, changed, unchanged}
use Rattle.fl_nodes.proofs.CallLemmas.{no_such_left, published, not_published}
use Rattle.fl_nodes.proofs.Highs.{unraised, left_up}
use Rattle.fl_nodes.proofs.Unsaved.{publishes_saved}
use Rattle.fl_nodes.proofs.FailLemmas.{no_refusal_missing}
use Rattle.fl_nodes.proofs.Unfailing.{publish_refused, publish_replied}
use Rattle.fl_nodes.proofs.nodes.Nodes.publish.Goals as goal
use Rattle.fl_nodes.proofs.nodes.Nodes.publish.Goals.{in-Ok, in-Err}

pub returns-in_default-clause-goes : goal.returns-in_default-clause-goes
returns-in_default-clause-goes g c =
    no_such_left g.K.Keeper.custody c.args.self.now _ (event.Publish c.args.number)
    (unchanged c.self.inside.all.entries _ c.self.inside.sent.items c.self.inside.audit.items c.args.self.now c.self.view_is (ap (λ (t : BTreeMap ℕ (NodeOver g.row.K.Denot)). t.entries) c.get_mut.follows.holds-at-none))
    (sym (held c.self.inside.all.entries c.self.inside.all.entries c.self.inside.sent.items c.self.inside.audit.items c.args.self.now c.self.view_is c.args.number) ∙ sym c.in_default.ensures.value)

pub returns-clause-goes : goal.returns-clause-goes
returns-clause-goes g c = elim c.match-publish.branch [
  | in-Ok w ↦ rw (w.result-is, c.once_published-reply.ensures, c.state.ensures) (published g.K.Keeper.custody c.args.self.now _ c.args.number c.in-Some.node.now c.publish.new.self
      (sym (held c.self.inside.all.entries c.self.inside.all.entries c.self.inside.sent.items c.self.inside.audit.items c.args.self.now c.self.view_is c.args.number) ∙ sym c.in-Some.ensures.value)
      (changed c.self.inside.all.entries _ c.self.inside.sent.items c.self.inside.audit.items c.args.self.now c.self.view_is c.args.number c.in-Some.node.now c.publish.new.self (sym c.in-Some.ensures.value) (c.get_mut.follows.holds c.publish.new.self).0)
      _ w.in-Ok.ensures.keeper w.in-Ok.ensures.publishes)
  | in-Err w ↦ rw w.result-is (not_published g.K.Keeper.custody c.args.self.now _ c.args.number c.in-Some.node.now c.publish.new.self
      (sym (held c.self.inside.all.entries c.self.inside.all.entries c.self.inside.sent.items c.self.inside.audit.items c.args.self.now c.self.view_is c.args.number) ∙ sym c.in-Some.ensures.value)
      (changed c.self.inside.all.entries _ c.self.inside.sent.items c.self.inside.audit.items c.args.self.now c.self.view_is c.args.number c.in-Some.node.now c.publish.new.self (sym c.in-Some.ensures.value) (c.get_mut.follows.holds c.publish.new.self).0)
      _ w.in-Err.ensures.keeper w.in-Err.ensures.publishes)
]

pub returns-in_default-clause-cause : goal.returns-in_default-clause-cause
returns-in_default-clause-cause g c failed = no_refusal_missing _ failed

pub returns-clause-cause : goal.returns-clause-cause
returns-clause-cause g c = elim c.match-publish.branch [
  | in-Ok w ↦ rw (w.result-is, c.once_published-reply.ensures) (publish_replied _)
  | in-Err w ↦ rw w.result-is (publish_refused _ _ _ w.in-Err.ensures.publishes)
]

pub invariant_of-self-2 : goal.invariant_of-self-2
invariant_of-self-2 g c = (
  c.self.invariant.0,
  unraised c.self.inside.highest c.self.inside.desks c.self.inside.all.entries _ c.args.number c.in-Some.node.now c.publish.new.self
      (sym c.in-Some.ensures.value) (c.get_mut.follows.holds c.publish.new.self).0 c.self.invariant.1
      (publishes_saved _ _ _ c.publish.ensures.publishes) c.publish.ensures.desks,
)

pub invariant_of-self : goal.invariant_of-self
invariant_of-self g c =
    (c.self.invariant.0, left_up c.self.inside.highest c.self.inside.desks c.self.inside.all.entries _ (ap (λ (t : BTreeMap ℕ (NodeOver g.row.K.Denot)). t.entries) c.get_mut.follows.holds-at-none) c.self.invariant.1)
