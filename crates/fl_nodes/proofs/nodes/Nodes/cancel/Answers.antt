use Rattle.std.proofs.Common.{◌∙◌, sym, ap, ℕ}
use Rattle.std.specs.BTreeMap.{BTreeMap}
use Rattle.fl_system.specs.declared.event.Event.TheVariants as event
use Rattle.fl_node.specs.Over.{NodeOver}
use Rattle.fl_nodes.proofs.Entries.{held, changed, unchanged}
use Rattle.fl_nodes.proofs.CallLemmas.{no_such_left, given_up, not_given_up}
use Rattle.fl_nodes.proofs.Highs.{unraised, left_up}
use Rattle.fl_nodes.proofs.Unsaved.{cancels_saved}
use Rattle.fl_nodes.proofs.FailLemmas.{no_refusal_missing, no_refusal_done}
use Rattle.fl_nodes.proofs.Unfailing.{cancel_refused}
use Rattle.fl_nodes.proofs.nodes.Nodes.cancel.Goals as goal
use Rattle.fl_nodes.proofs.nodes.Nodes.cancel.Goals.{in-Ok, in-Err}

pub returns-in_default-clause-goes : goal.returns-in_default-clause-goes
returns-in_default-clause-goes g c =
    no_such_left g.K.Keeper.custody c.args.self.now _ (event.Cancel c.args.number)
    (unchanged c.self.inside.all.entries _ c.self.inside.sent.items c.self.inside.audit.items c.args.self.now c.self.view_is (ap (λ (t : BTreeMap ℕ (NodeOver g.row.K.Denot)). t.entries) c.get_mut.follows.holds-at-none))
    (sym (held c.self.inside.all.entries c.self.inside.all.entries c.self.inside.sent.items c.self.inside.audit.items c.args.self.now c.self.view_is c.args.number) ∙ sym c.in_default.ensures.value)

pub returns-clause-goes : goal.returns-clause-goes
returns-clause-goes g c = elim c.match-cancel.branch [
  | in-Ok w ↦ rw w.result-is (given_up g.K.Keeper.custody c.args.self.now _ c.args.number c.in-Some.node.now c.cancel.new.self
      (sym (held c.self.inside.all.entries c.self.inside.all.entries c.self.inside.sent.items c.self.inside.audit.items c.args.self.now c.self.view_is c.args.number) ∙ sym c.in-Some.ensures.value)
      (changed c.self.inside.all.entries _ c.self.inside.sent.items c.self.inside.audit.items c.args.self.now c.self.view_is c.args.number c.in-Some.node.now c.cancel.new.self (sym c.in-Some.ensures.value) (c.get_mut.follows.holds c.cancel.new.self).0)
      w.in-Ok.ensures.keeper w.in-Ok.ensures.cancels)
  | in-Err w ↦ rw w.result-is (not_given_up g.K.Keeper.custody c.args.self.now _ c.args.number c.in-Some.node.now c.cancel.new.self
      (sym (held c.self.inside.all.entries c.self.inside.all.entries c.self.inside.sent.items c.self.inside.audit.items c.args.self.now c.self.view_is c.args.number) ∙ sym c.in-Some.ensures.value)
      (changed c.self.inside.all.entries _ c.self.inside.sent.items c.self.inside.audit.items c.args.self.now c.self.view_is c.args.number c.in-Some.node.now c.cancel.new.self (sym c.in-Some.ensures.value) (c.get_mut.follows.holds c.cancel.new.self).0)
      _ w.in-Err.ensures.keeper w.in-Err.ensures.cancels)
]

pub returns-in_default-clause-cause : goal.returns-in_default-clause-cause
returns-in_default-clause-cause g c failed = no_refusal_missing _ failed

pub returns-clause-cause : goal.returns-clause-cause
returns-clause-cause g c = elim c.match-cancel.branch [
  | in-Ok w ↦ rw w.result-is (no_refusal_done _)
  | in-Err w ↦ rw w.result-is (cancel_refused _ _ _ w.in-Err.ensures.cancels)
]

pub invariant_of-self-2 : goal.invariant_of-self-2
invariant_of-self-2 g c = (
  c.self.invariant.0,
  unraised c.self.inside.highest c.self.inside.desks c.self.inside.all.entries _ c.args.number c.in-Some.node.now c.cancel.new.self
      (sym c.in-Some.ensures.value) (c.get_mut.follows.holds c.cancel.new.self).0 c.self.invariant.1
      (cancels_saved _ _ _ c.cancel.ensures.cancels) c.cancel.ensures.desks,
)

pub invariant_of-self : goal.invariant_of-self
invariant_of-self g c =
    (c.self.invariant.0, left_up c.self.inside.highest c.self.inside.desks c.self.inside.all.entries _ (ap (λ (t : BTreeMap ℕ (NodeOver g.row.K.Denot)). t.entries) c.get_mut.follows.holds-at-none) c.self.invariant.1)
