use Rattle.std.proofs.Common.{◌≡◌, ◌≢◌, ◌∙◌, sym, ap, ℕ, subst, IsTrue}
use Rattle.std.specs.BTreeMap.{BTreeMap}
use Rattle.fl_system.specs.declared.event.Event.TheVariants as event
use Rattle.fl_system.specs.declared.answer.Fault.TheVariants as faults
use Rattle.fl_system.specs.declared.reply.Reply.TheVariants as reply
use Rattle.fl_system.specs.Waiting.{IsRunning}
use Rattle.fl_node.specs.Over.{NodeOver}
use Rattle.fl_nodes.specs.parts.Highest.{IsUpTo}
use Rattle.fl_nodes.proofs.Entries.{held, changed, unchanged}
use Rattle.fl_nodes.proofs.CallLemmas.{no_such_left, booted, not_booted}
use Rattle.fl_nodes.specs.Failing.{LoadsBadRowOf}
use Rattle.fl_nodes.proofs.FailLemmas.{no_refusal_missing, no_refusal_booted, same_fault, fails_at}
use Rattle.fl_nodes.proofs.FailLemmas.{same_there, never_booted, refused_so}
use Rattle.fl_nodes.proofs.JoinLemmas.{none_there}
use Rattle.fl_nodes.proofs.Highs.{changed_up, left_up}
use Rattle.fl_nodes.proofs.nodes.Nodes.restart.Goals as goal
use Rattle.fl_nodes.proofs.nodes.Nodes.restart.Goals.{in-Ok, in-Err}

pub returns-in_default-clause-goes : goal.returns-in_default-clause-goes
returns-in_default-clause-goes g c =
    no_such_left g.K.Keeper.custody c.args.self.now _ (event.Restart c.args.number c.args.keeps)
    (unchanged c.self.inside.all.entries _ c.self.inside.sent.items c.self.inside.audit.items c.args.self.now c.self.view_is (ap (λ (t : BTreeMap ℕ (NodeOver g.row.K.Denot)). t.entries) c.get_mut.follows.holds-at-none))
    (sym (held c.self.inside.all.entries c.self.inside.all.entries c.self.inside.sent.items c.self.inside.audit.items c.args.self.now c.self.view_is c.args.number) ∙ sym c.in_default.ensures.value)

pub returns-clause-goes : goal.returns-clause-goes
returns-clause-goes g c = elim c.match-come_back.branch [
  | in-Ok w ↦ rw w.answer-is (booted g.K.Keeper.custody c.args.self.now _ c.args.number c.in-Some.node.now c.come_back.new.self
      (sym (held c.self.inside.all.entries c.self.inside.all.entries c.self.inside.sent.items c.self.inside.audit.items c.args.self.now c.self.view_is c.args.number) ∙ sym c.in-Some.ensures.value)
      (changed c.self.inside.all.entries _ c.self.inside.sent.items c.self.inside.audit.items c.args.self.now c.self.view_is c.args.number c.in-Some.node.now c.come_back.new.self (sym c.in-Some.ensures.value) (c.get_mut.follows.holds c.come_back.new.self).0)
      c.args.keeps _ w.in-Ok.ensures.restarts)
  | in-Err w ↦ rw w.answer-is (not_booted g.K.Keeper.custody c.args.self.now _ c.args.number c.in-Some.node.now c.come_back.new.self
      (sym (held c.self.inside.all.entries c.self.inside.all.entries c.self.inside.sent.items c.self.inside.audit.items c.args.self.now c.self.view_is c.args.number) ∙ sym c.in-Some.ensures.value)
      (changed c.self.inside.all.entries _ c.self.inside.sent.items c.self.inside.audit.items c.args.self.now c.self.view_is c.args.number c.in-Some.node.now c.come_back.new.self (sym c.in-Some.ensures.value) (c.get_mut.follows.holds c.come_back.new.self).0)
      c.args.keeps _ w.in-Err.ensures.restarts)
]

pub returns-in_default-clause-cause : goal.returns-in_default-clause-cause
returns-in_default-clause-cause g c failed = absurd (no_refusal_missing _ failed)

pub returns-clause-cause : goal.returns-clause-cause
returns-clause-cause g c = elim c.match-come_back.branch [
  | in-Ok w ↦ rw w.answer-is (λ failed. absurd (no_refusal_booted _ _ failed))
  | in-Err w ↦ rw w.answer-is (λ failed. fails_at g.K.Keeper.custody c.args.self.now _ c.args.number c.come_back.new.self
      (changed c.self.inside.all.entries _ c.self.inside.sent.items c.self.inside.audit.items c.args.self.now c.self.view_is c.args.number c.in-Some.node.now c.come_back.new.self (sym c.in-Some.ensures.value) (c.get_mut.follows.holds c.come_back.new.self).0)
      (LoadsBadRowOf g.K.Keeper.custody) c.in-Some.node.now
      (sym (held c.self.inside.all.entries c.self.inside.all.entries c.self.inside.sent.items c.self.inside.audit.items c.args.self.now c.self.view_is c.args.number) ∙ sym c.in-Some.ensures.value)
      (w.in-Err.ensures.cause (same_fault _ _ failed)))
]

pub invariant_of-self-2 : goal.invariant_of-self-2
invariant_of-self-2 g c = (
  c.self.invariant.0,
  changed_up c.self.inside.highest _ c.self.inside.desks c.raised-self-inside.ensures.at_least c.self.inside.all.entries _ c.args.number c.in-Some.node.now c.come_back.new.self
      (sym c.in-Some.ensures.value) (c.get_mut.follows.holds c.come_back.new.self).0 c.self.invariant.1
      (subst (IsUpTo c.raised-self-inside.result) c.saved.ensures.saved c.raised-self-inside.ensures.covers) c.come_back.ensures.desks,
)

pub invariant_of-self : goal.invariant_of-self
invariant_of-self g c =
    (c.self.invariant.0, left_up c.self.inside.highest c.self.inside.desks c.self.inside.all.entries _ (ap (λ (t : BTreeMap ℕ (NodeOver g.row.K.Denot)). t.entries) c.get_mut.follows.holds-at-none) c.self.invariant.1)

pub returns-in_default-clause-broken : goal.returns-in_default-clause-broken
returns-in_default-clause-broken g c n at =
    none_there _ (sym (held c.self.inside.all.entries c.self.inside.all.entries c.self.inside.sent.items c.self.inside.audit.items c.args.self.now c.self.view_is c.args.number) ∙ sym c.in_default.ensures.value) n at

pub returns-in_default-clause-other : goal.returns-in_default-clause-other
returns-in_default-clause-other g c n at =
    none_there _ (sym (held c.self.inside.all.entries c.self.inside.all.entries c.self.inside.sent.items c.self.inside.audit.items c.args.self.now c.self.view_is c.args.number) ∙ sym c.in_default.ensures.value) n at

pub returns-clause-broken : goal.returns-clause-broken
returns-clause-broken g c n at =
    let custody = g.K.Keeper.custody in
    subst (λ (m : NodeOver g.row.K.Denot). (¬ IsRunning m.node.state) → IsTrue (custody.is_broken m.keeper) → custody.number m.keeper ≡ m.node.number → c.match-come_back.answer ≡ reply.Refused faults.KeeperFailed)
    (same_there _ n c.in-Some.node.now at (sym (held c.self.inside.all.entries c.self.inside.all.entries c.self.inside.sent.items c.self.inside.audit.items c.args.self.now c.self.view_is c.args.number) ∙ sym c.in-Some.ensures.value))
    (λ stopped broken own. elim c.match-come_back.branch [
      | in-Ok w ↦ absurd (never_booted _ _ _ w.in-Ok.is (c.come_back.ensures.broken stopped broken own))
      | in-Err w ↦ rw w.answer-is (refused_so _ _ _ w.in-Err.is (c.come_back.ensures.broken stopped broken own))
    ])

pub returns-clause-other : goal.returns-clause-other
returns-clause-other g c n at =
    let custody = g.K.Keeper.custody in
    subst (λ (m : NodeOver g.row.K.Denot). (¬ IsRunning m.node.state) → custody.number m.keeper ≢ m.node.number → c.match-come_back.answer ≡ reply.Refused faults.WrongNode)
    (same_there _ n c.in-Some.node.now at (sym (held c.self.inside.all.entries c.self.inside.all.entries c.self.inside.sent.items c.self.inside.audit.items c.args.self.now c.self.view_is c.args.number) ∙ sym c.in-Some.ensures.value))
    (λ stopped other. elim c.match-come_back.branch [
      | in-Ok w ↦ absurd (never_booted _ _ _ w.in-Ok.is (c.come_back.ensures.other stopped other))
      | in-Err w ↦ rw w.answer-is (refused_so _ _ _ w.in-Err.is (c.come_back.ensures.other stopped other))
    ])
