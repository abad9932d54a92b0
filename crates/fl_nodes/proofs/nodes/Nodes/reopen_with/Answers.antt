use Rattle.std.proofs.Common.{◌≡◌, ◌≢◌, ◌∙◌, sym, ap, ℕ, subst, refl, IsTrue}
use Rattle.std.specs.BTreeMap.{BTreeMap}
use Rattle.std.specs.Fn.{FnOnceReturnsAtMut}
use Rattle.fl_system.specs.declared.answer.Fault.TheVariants as faults
use Rattle.fl_system.specs.declared.reply.Reply.TheVariants as reply
use Rattle.fl_system.specs.Waiting.{IsRunning}
use Rattle.fl_node.specs.Over.{NodeOver}
use Rattle.fl_nodes.specs.parts.Highest.{IsUpTo}
use Rattle.fl_nodes.proofs.Entries.{held, changed, unchanged}
use Rattle.fl_nodes.proofs.JoinLemmas.{none_there, when_running, when_stopped}
use Rattle.fl_nodes.proofs.FailLemmas.{no_refusal_missing, fails_over, same_there, told_so}
use Rattle.fl_nodes.proofs.Highs.{changed_up, left_up}
use Rattle.fl_nodes.proofs.nodes.Nodes.reopen_with.Goals as goal

pub returns-in_default-clause-absent : goal.returns-in_default-clause-absent
returns-in_default-clause-absent g c none = (
  unchanged c.self.inside.all.entries _ c.self.inside.sent.items c.self.inside.audit.items c.args.self.now c.self.view_is (ap (λ (t : BTreeMap ℕ (NodeOver g.row.K.Denot)). t.entries) c.get_mut.follows.holds-at-none),
  refl,
)

pub returns-in_default-clause-running : goal.returns-in_default-clause-running
returns-in_default-clause-running g c n at runs =
    none_there _ (sym (held c.self.inside.all.entries c.self.inside.all.entries c.self.inside.sent.items c.self.inside.audit.items c.args.self.now c.self.view_is c.args.number) ∙ sym c.in_default.ensures.value) n at

pub returns-in_default-clause-stopped : goal.returns-in_default-clause-stopped
returns-in_default-clause-stopped g c n at stops =
    none_there _ (sym (held c.self.inside.all.entries c.self.inside.all.entries c.self.inside.sent.items c.self.inside.audit.items c.args.self.now c.self.view_is c.args.number) ∙ sym c.in_default.ensures.value) n at

pub returns-clause-absent : goal.returns-clause-absent
returns-clause-absent g c none =
    none_there _ none _
    (sym (held c.self.inside.all.entries c.self.inside.all.entries c.self.inside.sent.items c.self.inside.audit.items c.args.self.now c.self.view_is c.args.number) ∙ sym c.in-Some.ensures.value)

pub returns-clause-running : goal.returns-clause-running
returns-clause-running g c n at runs =
    when_running g.K.Keeper.custody c.args.self.now _ c.args.number c.in-Some.node.now c.reopen_with-result.new.self
    (sym (held c.self.inside.all.entries c.self.inside.all.entries c.self.inside.sent.items c.self.inside.audit.items c.args.self.now c.self.view_is c.args.number) ∙ sym c.in-Some.ensures.value)
    (changed c.self.inside.all.entries _ c.self.inside.sent.items c.self.inside.audit.items c.args.self.now c.self.view_is c.args.number c.in-Some.node.now c.reopen_with-result.new.self (sym c.in-Some.ensures.value) (c.get_mut.follows.holds c.reopen_with-result.new.self).0)
    n at runs _ c.reopen_with-result.ensures.running _ c.opened.ensures

pub returns-clause-stopped : goal.returns-clause-stopped
returns-clause-stopped g c n at stops =
    when_stopped g.K.Keeper.custody c.args.self.now _ c.args.number c.in-Some.node.now c.reopen_with-result.new.self
    (sym (held c.self.inside.all.entries c.self.inside.all.entries c.self.inside.sent.items c.self.inside.audit.items c.args.self.now c.self.view_is c.args.number) ∙ sym c.in-Some.ensures.value)
    (changed c.self.inside.all.entries _ c.self.inside.sent.items c.self.inside.audit.items c.args.self.now c.self.view_is c.args.number c.in-Some.node.now c.reopen_with-result.new.self (sym c.in-Some.ensures.value) (c.get_mut.follows.holds c.reopen_with-result.new.self).0)
    n at stops _ c.requires.trusted _ c.reopen_with-result.ensures.stopped _ c.opened.ensures

pub returns-in_default-clause-cause : goal.returns-in_default-clause-cause
returns-in_default-clause-cause g c failed = absurd (no_refusal_missing _ failed)

pub returns-clause-cause : goal.returns-clause-cause
returns-clause-cause g c =
    fails_over g.K.Keeper.custody c.args.self.now _ c.args.number c.reopen_with-result.new.self
    (changed c.self.inside.all.entries _ c.self.inside.sent.items c.self.inside.audit.items c.args.self.now c.self.view_is c.args.number c.in-Some.node.now c.reopen_with-result.new.self (sym c.in-Some.ensures.value) (c.get_mut.follows.holds c.reopen_with-result.new.self).0)
    _ c.in-Some.node.now
    (sym (held c.self.inside.all.entries c.self.inside.all.entries c.self.inside.sent.items c.self.inside.audit.items c.args.self.now c.self.view_is c.args.number) ∙ sym c.in-Some.ensures.value)
    (λ k made. FnOnceReturnsAtMut g.F.FnOnce c.args.make k tt made) g.K.Keeper.custody.has_bad_row (λ made gives row. (made, gives, row)) _ _ c.opened.ensures c.reopen_with-result.ensures.cause

pub invariant_of-self-2 : goal.invariant_of-self-2
invariant_of-self-2 g c = (
  c.self.invariant.0,
  changed_up c.self.inside.highest _ c.self.inside.desks c.raised-self-inside.ensures.at_least c.self.inside.all.entries _ c.args.number c.in-Some.node.now c.reopen_with-result.new.self
      (sym c.in-Some.ensures.value) (c.get_mut.follows.holds c.reopen_with-result.new.self).0 c.self.invariant.1
      (subst (IsUpTo c.raised-self-inside.result) c.saved.ensures.saved c.raised-self-inside.ensures.covers) c.reopen_with-result.ensures.desks,
)

pub invariant_of-self : goal.invariant_of-self
invariant_of-self g c =
    (c.self.invariant.0, left_up c.self.inside.highest c.self.inside.desks c.self.inside.all.entries _ (ap (λ (t : BTreeMap ℕ (NodeOver g.row.K.Denot)). t.entries) c.get_mut.follows.holds-at-none) c.self.invariant.1)

pub returns-in_default-clause-broken : goal.returns-in_default-clause-broken
returns-in_default-clause-broken g c n at =
    none_there _ (sym (held c.self.inside.all.entries c.self.inside.all.entries c.self.inside.sent.items c.self.inside.audit.items c.args.self.now c.self.view_is c.args.number) ∙ sym c.in_default.ensures.value) n at

pub returns-in_default-clause-other : goal.returns-in_default-clause-other
returns-in_default-clause-other g c n at =
    none_there _ (sym (held c.self.inside.all.entries c.self.inside.all.entries c.self.inside.sent.items c.self.inside.audit.items c.args.self.now c.self.view_is c.args.number) ∙ sym c.in_default.ensures.value) n at

pub returns-clause-broken : goal.returns-clause-broken
returns-clause-broken g c n at =
    let custody = g.K.Keeper.custody in
    subst (λ (m : NodeOver g.row.K.Denot). (¬ IsRunning m.node.state) → (made : g.row.K.Denot) × FnOnceReturnsAtMut g.F.FnOnce c.args.make m.keeper tt made
    × (IsTrue (custody.is_broken made) → custody.number made ≡ m.node.number → c.opened.result ≡ reply.Refused faults.KeeperFailed))
    (same_there _ n c.in-Some.node.now at (sym (held c.self.inside.all.entries c.self.inside.all.entries c.self.inside.sent.items c.self.inside.audit.items c.args.self.now c.self.view_is c.args.number) ∙ sym c.in-Some.ensures.value))
    (λ stopped.
    let h = c.reopen_with-result.ensures.broken stopped in
    (h.0, h.1, λ broken own. told_so _ _ _ c.opened.ensures (h.2 broken own)))

pub returns-clause-other : goal.returns-clause-other
returns-clause-other g c n at =
    let custody = g.K.Keeper.custody in
    subst (λ (m : NodeOver g.row.K.Denot). (¬ IsRunning m.node.state) → (made : g.row.K.Denot) × FnOnceReturnsAtMut g.F.FnOnce c.args.make m.keeper tt made
    × (custody.number made ≢ m.node.number → c.opened.result ≡ reply.Refused faults.WrongNode))
    (same_there _ n c.in-Some.node.now at (sym (held c.self.inside.all.entries c.self.inside.all.entries c.self.inside.sent.items c.self.inside.audit.items c.args.self.now c.self.view_is c.args.number) ∙ sym c.in-Some.ensures.value))
    (λ stopped.
    let h = c.reopen_with-result.ensures.other stopped in
    (h.0, h.1, λ other. told_so _ _ _ c.opened.ensures (h.2 other)))
