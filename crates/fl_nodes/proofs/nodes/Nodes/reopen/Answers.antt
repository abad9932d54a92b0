use Rattle.std.proofs.Common.{◌≡◌, ◌≢◌, ◌∙◌, sym, ap, ℕ, subst, IsTrue}
use Rattle.std.specs.BTreeMap.{BTreeMap}
use Rattle.fl_system.specs.declared.answer.Fault.TheVariants as faults
use Rattle.fl_system.specs.declared.reply.Reply.TheVariants as reply
use Rattle.fl_system.specs.Waiting.{IsRunning}
use Rattle.fl_node.specs.Over.{NodeOver}
use Rattle.fl_nodes.specs.parts.Highest.{IsUpTo}
use Rattle.fl_nodes.proofs.Entries.{held, changed, unchanged}
use Rattle.fl_nodes.proofs.JoinLemmas.{not_there, none_there, spare_none, reopened, is_spare}
use Rattle.fl_nodes.proofs.FailLemmas.{no_refusal_missing, fails_as, same_there, told_so}
use Rattle.fl_nodes.proofs.Highs.{changed_up, left_up}
use Rattle.fl_nodes.proofs.nodes.Nodes.reopen.Goals as goal

pub returns-in_default-clause-reopens : goal.returns-in_default-clause-reopens
returns-in_default-clause-reopens g c =
    not_there g.K.Keeper.custody c.args.self.now _ c.args.number c.args.keeper
    (unchanged c.self.inside.all.entries _ c.self.inside.sent.items c.self.inside.audit.items c.args.self.now c.self.view_is (ap (λ (t : BTreeMap ℕ (NodeOver g.row.K.Denot)). t.entries) c.get_mut.follows.holds-at-none))
    (sym (held c.self.inside.all.entries c.self.inside.all.entries c.self.inside.sent.items c.self.inside.audit.items c.args.self.now c.self.view_is c.args.number) ∙ sym c.in_default.ensures.value)

pub returns-in_default-clause-given : goal.returns-in_default-clause-given
returns-in_default-clause-given g c =
    spare_none _ c.args.keeper
    (sym (held c.self.inside.all.entries c.self.inside.all.entries c.self.inside.sent.items c.self.inside.audit.items c.args.self.now c.self.view_is c.args.number) ∙ sym c.in_default.ensures.value)

pub returns-clause-reopens : goal.returns-clause-reopens
returns-clause-reopens g c =
    reopened g.K.Keeper.custody c.args.self.now _ c.args.number c.args.keeper _ c.in-Some.node.now c.reopen_over-result.new.self
    (sym (held c.self.inside.all.entries c.self.inside.all.entries c.self.inside.sent.items c.self.inside.audit.items c.args.self.now c.self.view_is c.args.number) ∙ sym c.in-Some.ensures.value)
    (changed c.self.inside.all.entries _ c.self.inside.sent.items c.self.inside.audit.items c.args.self.now c.self.view_is c.args.number c.in-Some.node.now c.reopen_over-result.new.self (sym c.in-Some.ensures.value) (c.get_mut.follows.holds c.reopen_over-result.new.self).0)
    _ c.reopen_over-result.ensures.running c.reopen_over-result.ensures.given c.reopen_over-result.ensures.stopped _ c.opened.ensures

pub returns-clause-given : goal.returns-clause-given
returns-clause-given g c =
    is_spare g.K.Keeper.custody c.args.self.now _ c.args.number c.args.keeper _ c.in-Some.node.now c.reopen_over-result.new.self
    (sym (held c.self.inside.all.entries c.self.inside.all.entries c.self.inside.sent.items c.self.inside.audit.items c.args.self.now c.self.view_is c.args.number) ∙ sym c.in-Some.ensures.value)
    (changed c.self.inside.all.entries _ c.self.inside.sent.items c.self.inside.audit.items c.args.self.now c.self.view_is c.args.number c.in-Some.node.now c.reopen_over-result.new.self (sym c.in-Some.ensures.value) (c.get_mut.follows.holds c.reopen_over-result.new.self).0)
    _ c.reopen_over-result.ensures.running c.reopen_over-result.ensures.given c.reopen_over-result.ensures.stopped

pub returns-in_default-clause-cause : goal.returns-in_default-clause-cause
returns-in_default-clause-cause g c failed = absurd (no_refusal_missing _ failed)

pub returns-clause-cause : goal.returns-clause-cause
returns-clause-cause g c =
    fails_as g.K.Keeper.custody c.args.self.now _ c.args.number c.reopen_over-result.new.self
    (changed c.self.inside.all.entries _ c.self.inside.sent.items c.self.inside.audit.items c.args.self.now c.self.view_is c.args.number c.in-Some.node.now c.reopen_over-result.new.self (sym c.in-Some.ensures.value) (c.get_mut.follows.holds c.reopen_over-result.new.self).0)
    (λ n. g.K.Keeper.custody.has_bad_row c.args.keeper) c.in-Some.node.now
    (sym (held c.self.inside.all.entries c.self.inside.all.entries c.self.inside.sent.items c.self.inside.audit.items c.args.self.now c.self.view_is c.args.number) ∙ sym c.in-Some.ensures.value)
    _ _ c.opened.ensures c.reopen_over-result.ensures.cause

pub invariant_of-self-2 : goal.invariant_of-self-2
invariant_of-self-2 g c = (
  c.self.invariant.0,
  changed_up c.self.inside.highest _ c.self.inside.desks c.raised-self-inside.ensures.at_least c.self.inside.all.entries _ c.args.number c.in-Some.node.now c.reopen_over-result.new.self
      (sym c.in-Some.ensures.value) (c.get_mut.follows.holds c.reopen_over-result.new.self).0 c.self.invariant.1
      (subst (IsUpTo c.raised-self-inside.result) c.saved.ensures.saved c.raised-self-inside.ensures.covers) c.reopen_over-result.ensures.desks,
)

pub invariant_of-self : goal.invariant_of-self
invariant_of-self g c =
    (c.self.invariant.0, left_up c.self.inside.highest c.self.inside.desks c.self.inside.all.entries _ (ap (λ (t : BTreeMap ℕ (NodeOver g.row.K.Denot)). t.entries) c.get_mut.follows.holds-at-none) c.self.invariant.1)

pub returns-in_default-clause-broken : goal.returns-in_default-clause-broken
returns-in_default-clause-broken g c n at =
    none_there _ (sym (held c.self.inside.all.entries c.self.inside.all.entries c.self.inside.sent.items c.self.inside.audit.items c.args.self.now c.self.view_is c.args.number) ∙ sym c.in_default.ensures.value) n at

pub returns-in_default-clause-other : goal.returns-in_default-clause-other
returns-in_default-clause-other g c n at =
    none_there _ (sym (held c.self.inside.all.entries c.self.inside.all.entries c.self.inside.sent.items c.self.inside.audit.items c.args.self.now c.self.view_is c.args.number) ∙ sym c.in_default.ensures.value) n at

pub returns-clause-broken : goal.returns-clause-broken
returns-clause-broken g c n at =
    let custody = g.K.Keeper.custody in
    subst (λ (m : NodeOver g.row.K.Denot). (¬ IsRunning m.node.state) → IsTrue (custody.is_broken c.args.keeper) → custody.number c.args.keeper ≡ m.node.number → c.opened.result ≡ reply.Refused faults.KeeperFailed)
    (same_there _ n c.in-Some.node.now at (sym (held c.self.inside.all.entries c.self.inside.all.entries c.self.inside.sent.items c.self.inside.audit.items c.args.self.now c.self.view_is c.args.number) ∙ sym c.in-Some.ensures.value))
    (λ stopped broken own. told_so _ _ _ c.opened.ensures (c.reopen_over-result.ensures.broken stopped broken own))

pub returns-clause-other : goal.returns-clause-other
returns-clause-other g c n at =
    let custody = g.K.Keeper.custody in
    subst (λ (m : NodeOver g.row.K.Denot). (¬ IsRunning m.node.state) → custody.number c.args.keeper ≢ m.node.number → c.opened.result ≡ reply.Refused faults.WrongNode)
    (same_there _ n c.in-Some.node.now at (sym (held c.self.inside.all.entries c.self.inside.all.entries c.self.inside.sent.items c.self.inside.audit.items c.args.self.now c.self.view_is c.args.number) ∙ sym c.in-Some.ensures.value))
    (λ stopped other. told_so _ _ _ c.opened.ensures (c.reopen_over-result.ensures.other stopped other))
