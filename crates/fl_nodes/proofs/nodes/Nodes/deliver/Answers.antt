use Rattle.std.proofs.Common.{◌∙◌, sym, ap, subst, refl, ℕ, inl, inr, arith}
use Rattle.std.specs.BTreeMap.{BTreeMap}
use Rattle.fl_system.specs.declared.event.Event.TheVariants as event
use Rattle.fl_node.specs.Over.{NodeOver}
use Rattle.fl_nodes.specs.parts.Delivering.{packet_of}
use Rattle.fl_nodes.proofs.Entries.{held, unchanged}
use Rattle.fl_nodes.proofs.CallLemmas.{no_such_left}
use Rattle.fl_nodes.proofs.FailLemmas.{no_refusal_missing}
use Rattle.fl_nodes.proofs.Unfailing.{window_refused as not_failed, bringing_replied, sending_replied, taking_replied}
use Rattle.fl_nodes.proofs.DeliverLemmas.{delivers_message, delivers_ops, delivers_window, no_packet, window_refused}
use Rattle.fl_nodes.specs.parts.Highest.{IsUpTo}
use Rattle.fl_nodes.proofs.Highs.{changed_up, looked_up, left_up, desked}
use Rattle.fl_nodes.proofs.nodes.Nodes.deliver.Goals as goal
use Rattle.fl_nodes.proofs.nodes.Nodes.deliver.Goals.{in-Full, in-Delta, in-Have+in-Ok, in-Have+in-Err, in-Data}

pub returns-in_default-clause-goes : goal.returns-in_default-clause-goes
returns-in_default-clause-goes g c =
    no_such_left g.K.Keeper.custody c.args.self.now _ (event.Deliver c.args.packet c.args.number)
    (unchanged c.self.inside.all.entries _ c.self.inside.sent.items c.self.inside.audit.items c.args.self.now c.self.view_is (ap (λ (t : BTreeMap ℕ (NodeOver g.row.K.Denot)). t.entries) c.get_mut.follows.holds-at-none))
    (sym (held c.self.inside.all.entries c.self.inside.all.entries c.self.inside.sent.items c.self.inside.audit.items c.args.self.now c.self.view_is c.args.number) ∙ sym c.in_default.ensures.value)

pub returns-in_default-packet_at-clause-goes : goal.returns-in_default-packet_at-clause-goes
returns-in_default-packet_at-clause-goes g c =
    no_packet g.K.Keeper.custody c.self.inside.all.entries _ c.self.inside.sent.items c.self.inside.audit.items c.args.self.now c.self.view_is
    c.args.number c.in-Some.node.now c.in-Some.node.now (sym c.in-Some.ensures.value) (c.get_mut.follows.holds c.in-Some.node.now).0
    c.args.packet refl (ap (λ l. packet_of l c.args.packet) (sym c.deref.ensures.value) ∙ c.in_default-packet_at.ensures)

pub returns-clause-goes : goal.returns-clause-goes
returns-clause-goes g c = elim c.match-sent.branch [
  | in-Full w ↦ rw (w.answer-is, w.node-is, w.self-inside-is) (delivers_ops g.K.Keeper.custody c.self.inside.all.entries _ c.self.inside.sent.items c.self.inside.audit.items c.args.self.now c.self.view_is
      c.args.number c.in-Some.node.now w.receive-answer.new.node (sym c.in-Some.ensures.value) (c.get_mut.follows.holds w.receive-answer.new.node).0
      c.args.packet c.in-Some-packet_at.sent.now
      (ap (λ l. packet_of l c.args.packet) (sym c.deref.ensures.value) ∙ c.in-Some-packet_at.ensures)
      w.in-Full.field-0 w.receive-answer.result (inl w.in-Full.is) w.receive-answer.ensures.keeper w.receive-answer.ensures.takes)
  | in-Delta w ↦ rw (w.answer-is, w.node-is, w.self-inside-is) (delivers_ops g.K.Keeper.custody c.self.inside.all.entries _ c.self.inside.sent.items c.self.inside.audit.items c.args.self.now c.self.view_is
      c.args.number c.in-Some.node.now w.receive-answer-in-Delta.new.node (sym c.in-Some.ensures.value) (c.get_mut.follows.holds w.receive-answer-in-Delta.new.node).0
      c.args.packet c.in-Some-packet_at.sent.now
      (ap (λ l. packet_of l c.args.packet) (sym c.deref.ensures.value) ∙ c.in-Some-packet_at.ensures)
      w.in-Delta.field-0 w.receive-answer-in-Delta.result (inr w.in-Delta.is) w.receive-answer-in-Delta.ensures.keeper w.receive-answer-in-Delta.ensures.takes)
  | in-Have+in-Ok w ↦ rw (w.answer-is, w.node-is, w.self-inside-is) (delivers_window g.K.Keeper.custody c.self.inside.all.entries _ c.self.inside.sent.items c.self.inside.audit.items c.args.self.now c.self.view_is
      c.args.number c.in-Some.node.now c.in-Some.node.now (sym c.in-Some.ensures.value) (c.get_mut.follows.holds c.in-Some.node.now).0
      c.args.packet c.in-Some-packet_at.sent.now
      (ap (λ l. packet_of l c.args.packet) (sym c.deref.ensures.value) ∙ c.in-Some-packet_at.ensures)
      w.in-Have.window w.in-Ok.told.items w.send_all.result w.send_all.new.sent.items w.in-Have.is refl w.in-Ok.ensures.running w.in-Ok.ensures.ok w.send_all.ensures)
  | in-Have+in-Err w ↦ rw (w.answer-is, w.node-is, w.self-inside-is) (window_refused g.K.Keeper.custody c.self.inside.all.entries _ c.self.inside.sent.items c.self.inside.audit.items c.args.self.now c.self.view_is
      c.args.number c.in-Some.node.now c.in-Some.node.now (sym c.in-Some.ensures.value) (c.get_mut.follows.holds c.in-Some.node.now).0
      c.args.packet c.in-Some-packet_at.sent.now
      (ap (λ l. packet_of l c.args.packet) (sym c.deref.ensures.value) ∙ c.in-Some-packet_at.ensures)
      w.in-Have.window w.in-Err.fault w.in-Have.is refl w.in-Err.ensures.err)
  | in-Data w ↦ rw (w.answer-is, w.node-is, w.self-inside-is) (delivers_message g.K.Keeper.custody c.self.inside.all.entries _ c.self.inside.sent.items c.self.inside.audit.items c.args.self.now c.self.view_is
      c.args.number c.in-Some.node.now w.bring-answer.new.node (sym c.in-Some.ensures.value) (c.get_mut.follows.holds w.bring-answer.new.node).0
      c.args.packet c.in-Some-packet_at.sent.now
      (ap (λ l. packet_of l c.args.packet) (sym c.deref.ensures.value) ∙ c.in-Some-packet_at.ensures)
      w.in-Data.message w.bring-answer.result w.bring-answer.new.audit.items w.in-Data.is w.bring-answer.ensures.keeper w.bring-answer.ensures.brings)
]

pub returns-in_default-clause-cause : goal.returns-in_default-clause-cause
returns-in_default-clause-cause g c failed = no_refusal_missing _ failed

pub returns-in_default-packet_at-clause-cause : goal.returns-in_default-packet_at-clause-cause
returns-in_default-packet_at-clause-cause g c failed = no_refusal_missing _ failed

pub returns-clause-cause : goal.returns-clause-cause
returns-clause-cause g c = elim c.match-sent.branch [
  | in-Full w ↦ rw w.answer-is (taking_replied _ _ _ _ w.receive-answer.ensures.takes)
  | in-Delta w ↦ rw w.answer-is (taking_replied _ _ _ _ w.receive-answer-in-Delta.ensures.takes)
  | in-Have+in-Ok w ↦ rw w.answer-is (sending_replied _ _ _ _ _ w.send_all.ensures)
  | in-Have+in-Err w ↦ rw w.answer-is (not_failed c.in-Some.node.now.node w.in-Have.window _ w.in-Err.ensures.err)
  | in-Data w ↦ rw w.answer-is (bringing_replied _ _ _ _ _ _ _ w.bring-answer.ensures.brings)
]

pub invariant_of-self-in_default-packet_at : goal.invariant_of-self-in_default-packet_at
invariant_of-self-in_default-packet_at g c = (
  c.self.invariant.0,
  looked_up c.self.inside.highest c.self.inside.desks c.self.inside.all.entries _ c.args.number c.in-Some.node.now
      (sym c.in-Some.ensures.value) (c.get_mut.follows.holds c.in-Some.node.now).0 c.self.invariant.1,
)

pub invariant_of-self-2 : goal.invariant_of-self-2
invariant_of-self-2 g c = (
  c.self.invariant.0,
  changed_up c.self.inside.highest _ c.self.inside.desks c.raised-self-inside.ensures.at_least c.self.inside.all.entries _ c.args.number c.in-Some.node.now c.match-sent.node
      (sym c.in-Some.ensures.value) (c.get_mut.follows.holds c.match-sent.node).0 c.self.invariant.1
      (subst (IsUpTo c.raised-self-inside.result) c.saved.ensures.saved c.raised-self-inside.ensures.covers)
      (elim c.match-sent.branch [
        | in-Full w ↦ rw w.node-is w.receive-answer.ensures.desks
        | in-Delta w ↦ rw w.node-is w.receive-answer-in-Delta.ensures.desks
        | in-Have+in-Ok w ↦ rw w.node-is refl
        | in-Have+in-Err w ↦ rw w.node-is refl
        | in-Data w ↦ rw w.node-is w.bring-answer.ensures.desks
      ]),
)

pub invariant_of-self : goal.invariant_of-self
invariant_of-self g c =
    (c.self.invariant.0, left_up c.self.inside.highest c.self.inside.desks c.self.inside.all.entries _ (ap (λ (t : BTreeMap ℕ (NodeOver g.row.K.Denot)). t.entries) c.get_mut.follows.holds-at-none) c.self.invariant.1)

pub bring-answer-requires : goal.bring-answer-requires
bring-answer-requires g c =
    let count = desked c.self.inside.highest c.self.inside.desks c.self.inside.all.entries c.args.number c.in-Some.node.now (sym c.in-Some.ensures.value) c.self.invariant.1 in
    let some = c.self.invariant.0 in
    record { first = omega arith; last = omega (arith, count, some) }
