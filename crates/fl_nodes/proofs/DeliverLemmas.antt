-- A packet that comes to a node as a step of the world.
use Rattle.std.proofs.Common.{◌≡◌, ◌⊎◌, ◌++◌, ◌∙◌, refl, sym, ap, subst, ℕ, zero, suc, List, [], ◌∷◌, Some, None, inl, inr}
use Rattle.std.proofs.lemmas.Cmp.{nat_cmp_total}
use Rattle.std.proofs.lemmas.List.{append-nil}
use Rattle.std.specs.BTreeMap.{is_at}
use Rattle.std.specs.FinMap as map
use Rattle.std.specs.FinMap.{nat_cmp-IsAntisymmetric}
use Rattle.std.specs.List.{slice_get}
use Rattle.std.specs.Map.{lookup, set_value}
use Rattle.std.specs.Ordering.{nat_cmp}
use Rattle.fl_labels.specs.SetBy as set
use Rattle.fl_mailbox.specs.laws.Tables.{put_same, put_through}
use Rattle.fl_message.specs.declared.message.Data.{Data}
use Rattle.fl_gossip.specs.Taking.{ops_of}
use Rattle.fl_ops.specs.declared.op.Op.{Op}
use Rattle.fl_ops.specs.OpOrder.{op_cmp}
use Rattle.fl_opset.specs.declared.intervals.Intervals.{Intervals}
use Rattle.fl_store.specs.Custody.{Custody}
use Rattle.fl_wire.specs.declared.batch.Batch.{Batch}
use Rattle.fl_wire.specs.declared.packet.Packet.{Packet}
use Rattle.fl_wire.specs.declared.packet.Packet.TheVariants as packet
use Rattle.fl_store.specs.Kept.{Kept}
use Rattle.fl_jobs.specs.declared.answer.Refusal.TheVariants.{Memory}
use Rattle.fl_system.specs.declared.admission.Admission.{Admission}
use Rattle.fl_system.specs.declared.answer.Fault.{Fault}
use Rattle.fl_system.specs.declared.answer.Fault.TheVariants as faults
use Rattle.fl_system.specs.declared.event.Event.TheVariants as event
use Rattle.fl_system.specs.declared.reply.Reply.{Reply}
use Rattle.fl_system.specs.declared.reply.Reply.TheVariants as reply
use Rattle.fl_system.specs.declared.sent.Sent.{Sent}
use Rattle.fl_system.specs.Deliveries.{BatchAt, MessageAt, WindowAt, DeliverAt}
use Rattle.fl_system.specs.Gossip.{IsAnswer}
use Rattle.fl_system.specs.Numbered.{item_at}
use Rattle.fl_system.specs.State.{NodeState}
use Rattle.fl_system.specs.Waiting.{IsRunning}
use Rattle.fl_system.specs.World.{World, went}
use Rattle.fl_system.specs.WorldSteps.{Step, IsAt}
use Rattle.fl_node.specs.Over.{NodeOver}
use Rattle.fl_node.specs.Telling.{AnswersNothing}
use Rattle.fl_nodes.specs.Over.{WorldOver}
use Rattle.fl_nodes.specs.Goes.{MayBe, Goes}
use Rattle.fl_machine_model.specs.Alone.{BatchAlone, MessageAlone}
use Rattle.fl_notes.specs.Bringing.{Brought}
use Rattle.fl_nodes.specs.parts.Delivering.{Sends, packet_of}
use Rattle.fl_nodes.proofs.Lifting.{lifts_kept, over_went, stays, with_kept}
use Rattle.fl_nodes.proofs.Entries.{changed, held, of_entries}
use Rattle.fl_nodes.proofs.TellLemmas.{tells, kept_so, lacks_some}

-- ---- packets by their numbers

no_item : {A : Type 0} (xs : List A) → item_at xs zero ≡ None
no_item [] = refl
no_item (x ∷ xs) = refl

item_is : {A : Type 0} (xs : List A) (before : ℕ) → item_at xs (suc before) ≡ slice_get xs before
item_is [] before = refl
item_is (x ∷ xs) zero = refl
item_is (x ∷ xs) (suc before) = item_is xs before

numbered : (xs : List Sent) (k : ℕ) → item_at xs k ≡ packet_of xs k
numbered xs zero = no_item xs
numbered xs (suc before) = item_is xs before

-- ---- one node

-- what is left as it was is the same world
same_world : (w : World) (number : ℕ) (n : NodeState) (k : Kept) → IsAt w number (with_kept n k) → went w number n k [] [] ≡ w
same_world w number n k at =
    let nodes : map.insert w.nodes number (with_kept n k) ≡ w.nodes = put_same nat_cmp_total nat_cmp-IsAntisymmetric w.nodes number (with_kept n k) at in
    λ i. record { desks = w.desks; nodes = nodes i; packets = append-nil w.packets i; audit = append-nil w.audit i }

message_at : (w : World) (number : ℕ) (n n' : NodeState) (k : Kept) (s : Sent) (d : Data) (result : Reply) (admitted : List Admission)
    → IsAt w number (with_kept n k) → MessageAlone n s.sender d result n' admitted
    → MessageAt w number (with_kept n k) s d result (went w number n' k [] admitted)
message_at w number n n' k s d result admitted at (MessageAlone.arrives h) = MessageAt.arrives h
message_at w number n n' k s d result admitted at (MessageAlone.refused h) = MessageAt.refused h
message_at w number n n' k s d result admitted at (MessageAlone.no_room running) =
    subst (λ w'. MessageAt w number (with_kept n k) s d (reply.Refused (faults.Refused Memory)) w') (sym (same_world w number n k at))
    (MessageAt.no_room running)

batch_at : (w : World) (number : ℕ) (n n' : NodeState) (k : Kept) (ops : List Op) (result : Reply) → BatchAlone n (set.of_list {R = op_cmp} ops) result n'
    → BatchAt w number (with_kept n k) ops result (went w number n' k [] [])
batch_at w number n n' k ops result (BatchAlone.nothing_new h) = BatchAt.nothing_new h
batch_at w number n n' k ops result (BatchAlone.takes h more) = BatchAt.takes h more
batch_at w number n n' k ops result (BatchAlone.refused h) = BatchAt.refused h

-- no such packet was sent
no_such_packet : {K : Type 0} (custody : Custody K) (old new : WorldOver K) (k number : ℕ) → new ≡ old
    → item_at old.packets k ≡ None → Goes custody old new (λ w w'. Step w (event.Deliver k number) reply.NoSuch w')
no_such_packet custody old new k number same none =
    subst (λ n. Goes custody old n (λ w w'. Step w (event.Deliver k number) reply.NoSuch w')) (sym same)
    (stays custody old _ (λ w is. Step.no_packet (ap (λ l. item_at l k) is.packets ∙ none)))

module _ {K : Type 0} (custody : Custody K) {desks : ℕ} (es fs : List (ℕ × NodeOver K)) (packets : List Sent)
    (audit : List Admission) (old : WorldOver K) (is : of_entries desks es packets audit ≡ old) (number : ℕ)
    (x y : NodeOver K) (there : lookup (is_at (nat_cmp number)) es ≡ Some x) (left : fs ≡ set_value (is_at (nat_cmp number)) es y) where
  at_old : map.get old.nodes number ≡ Some x
  at_old = sym (held es es packets audit old is number) ∙ there

  same_packets : packets ≡ old.packets
  same_packets = ap (λ (w : WorldOver K). w.packets) is

  -- the node was left
  pub put_back : y ≡ x → of_entries desks fs packets audit ≡ old
  put_back same =
      changed es fs packets audit old is number x y there left
      ∙ (λ i. record {
        desks = old.desks;
        nodes = (ap (λ n. map.insert old.nodes number n) same ∙ put_same nat_cmp_total nat_cmp-IsAntisymmetric old.nodes number x at_old) i;
        packets = append-nil old.packets i;
        audit = append-nil old.audit i;
      })

  -- the node was left, and no such packet was sent
  pub no_packet : (k : ℕ) → y ≡ x → packet_of packets k ≡ None
      → Goes custody old (of_entries desks fs packets audit) (λ w w'. Step w (event.Deliver k number) reply.NoSuch w')
  no_packet k same none = no_such_packet custody old _ k number (put_back same) (ap (λ l. item_at l k) (sym same_packets) ∙ numbered packets k ∙ none)

  module _ (k : ℕ) (s : Sent) (sent_is : packet_of packets k ≡ Some s) where
    found : (w : World) → MayBe custody old w → item_at w.packets k ≡ Some s
    found w may_be = ap (λ l. item_at l k) (may_be.packets ∙ sym same_packets) ∙ numbered packets k ∙ sent_is

    is_new : (admitted audit_after : List Admission) → audit_after ≡ audit ++ admitted → of_entries desks fs packets audit_after ≡ over_went old number y [] admitted
    is_new admitted audit_after noted =
        let nodes : map.from_entries fs ≡ map.insert old.nodes number y =
        put_through nat_cmp_total nat_cmp-IsAntisymmetric es fs old.nodes number x y (ap (λ (w : WorldOver K). w.nodes) is) there left in
        λ i. record {
          desks = (ap (λ (w : WorldOver K). w.desks) is) i;
          nodes = nodes i;
          packets = (same_packets ∙ sym (append-nil old.packets)) i;
          audit = (noted ∙ ap (λ (w : WorldOver K). w.audit ++ admitted) is) i;
        }

    pub delivers_message : (d : Data) (result : Reply) (audit_after : List Admission) → s.packet ≡ packet.Data d → y.keeper ≡ x.keeper
        → Brought x.node s.sender d result y.node audit audit_after
        → Goes custody old (of_entries desks fs packets audit_after) (λ w w'. Step w (event.Deliver k number) result w')
    delivers_message d result audit_after kind same h =
        lifts_kept custody old number x y [] h.admitted at_old (of_entries desks fs packets audit_after) _ (is_new h.admitted audit_after h.admitted_is) same
        (λ w kept at may_be. Step.deliver (found w may_be) at
        (DeliverAt.message kind (message_at w number x.node y.node kept s d result h.admitted at h.brings)))

    ops_are : (batch : Batch) → (s.packet ≡ packet.Full batch) ⊎ (s.packet ≡ packet.Delta batch) → ops_of s.packet ≡ batch.ops
    ops_are batch (inl e) = ap ops_of e
    ops_are batch (inr e) = ap ops_of e

    pub delivers_ops : (batch : Batch) (result : Reply) → (s.packet ≡ packet.Full batch) ⊎ (s.packet ≡ packet.Delta batch) → y.keeper ≡ x.keeper
        → BatchAlone x.node (set.of_list {R = op_cmp} (ops_of s.packet)) result y.node
        → Goes custody old (of_entries desks fs packets audit) (λ w w'. Step w (event.Deliver k number) result w')
    delivers_ops batch result kind same h =
        lifts_kept custody old number x y [] [] at_old (of_entries desks fs packets audit) _ (is_new [] audit (sym (append-nil audit))) same
        (λ w kept at may_be. Step.deliver (found w may_be) at
        (DeliverAt.ops kind (batch_at w number x.node y.node kept batch.ops result
        (subst (λ ops. BatchAlone x.node (set.of_list {R = op_cmp} ops) result y.node) (ops_are batch kind) h))))

    pub delivers_window : (window : Intervals) (told : List Packet) (result : Reply) (packets_after : List Sent) → s.packet ≡ packet.Have window → y ≡ x
        → IsRunning x.node.state → IsAnswer x.node.saved window told → Sends number told packets result packets_after
        → Goes custody old (of_entries desks fs packets_after audit) (λ w w'. Step w (event.Deliver k number) result w')
    delivers_window window told result packets_after kind same running answer h =
        tells custody old number x at_old (event.Deliver k number) (of_entries desks fs packets_after audit) told packets packets_after result same_packets
        (ap (λ (w : WorldOver K). record w { packets = packets_after }) (put_back same)) h
        (λ some w kept at may_be. Step.deliver (found w may_be) at (DeliverAt.have kind (WindowAt.no_room running (lacks_some x.node.saved window told answer some))))
        (λ w kept at may_be. Step.deliver (found w may_be) at (DeliverAt.have kind (WindowAt.answers running answer)))

    pub window_refused : (window : Intervals) (fault : Fault) → s.packet ≡ packet.Have window → y ≡ x → AnswersNothing x.node window fault
        → Goes custody old (of_entries desks fs packets audit) (λ w w'. Step w (event.Deliver k number) (reply.Refused fault) w')
    window_refused window fault kind same (inl stopped) =
        kept_so custody old number x at_old (of_entries desks fs packets audit) _ (put_back same)
        (λ w kept at may_be. Step.deliver (found w may_be) at (DeliverAt.have kind (WindowAt.stopped stopped)))
    window_refused window fault kind same (inr (running, memory, some)) =
        subst (λ f. Goes custody old (of_entries desks fs packets audit) (λ w w'. Step w (event.Deliver k number) (reply.Refused f) w')) (sym memory)
        (kept_so custody old number x at_old (of_entries desks fs packets audit) _ (put_back same)
        (λ w kept at may_be. Step.deliver (found w may_be) at (DeliverAt.have kind (WindowAt.no_room running some))))
