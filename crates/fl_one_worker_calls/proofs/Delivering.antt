-- What a node does with a packet is what a line that delivers it does in a world where the node
-- stands.
use Rattle.std.proofs.Common.{◌≡◌, ◌<◌, ℕ, List, [], ◌∷◌, ◌++◌, map, length, Some, ◌⊎◌, inl, inr}
use Rattle.std.proofs.Common.{Result, Ok, Err, true, refl, sym, ap, ◌∙◌, subst, arith}
use Rattle.fl_labels.specs.SetBy as set
use Rattle.fl_labels.specs.SetBy.{SetBy}
use Rattle.fl_message.specs.declared.message.Data.{Data}
use Rattle.fl_ops.specs.OpOrder.{op_cmp}
use Rattle.fl_jobs.specs.declared.answer.Reply as jobs
use Rattle.fl_jobs.specs.declared.answer.Refusal.TheVariants.{Memory}
use Rattle.fl_store.specs.Kept.{Kept}
use Rattle.fl_system.specs.declared.answer.Fault.{Fault}
use Rattle.fl_system.specs.declared.answer.Fault.TheVariants as faults
use Rattle.fl_system.specs.declared.event.Event.{Event}
use Rattle.fl_system.specs.declared.event.Event.TheVariants as event
use Rattle.fl_system.specs.declared.reply.Reply as world
use Rattle.fl_system.specs.declared.reply.Reply.TheVariants as replies
use Rattle.fl_system.specs.declared.sent.Sent.{Sent}
use Rattle.fl_system.specs.declared.state.Batch as pending
use Rattle.fl_system.specs.declared.state.Batch.TheVariants.{Received}
use Rattle.fl_system.specs.declared.state.Pending.TheVariants.{Unsaved, Due}
use Rattle.fl_system.specs.declared.state.State.TheVariants.{Running}
use Rattle.fl_system.specs.Arrives.{Arrives}
use Rattle.fl_system.specs.Deliveries.{BatchAt, DeliverAt, MessageAt}
use Rattle.fl_system.specs.Numbered.{item_at}
use Rattle.fl_system.specs.Publishes.{Publishes}
use Rattle.fl_system.specs.Receives.{Receives}
use Rattle.fl_system.specs.Saves.{Saves}
use Rattle.fl_system.specs.State.{NodeState}
use Rattle.fl_system.specs.World.{World, KeptNode, went}
use Rattle.fl_system.specs.WorldCalls.{PublishAt}
use Rattle.fl_system.specs.WorldSteps.{IsAt, Step}
use Rattle.fl_wire.specs.declared.batch.Batch.{Batch}
use Rattle.fl_wire.specs.declared.packet.Packet.TheVariants as packets
use Rattle.fl_calls.specs.Completing.{Completes, Finishes}
use Rattle.fl_crew_model.specs.declared.record.Told.{Told}
use Rattle.fl_dealing.specs.Shown.{reply_of}
use Rattle.fl_dealing.specs.declared.entry.Reply.{Reply}
use Rattle.fl_crew_calls.specs.Told.{reply_behind, sent_by}
use Rattle.fl_one_worker_laws.specs.Completing.{MessageCompletes, OpsComplete}
use Rattle.fl_crew_model.specs.Woven.{told_of}
use Rattle.fl_one_worker_calls.specs.Worlds.{packets_in}
use Rattle.fl_one_worker_calls.proofs.Lifting.{Lifted, at_once, in_steps}

-- ---- what is saved is what came

record IsTaking (n : NodeState) (count : ℕ) : Type 0 where
  pub ops : SetBy op_cmp
  pub state : n.state ≡ Running (Unsaved (Received ops))
  pub counted : set.len ops ≡ count

record IsTaken (n : NodeState) (count : ℕ) : Type 0 where
  pub ops : SetBy op_cmp
  pub state : n.state ≡ Running (Due (Received ops))
  pub counted : set.len ops ≡ count

receives_as : {n : NodeState} {ops : SetBy op_cmp} {r : Result ℕ Fault} {n' : NodeState} (count : ℕ)
    → 0 < count → Receives n ops r n' → r ≡ Ok count → IsTaking n' count
receives_as count some (Receives.stopped why) is = absurd (cc)
receives_as count some (Receives.no_room on new) is = absurd (cc)
receives_as count some (Receives.impostor on first bad) is = absurd (cc)
receives_as count some (Receives.clash on first bad) is = absurd (cc)
receives_as count some (Receives.nothing_new on may all) is =
    absurd (let zero : 0 ≡ count = cc in omega arith)
receives_as count some (Receives.taken op on may there new why) is = absurd (cc)
receives_as count some (Receives.receives {new} idle may lacking more) is = record {
  ops = new;
  state = refl;
  counted = cc;
}

saves_as : {n : NodeState} {k : Kept} {r : Result (Unit {0}) Fault} {n' : NodeState} {k' : Kept}
    (count : ℕ) → IsTaking n count → Saves n k r n' k' → r ≡ Ok tt → IsTaken n' count
saves_as count taking (Saves.saved {batch} is) fine =
    let at = taking.state in
    let same : batch ≡ Received taking.ops = cc in
    record {
      ops = taking.ops;
      state = ap (λ (b : pending.Batch). Running (Due b)) same;
      counted = taking.counted;
    }
saves_as count taking (Saves.no_room is) fine = absurd (cc)
saves_as count taking (Saves.failed is left) fine = absurd (cc)
saves_as count taking (Saves.none why) fine = absurd (cc)

module _ (w : World) (number : ℕ) (s : KeptNode) (at : IsAt w number s) (index : ℕ) (sent : Sent)
    (there : item_at w.packets index ≡ Some sent) where
  abbrev comes : Event
  comes = event.Deliver index number

  -- ---- a message

  message_at : (d : Data) → sent.packet ≡ packets.Data d → (result : Result jobs.Reply Fault)
      (n' : NodeState) → Arrives s.node d result n' → (told : Told) → told ≡ told_of result
      → Lifted w number comes (reply_behind (length (packets_in w)) (Reply.Told told))
      (sent_by (Reply.Told told)) n' s.kept
  message_at d is (Ok reply) n' h told said =
      subst (λ (t : Told). Lifted w number comes
      (reply_behind (length (packets_in w)) (Reply.Told t)) (sent_by (Reply.Told t)) n' s.kept) (sym said)
      (at_once w number s.kept comes (replies.Job reply) n' [] _
      (Completes.at_once refl (Step.deliver there at
      (DeliverAt.message is (MessageAt.arrives h)))))
  message_at d is (Err fault) n' h told said =
      subst (λ (t : Told). Lifted w number comes
      (reply_behind (length (packets_in w)) (Reply.Told t)) (sent_by (Reply.Told t)) n' s.kept) (sym said)
      (at_once w number s.kept comes (replies.Refused fault) n' [] _
      (Completes.at_once refl (Step.deliver there at
      (DeliverAt.message is (MessageAt.refused h)))))

  pub message_lifted : (d : Data) → sent.packet ≡ packets.Data d → (told : Told) (n' : NodeState)
      (k' : Kept) → MessageCompletes s.node s.kept d told n' k'
      → Lifted w number comes (reply_behind (length (packets_in w)) (Reply.Told told))
      (sent_by (Reply.Told told)) n' k'
  message_lifted d is told n' k' h =
      subst (λ (k : Kept). Lifted w number comes
      (reply_behind (length (packets_in w)) (Reply.Told told)) (sent_by (Reply.Told told)) n' k)
      (sym h.kept) (message_at d is h.result n' h.arrives told h.is_told)

  -- ---- operations

  module _ (batch : Batch)
      (is : (sent.packet ≡ packets.Full batch) ⊎ (sent.packet ≡ packets.Delta batch)) where
    ops_finish : (count : ℕ) (begun : NodeState)
        → Receives s.node (set.of_list batch.ops) (Ok count) begun → 0 < count → (reply : world.Reply) (w' : World)
        → Finishes (went w number begun s.kept [] []) number reply w' → Completes w comes reply w'
    ops_finish count begun h some reply w' finishes =
        Completes.in_steps refl (Step.deliver there at (DeliverAt.ops is (BatchAt.takes h some)))
        finishes

    pub ops_lifted : (result : Result ℕ Fault) (n' : NodeState) (k' : Kept)
        → OpsComplete s.node s.kept (set.of_list batch.ops) result n' k'
        → Lifted w number comes (reply_behind (length (packets_in w)) (reply_of result))
        (sent_by (reply_of result)) n' k'
    ops_lifted result n' k' (OpsComplete.nothing_new h) =
        at_once w number s.kept comes (replies.Took 0) n' [] []
        (Completes.at_once refl (Step.deliver there at (DeliverAt.ops is (BatchAt.nothing_new h))))
    ops_lifted result n' k' (OpsComplete.refused {fault} h) =
        at_once w number s.kept comes (replies.Refused fault) n' [] []
        (Completes.at_once refl (Step.deliver there at (DeliverAt.ops is (BatchAt.refused h))))
    ops_lifted result n' k' (OpsComplete.taken {count} {begun} {saved} some h saves publishes) =
        let taken = saves_as count (receives_as count some h refl) saves refl in
        in_steps w number s.kept comes [] begun saved n' k' (replies.Took count)
        (ops_finish count begun h some (replies.Took count)) saves
        (λ v. subst (λ (c : ℕ). PublishAt v number (record { node = saved; kept = k' })
        (replies.Took c) (went v number n' k' [] [])) taken.counted
        (PublishAt.received taken.state publishes))
    ops_lifted result n' k' (OpsComplete.due {count} {begun} some h saves publishes) =
        in_steps w number s.kept comes [] begun n' n' k' (replies.Refused (faults.Refused Memory))
        (ops_finish count begun h some (replies.Refused (faults.Refused Memory))) saves
        (λ v. PublishAt.refused publishes)
