-- The turn of a packet of operations in a crew's run, as moments of a world.
use Rattle.std.proofs.Common.{◌≡◌, ◌∙◌, ◌⊎◌, inl, inr, ℕ, zero, suc, ◌<◌, List, [], ◌∷◌}
use Rattle.std.proofs.Common.{Result, Ok, Err, refl, sym, subst, arith}
use Rattle.std.proofs.lemmas.List.Elements.{Contains-append_right}
use Rattle.fl_labels.specs.SetBy as set
use Rattle.fl_ops.specs.declared.op.Op.{Op}
use Rattle.fl_store.specs.Kept.{Kept, with_batch}
use Rattle.fl_system.specs.declared.answer.Fault.{Fault}
use Rattle.fl_system.specs.declared.event.Event.{Event}
use Rattle.fl_system.specs.declared.event.Event.TheVariants as events
use Rattle.fl_system.specs.declared.reply.Reply as world
use Rattle.fl_system.specs.declared.reply.Reply.TheVariants as replies
use Rattle.fl_system.specs.declared.sent.Sent.{Sent}
use Rattle.fl_system.specs.Deliveries.{BatchAt, DeliverAt}
use Rattle.fl_system.specs.Publishes.{Publishes}
use Rattle.fl_system.specs.Receives.{Receives}
use Rattle.fl_system.specs.Runs.{Moment, Happens}
use Rattle.fl_system.specs.State.{NodeState}
use Rattle.fl_system.specs.World.{World, KeptNode, went}
use Rattle.fl_system.specs.WorldCalls.{SaveAt, PublishAt}
use Rattle.fl_system.specs.WorldSteps.{IsAt, Step}
use Rattle.fl_wire.specs.declared.batch.Batch.{Batch}
use Rattle.fl_wire.specs.declared.packet.Packet.{Packet}
use Rattle.fl_wire.specs.declared.packet.Packet.TheVariants as packets
use Rattle.fl_crew_model.specs.declared.record.Delivery.{Delivery}
use Rattle.fl_crew_model.specs.declared.record.Verdict.TheVariants.{Declined}
use Rattle.fl_crew_model.specs.Woven.{Delivers, SavesAll}
use Rattle.fl_dealing.specs.Shown.{reply_of}
use Rattle.fl_crew_calls.specs.Told.{reply_behind}
use Rattle.fl_one_worker_calls.proofs.Places.{at_number}
use Rattle.fl_crew_worlds.specs.Worlds.{Has, Means, starved}
use Rattle.fl_crew_worlds.proofs.Begun.{receives_as, saves_as}
use Rattle.fl_crew_worlds.proofs.Moments.{first_in, has_in, has_more, means_more, one_led, then_led}
use Rattle.fl_crew_worlds.proofs.Turning.{Brings, Lasts, Turned}
use Rattle.fl_crew_worlds.proofs.Wide.{IsWide, publishes_wide, receives_wide, saves_wide}
use Rattle.fl_crew_worlds.proofs.Wide.{then_follows}

-- its operations come in a packet from somewhere, and where it was declined none of them was taken
pub record IsCarried (from : ℕ → Packet → Type 0) (p : Delivery) : Type 0 where
  pub index : ℕ
  pub packet : Packet
  pub source : from index packet
  pub batch : Batch
  pub is : (packet ≡ packets.Full batch) ⊎ (packet ≡ packets.Delta batch)
  pub ops : p.ops ≡ batch.ops
  pub none : p.verdict ≡ Declined → (count : ℕ) → 0 < count → ¬ (p.answer ≡ Ok count)

-- among the moments it comes to the node, and is answered so
pub record TakenBy (from : ℕ → Packet → Type 0) (number : ℕ) (p : Delivery) (ms : List Moment)
    (more : List Sent) : Type 0 where
  pub index : ℕ
  pub packet : Packet
  pub source : from index packet
  pub first : world.Reply
  pub there : Has ms (events.Deliver index number) first
  pub means : (count : ℕ) → Means number ms first (reply_behind count (reply_of p.answer))

pub taken_lasts : (from : ℕ → Packet → Type 0) (number : ℕ) (p : Delivery)
    → Lasts (TakenBy from number p)
taken_lasts from number p ms later more others part sents h = record {
  index = h.index;
  packet = h.packet;
  source = h.source;
  first = h.first;
  there = has_more part h.there;
  means = λ count. means_more part (h.means count);
}

module _ (size number : ℕ) (from : ℕ → Packet → Type 0) (w : World) (n : NodeState) (k : Kept)
    (at : IsAt w number (record { node = n; kept = k })) (wide : IsWide size n)
    (brings : Brings from w.packets) (p : Delivery) (carried : IsCarried from p) where
  abbrev node_here : KeptNode
  node_here = record { node = n; kept = k }

  abbrev comes : Event
  comes = events.Deliver carried.index number

  step_here : (reply : world.Reply) (w' : World)
      → BatchAt w number node_here carried.batch.ops reply w' → Step w comes reply w'
  step_here reply w' h =
      let it = brings carried.index carried.packet carried.source in
      let is : (it.0.packet ≡ packets.Full carried.batch)
      ⊎ (it.0.packet ≡ packets.Delta carried.batch) =
      elim carried.is [ inl full ↦ inl (it.2 ∙ full) | inr delta ↦ inr (it.2 ∙ delta) ] in
      Step.deliver it.1 at (DeliverAt.ops is h)

  own_ops : {answer : Result ℕ Fault} {n' : NodeState}
      → Receives n (set.of_list p.ops) answer n'
      → Receives n (set.of_list carried.batch.ops) answer n'
  own_ops {answer} {n'} h =
      subst (λ (l : List Op). Receives n (set.of_list l) answer n') carried.ops h

  -- nothing is to be saved
  at_once : {answer : Result ℕ Fault} (reply : world.Reply) (n' : NodeState)
      → Receives n (set.of_list p.ops) answer n'
      → BatchAt w number node_here carried.batch.ops reply (went w number n' k [] [])
      → ((ms : List Moment) (count : ℕ)
      → Means number ms reply (reply_behind count (reply_of p.answer)))
      → Turned size number w n k n' (TakenBy from number p)
  at_once reply n' h comes_so means =
      let after = went w number n' k [] [] in
      let m : Moment = record { move = Happens comes; reply = reply; after = after } in
      let on = receives_wide wide h in
      record {
        moments = m ∷ [];
        more = [];
        kept = k;
        led = one_led number w comes reply n' k [] [] (step_here reply after comes_so);
        same = λ same. same ∙ sym on.1;
        on = on.0;
        done = record {
          index = carried.index;
          packet = carried.packet;
          source = carried.source;
          first = reply;
          there = has_in (m ∷ []) comes reply after (first_in m []);
          means = means (m ∷ []);
        };
      }

  -- what is new is saved, and then published or not
  in_steps : {said : Result ℕ Fault} (count : ℕ) (new : List Op) (begun saved n' : NodeState)
      (reply : world.Reply) → Receives n (set.of_list p.ops) (Ok count) begun → 0 < count
      → SavesAll begun new saved → Publishes saved said n'
      → ((u : World) → PublishAt u number (record { node = saved; kept = with_batch k new }) reply
      (went u number n' (with_batch k new) [] []))
      → ((ms : List Moment) (before : ℕ) → Has ms (events.Publish number) reply
      → Means number ms (replies.Taking count) (reply_behind before (reply_of p.answer)))
      → Turned size number w n k n' (TakenBy from number p)
  in_steps count new begun saved n' reply h some saves publishes publish means =
      let kept = with_batch k new in
      let a = went w number begun k [] [] in
      let b = went a number saved kept [] [] in
      let c = went b number n' kept [] [] in
      let l : Moment =
      record { move = Happens comes; reply = replies.Taking count; after = a } in
      let m : Moment =
      record { move = Happens (events.Save number); reply = replies.Done; after = b } in
      let o : Moment =
      record { move = Happens (events.Publish number); reply = reply; after = c } in
      let all = l ∷ m ∷ o ∷ [] in
      let on = receives_wide wide h in
      let second = saves_wide on.0.wide (saves k) in
      let last = publishes_wide second.on.wide publishes in
      record {
        moments = all;
        more = [];
        kept = kept;
        led =
            then_led
            (one_led number w comes (replies.Taking count) begun k [] []
            (step_here (replies.Taking count) a (BatchAt.takes (own_ops h) some)))
            (then_led
            (one_led number a (events.Save number) replies.Done saved kept [] []
            (Step.save (at_number w number begun k [] []) (SaveAt.saved (saves k))))
            (one_led number b (events.Publish number) reply n' kept [] []
            (Step.publish (at_number a number saved kept [] []) (publish b))));
        same = λ same. second.kept (same ∙ sym on.1) ∙ sym last.1;
        on = then_follows on.0 (then_follows second.on last.0);
        done = record {
          index = carried.index;
          packet = carried.packet;
          source = carried.source;
          first = replies.Taking count;
          there = has_in all comes (replies.Taking count) a (first_in l (m ∷ o ∷ []));
          means = λ before.
              means all before
              (has_in all (events.Publish number) reply c
              (Contains-append_right (l ∷ m ∷ []) (o ∷ []) o (first_in o [])));
        };
      }

  declined_turned : (answer : Result ℕ Fault) (n' : NodeState) → p.answer ≡ answer
      → p.verdict ≡ Declined → Receives n (set.of_list p.ops) answer n'
      → Turned size number w n k n' (TakenBy from number p)
  declined_turned (Ok zero) n' is verdict h =
      at_once (replies.Took 0) n' h (BatchAt.nothing_new (own_ops h))
      (λ ms count. subst (λ (a : Result ℕ Fault). Means number ms (replies.Took 0)
      (reply_behind count (reply_of a))) (sym is) Means.same)
  declined_turned (Ok (suc count)) n' is verdict h =
      absurd (carried.none verdict (suc count) (omega arith) is)
  declined_turned (Err fault) n' is verdict h =
      at_once (replies.Refused fault) n' h (BatchAt.refused (own_ops h))
      (λ ms count. subst (λ (a : Result ℕ Fault). Means number ms (replies.Refused fault)
      (reply_behind count (reply_of a))) (sym is) Means.same)

  pub packet_turned : (n' : NodeState) → Delivers n p n'
      → Turned size number w n k n' (TakenBy from number p)
  packet_turned n' (Delivers.taken count new begun saved verdict some answer h saves publishes) =
      let taken = saves_as count (receives_as count some h refl) (saves k) refl in
      in_steps count new begun saved n' (replies.Took count) h some saves publishes
      (λ u. subst (λ (c : ℕ). PublishAt u number
      (record { node = saved; kept = with_batch k new }) (replies.Took c)
      (went u number n' (with_batch k new) [] [])) taken.counted
      (PublishAt.received taken.state publishes))
      (λ ms before has. subst (λ (a : Result ℕ Fault). Means number ms (replies.Taking count)
      (reply_behind before (reply_of a))) (sym answer) (Means.took has))
  packet_turned n' (Delivers.late count new begun verdict some answer h saves publishes) =
      in_steps count new begun n' n' starved h some saves publishes
      (λ u. PublishAt.refused publishes)
      (λ ms before has. subst (λ (a : Result ℕ Fault). Means number ms (replies.Taking count)
      (reply_behind before (reply_of a))) (sym answer) (Means.took_late has))
  packet_turned n' (Delivers.declined verdict h) = declined_turned p.answer n' refl verdict h
