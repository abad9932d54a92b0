-- A packet comes to a crew, as the line that delivers it does in the world.
use Rattle.std.proofs.Common.{◌≡◌, ◌∙◌, ◌∷◌, [], ℕ, List, Some, Result, Ok, Err, false}
use Rattle.std.proofs.Common.{inl, inr, refl, sym, ap, subst}
use Rattle.fl_bench.specs.laws.Puts.{none_some}
use Rattle.fl_jobs.specs.declared.answer.Refusal.TheVariants.{Memory}
use Rattle.fl_labels.specs.SetBy.{SetBy}
use Rattle.fl_makers.specs.Making.{AllowsNoMore, Making}
use Rattle.fl_ops.specs.OpOrder.{op_cmp}
use Rattle.fl_opset.specs.declared.intervals.Intervals.{Intervals}
use Rattle.fl_store.specs.Custody.{Custody}
use Rattle.fl_system.specs.declared.answer.Fault.{Fault}
use Rattle.fl_system.specs.declared.answer.Fault.TheVariants as faults
use Rattle.fl_system.specs.declared.event.Event.{Event}
use Rattle.fl_system.specs.declared.event.Event.TheVariants as event
use Rattle.fl_system.specs.declared.reply.Reply.{Reply}
use Rattle.fl_system.specs.declared.reply.Reply.TheVariants as replies
use Rattle.fl_system.specs.declared.sent.Sent.{Sent}
use Rattle.fl_system.specs.Deliveries.{DeliverAt, WindowAt}
use Rattle.fl_system.specs.Gossip.{IsAnswer}
use Rattle.fl_system.specs.Numbered.{item_at}
use Rattle.fl_system.specs.World.{World}
use Rattle.fl_system.specs.WorldSteps.{Step}
use Rattle.fl_wire.specs.declared.packet.Packet.{Packet}
use Rattle.fl_wire.specs.declared.packet.Packet.TheVariants as packets
use Rattle.fl_one_laws.specs.Ample.{IsAmple}
use Rattle.fl_calls.specs.Answer.{Answer}
use Rattle.fl_calls.specs.Calls.{Says, said_of}
use Rattle.fl_calls.specs.Completing.{Completes}
use Rattle.fl_calls.specs.Over.{Trusts}
use Rattle.fl_turns.specs.Answer.{said}
use Rattle.fl_turn_laws.specs.Certain.{IsSure}
use Rattle.fl_workers.specs.Over.{CrewOver}
use Rattle.fl_crew_calls.specs.Asking.{AnswersWindow, Comes, DeliversAt, is_window, only_reply}
use Rattle.fl_crew_calls.specs.Batches.{ServesBatch}
use Rattle.fl_crew_calls.specs.Over.{CrewsOver, IsCrewAt}
use Rattle.fl_one_worker_calls.specs.Crews.{AreFew, AreSound, AreWhole, IsWorldOf, Leads}
use Rattle.fl_one_worker_calls.specs.Worlds.{CompletesAll}
use Rattle.fl_one_worker_calls.proofs.Serving.{sent_at}
use Rattle.fl_one_worker_scripts.proofs.Ties.{AreHeld, Meets, Ties}
use Rattle.fl_one_worker_scripts.proofs.Mirroring.{is_not_stopped, is_running, mirrored, says_meet}
use Rattle.fl_one_worker_scripts.proofs.Held.{batch_held, batch_maker, batch_trusts, same_held}
use Rattle.fl_one_worker_scripts.proofs.Held.{same_trusts}
use Rattle.fl_one_worker_scripts.proofs.Telling.{sends_crews, sends_meet}

-- what the law of crews of one worker says of a packet
abbrev pub PacketLeads : {K : Type 0} (M : Type 0) → Custody K → Type 0
PacketLeads {K} M custody =
    (old new : CrewsOver K M) (w : World) (number index : ℕ) (packet : Packet)
    (told : List Reply) → IsWorldOf old w → AreSound custody old → AreSound custody new
    → AreFew new → item_at old.sent index ≡ Some packet → is_window packet ≡ false
    → ServesBatch custody old number [] (packet ∷ []) (Ok told) new
    → Leads w (event.Deliver index number ∷ []) told new

-- ---- what is sure

sure_refused : (packet : Packet) (fault : Fault)
    → IsSure (said (said_of packet (replies.Refused fault))) → IsAmple (replies.Refused fault)
sure_refused (packets.Full batch) fault sure = sure
sure_refused (packets.Have window) fault sure = sure
sure_refused (packets.Delta batch) fault sure = sure
sure_refused (packets.Data d) fault sure = sure

sure_reply : (packet : Packet) (reply : Reply) → IsSure (said (said_of packet reply))
    → IsAmple reply
sure_reply packet reply sure = record {
  memory = λ e.
      (sure_refused packet (faults.Refused Memory)
      (subst (λ (r : Reply). IsSure (said (said_of packet r))) e sure)).memory refl;
  keeper = λ e.
      (sure_refused packet faults.KeeperFailed
      (subst (λ (r : Reply). IsSure (said (said_of packet r))) e sure)).keeper refl;
}

-- ---- one event has one reply

one_reply : (v w : World) (e : Event) (told : List Reply) → CompletesAll v (e ∷ []) told w
    → Completes v e (only_reply (Ok told)) w
one_reply v w e [] h = absurd h
one_reply v w e (reply ∷ []) (mid, completes, same) =
    subst (λ (u : World). Completes v e reply u) (sym same) completes
one_reply v w e (reply ∷ other ∷ told) (mid, completes, rest) = absurd rest

module _ {K M : Type 0} (custody : Custody K) (making : Making M K) (maker : M)
    (between : CrewsOver K M) (v : World) (ties : Ties custody making maker between v)
    (number : ℕ) where
  -- a batch of a crew that is there is begun, but for want of memory
  is_begun : (batch : List Packet) (new : CrewsOver K M) (result : Result (List Reply) Fault)
      (fault : Fault) → (crew : CrewOver K) × IsCrewAt between number crew → result ≡ Err fault
      → IsAmple (replies.Refused fault) → ServesBatch custody between number [] batch result new
      → ⊥
  is_begun batch new result fault here is sure (ServesBatch.served at served) = cc
  is_begun batch new result fault here is sure
      (ServesBatch.unbegun {crew} {fault = its} at why unbegun still) =
      elim why [
        | inl halted ↦
            (let runs = (ties.sound number crew at).runs in let stopped = halted.1 in cc)
        | inr starved ↦
            (let same : its ≡ fault = cc in sure.memory (ap replies.Refused (sym same ∙ starved)))
      ]
  is_begun batch new result fault here is sure ServesBatch.no_room =
      let same : faults.Refused Memory ≡ fault = cc in
      sure.memory (ap replies.Refused (sym same))
  is_begun batch new result fault here is sure (ServesBatch.no_crew none) =
      none_some none here.1

  module _ (index : ℕ) (follow : PacketLeads M custody) (packet : Packet)
      (listed : item_at between.sent index ≡ Some packet) (new : CrewsOver K M)
      (sound : AreSound custody new) (few : AreFew new)
      (here : (crew : CrewOver K) × IsCrewAt between number crew) where
    batch_meets : is_window packet ≡ false → (result : Result (List Reply) Fault)
        → IsAmple (only_reply result)
        → ServesBatch custody between number [] (packet ∷ []) result new
        → Meets making maker
        (λ w'. Completes v (event.Deliver index number) (only_reply result) w') new
    batch_meets other (Ok told) sure serves =
        let leads =
        follow between new v number index packet told ties.stands ties.sound sound few listed other
        serves in
        let still = batch_maker custody between number [] (packet ∷ []) (Ok told) new serves in
        record {
          world = leads.world;
          steps = one_reply v leads.world (event.Deliver index number) told leads.completes;
          stands = leads.stands;
          allows = subst (λ (m : M). AllowsNoMore making maker m) (sym still) ties.allows;
        }
    batch_meets other (Err fault) sure serves =
        absurd (is_begun (packet ∷ []) new (Err fault) fault here refl sure serves)

  module _ (index : ℕ) (sent : Sent) (there : item_at v.packets index ≡ Some sent)
      (window : Intervals) (is : sent.packet ≡ packets.Have window) where
    window_meets : (new : CrewsOver K M) (reply : Reply) → IsAmple reply
        → AnswersWindow between number window reply new
        → Meets making maker (λ w'. Completes v (event.Deliver index number) reply w') new
    window_meets new reply sure (AnswersWindow.answers {crew} {told} at runs answer sends) =
        let it = mirrored between v number crew ties at in
        sends_meet custody making maker between new v number (event.Deliver index number) told reply
        ties
        (Step.deliver there it.there
        (DeliverAt.have is (WindowAt.answers (is_running it.place.node.state it.mirrors.still)
        (subst (λ (saved : SetBy op_cmp). IsAnswer saved window told) (sym it.mirrors.saved)
        answer))))
        sure sends
    window_meets new reply sure (AnswersWindow.stopped {crew} at halted) =
        absurd (let runs = (ties.sound number crew at).runs in cc)
    window_meets new reply sure (AnswersWindow.nothing {crew} {fault} at runs why) =
        absurd (elim why [
          | inl stops ↦ is_not_stopped crew.node.node.state fault
              (ties.sound number crew at).listed.state stops
          | inr starved ↦ sure.memory (ap replies.Refused starved.1)
        ])

  comes_meet : (index : ℕ) (follow : PacketLeads M custody) (packet : Packet) (sent : Sent)
      → item_at between.sent index ≡ Some packet → item_at v.packets index ≡ Some sent
      → sent.packet ≡ packet → (new : CrewsOver K M) → AreSound custody new → AreFew new
      → (crew : CrewOver K) × IsCrewAt between number crew → (reply : Reply) → IsAmple reply
      → Comes custody between number packet reply new
      → Meets making maker (λ w'. Completes v (event.Deliver index number) reply w') new
  comes_meet index follow packet sent listed there is new sound few here reply sure
      (Comes.window {window} answered) =
      window_meets index sent there window is new reply sure answered
  comes_meet index follow packet sent listed there is new sound few here reply sure
      (Comes.batch {result} other serves) =
      batch_meets index follow packet listed new sound few here other result sure serves
  comes_meet index follow packet sent listed there is new sound few here reply sure
      (Comes.no_room other) = absurd (sure.memory refl)

  pub delivers : PacketLeads M custody → (index : ℕ) (packet : Packet) (new : CrewsOver K M)
      (answer : Answer) → AreSound custody new → AreFew new → IsSure (said answer)
      → item_at between.sent index ≡ Some packet
      → (crew : CrewOver K) × IsCrewAt between number crew
      → DeliversAt custody between number packet answer new
      → (sent : Sent) × (item_at v.packets index ≡ Some sent) × (sent.packet ≡ packet)
      × Meets making maker
      (λ w'. Says (said_of sent.packet) (Completes v (event.Deliver index number)) answer w') new
  delivers follow index packet new answer sound few sure listed here
      (DeliversAt.comes {reply} comes) =
      let it =
      sent_at v index packet
      (ap (λ (l : List Packet). item_at l index) ties.stands.packets ∙ listed) in (
        it.sent,
        it.there,
        it.is,
        says_meet making maker (said_of it.sent.packet) (Completes v (event.Deliver index number))
            answer reply new (ap (λ (p : Packet). said_of p reply) (sym it.is))
            (comes_meet index follow packet it.sent listed it.there it.is new sound few here reply
            (sure_reply packet reply sure) comes),
      )

-- ---- what the keepers hold

module _ {K M : Type 0} (custody : Custody K) (between : CrewsOver K M) (number : ℕ) where
  window_crews : (new : CrewsOver K M) (window : Intervals) (reply : Reply)
      → AnswersWindow between number window reply new → new.crews ≡ between.crews
  window_crews new window reply (AnswersWindow.answers {told} at runs answer sends) =
      sends_crews between new told reply sends
  window_crews new window reply (AnswersWindow.stopped at halted) = refl
  window_crews new window reply (AnswersWindow.nothing at runs why) = refl

  comes_trusts : (new : CrewsOver K M) (packet : Packet) (reply : Reply) → AreSound custody new
      → Comes custody between number packet reply new → (crew : CrewOver K)
      → IsCrewAt between number crew → Trusts custody crew.node.keeper
  comes_trusts new packet reply sound (Comes.window {window} answered) crew at =
      same_trusts custody between new (window_crews new window reply answered) sound number crew at
  comes_trusts new packet reply sound (Comes.batch {result} other serves) crew at =
      batch_trusts custody between number [] (packet ∷ []) result new sound serves crew at
  comes_trusts new packet reply sound (Comes.no_room other) crew at =
      (sound number crew at).trusts

  pub delivers_trusts : (packet : Packet) (new : CrewsOver K M) (answer : Answer)
      → AreSound custody new → DeliversAt custody between number packet answer new
      → (crew : CrewOver K) → IsCrewAt between number crew → Trusts custody crew.node.keeper
  delivers_trusts packet new answer sound (DeliversAt.comes {reply} comes) crew at =
      comes_trusts new packet reply sound comes crew at

  comes_held : (new : CrewsOver K M) (packet : Packet) (reply : Reply) → AreHeld custody between
      → AreSound custody new → AreWhole custody new
      → Comes custody between number packet reply new → AreHeld custody new
  comes_held new packet reply held sound whole (Comes.window {window} answered) =
      same_held custody between new (window_crews new window reply answered) held
  comes_held new packet reply held sound whole (Comes.batch {result} other serves) =
      batch_held custody between number [] (packet ∷ []) result new held sound whole serves
  comes_held new packet reply held sound whole (Comes.no_room other) = held

  pub delivers_held : (packet : Packet) (new : CrewsOver K M) (answer : Answer)
      → AreHeld custody between → AreSound custody new → AreWhole custody new
      → DeliversAt custody between number packet answer new → AreHeld custody new
  delivers_held packet new answer held sound whole (DeliversAt.comes {reply} comes) =
      comes_held new packet reply held sound whole comes
