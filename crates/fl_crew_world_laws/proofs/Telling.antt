-- A crew tells what its node has saved, and answers windows, as the node does in the world.
use Rattle.std.proofs.Common.{◌≡◌, ◌∷◌, [], ℕ, zero, suc, List, length, Option, Some, None}
use Rattle.std.proofs.Common.{refl, sym, ap, subst, arith}
use Rattle.std.proofs.lemmas.List.Elements.{Contains-append_left, Contains-append_right}
use Rattle.std.specs.List.{Contains}
use Rattle.fl_labels.specs.SetBy.{SetBy}
use Rattle.fl_ops.specs.OpOrder.{op_cmp}
use Rattle.fl_opset.specs.declared.intervals.Intervals.{Intervals}
use Rattle.fl_opset.specs.laws.Members.{Contains-cons}
use Rattle.fl_store.specs.Custody.{Custody}
use Rattle.fl_system.specs.declared.event.Event.{Event}
use Rattle.fl_system.specs.declared.event.Event.TheVariants as event
use Rattle.fl_system.specs.declared.reply.Reply.{Reply}
use Rattle.fl_system.specs.declared.reply.Reply.TheVariants as replies
use Rattle.fl_system.specs.declared.sent.Sent.{Sent}
use Rattle.fl_system.specs.declared.state.Batch.{Batch}
use Rattle.fl_system.specs.declared.state.Pending.TheVariants.{Nothing}
use Rattle.fl_system.specs.declared.state.State.{State}
use Rattle.fl_system.specs.declared.state.State.TheVariants.{Running}
use Rattle.fl_system.specs.Deliveries.{DeliverAt, TellAt, WindowAt, has_told}
use Rattle.fl_system.specs.Gossip.{IsAnswer, IsSummary, told_by}
use Rattle.fl_system.specs.Numbered.{item_at}
use Rattle.fl_system.specs.Waiting.{IsRunning}
use Rattle.fl_system.specs.World.{KeptNode, World}
use Rattle.fl_system.specs.WorldJobs.{next_packet}
use Rattle.fl_system.specs.WorldSteps.{Step}
use Rattle.fl_calls.specs.Answer.{Answer}
use Rattle.fl_crew_model.specs.Books.{IsAt}
use Rattle.fl_wire.specs.declared.packet.Packet.{Packet}
use Rattle.fl_wire.specs.declared.packet.Packet.TheVariants as packets
use Rattle.fl_workers.specs.Over.{CrewOver}
use Rattle.fl_crew_calls.specs.Asking.{AnswersWindow, SendsAll, TellsAt}
use Rattle.fl_crew_calls.specs.Over.{CrewsOver}
use Rattle.fl_crew_worlds.specs.Worlds.{IsNodeOf}
use Rattle.fl_crew_world_laws.proofs.Restarting.{step_leads_on}
use Rattle.fl_crew_world_laws.proofs.Ties.{Goes, Ties, place_at, rests, sent_still}
use Rattle.fl_one_worker_calls.specs.Crews.{IsSound}

-- what is told is sent
told_there : (number : ℕ) (told : List Packet) (packet : Packet) → Contains told packet
    → Contains (told_by number told)
    (record { from = number; packet = packet; sender = None })
told_there number [] packet h = absurd (omega (arith, h.1))
told_there number (x ∷ told) packet (zero, inside, at) =
    (0, omega arith, (λ i. record { from = number; packet = at i; sender = None }))
told_there number (x ∷ told) packet (suc k, inside, at) =
    Contains-cons _ _ _ (told_there number told packet (k, omega arith, at))

-- what is among them has a number
pub record NumberOf (sents : List Sent) (sent : Sent) : Type 0 where
  pub index : ℕ
  pub there : item_at sents index ≡ Some sent

pub number_of : (sents : List Sent) (sent : Sent) → Contains sents sent → NumberOf sents sent
number_of [] sent h = absurd (omega (arith, h.1))
number_of (x ∷ sents) sent (zero, inside, at) = record { index = 1; there = ap Some at }
number_of (x ∷ sents) sent (suc k, inside, at) =
    let later = number_of sents sent (k, omega arith, at) in
    record { index = suc later.index; there = one_more later.index later.there }
  where
    one_more : (n : ℕ) → item_at sents n ≡ Some sent → item_at (x ∷ sents) (suc n) ≡ Some sent
    one_more zero there = absurd (nothing_at sents there)
      where
        nothing_at : (xs : List Sent) → item_at xs zero ≡ Some sent → ⊥
        nothing_at [] e = cc
        nothing_at (y ∷ xs) e = cc
    one_more (suc n) there = there

module _ {K : Type 0} {custody : Custody K} where
  -- the node of a crew that serves runs
  pub runs_so : (crew : CrewOver K) (s : KeptNode) → IsSound custody crew → IsNodeOf crew s.node
      → IsRunning s.node.state
  runs_so crew s sound node =
      let still : s.node.state ≡ Running Nothing =
      subst (λ (due : Option Batch). IsAt s.node.state due) sound.idle node.crew.holds.state in
      subst (λ (state : State). IsRunning state) (sym still) tt

module _ {K M : Type 0} (custody : Custody K) (between : CrewsOver K M) (w : World)
    (ties : Ties custody between w) where
  -- packets of the node are sent, as the event sends them
  sends_go : (number : ℕ) (e : Event) (told : List Packet) (reply : Reply) (new : CrewsOver K M)
      → Step w e (replies.Sent (next_packet w) (length told)) (has_told w number told)
      → SendsAll between told reply new → Goes w new
  sends_go number e told reply new step SendsAll.sent = record {
    world = has_told w number told;
    run = step_leads_on w (has_told w number told) e
        (replies.Sent (next_packet w) (length told)) step;
    stands = record {
      some = ties.stands.some;
      desks = ties.stands.desks;
      nodes = ties.stands.nodes;
      sent = sent_still w (has_told w number told) between.sent told
          (λ s among. Contains-append_left w.packets (told_by number told) s among)
          ties.stands.sent (λ packet among. (
            record { from = number; packet = packet; sender = None },
            Contains-append_right w.packets (told_by number told) _
                (told_there number told packet among),
            refl,
          ));
    };
  }
  sends_go number e told reply new step (SendsAll.no_room some) = rests w between ties.stands

  pub tells_go : (number : ℕ) (what : Answer) (new : CrewsOver K M)
      → TellsAt between number what new → Goes w new
  tells_go number what new (TellsAt.tells {crew} {told} {reply} at runs summary sends) =
      let it = place_at between w number crew ties.stands at in
      sends_go number (event.Tell number) told reply new
      (Step.tell it.there
      (TellAt.tells (runs_so crew it.place (ties.sound number crew at) it.is_place.is_node)
      (subst (λ (saved : SetBy op_cmp). IsSummary saved told)
      (sym it.is_place.is_node.crew.holds.saved) summary))) sends
  tells_go number what new (TellsAt.stopped at halted) = rests w between ties.stands
  tells_go number what new (TellsAt.nothing at runs why) = rests w between ties.stands

  pub window_goes : (number index : ℕ) (window : Intervals) (sent : Sent) (reply : Reply)
      (new : CrewsOver K M) → item_at w.packets index ≡ Some sent
      → sent.packet ≡ packets.Have window
      → AnswersWindow between number window reply new → Goes w new
  window_goes number index window sent reply new there is
      (AnswersWindow.answers {crew} {told} at runs summary sends) =
      let it = place_at between w number crew ties.stands at in
      sends_go number (event.Deliver index number) told reply new
      (Step.deliver there it.there (DeliverAt.have is
      (WindowAt.answers (runs_so crew it.place (ties.sound number crew at) it.is_place.is_node)
      (subst (λ (saved : SetBy op_cmp). IsAnswer saved window told)
      (sym it.is_place.is_node.crew.holds.saved) summary)))) sends
  window_goes number index window sent reply new there is (AnswersWindow.stopped at halted) =
      rests w between ties.stands
  window_goes number index window sent reply new there is (AnswersWindow.nothing at runs why) =
      rests w between ties.stands
