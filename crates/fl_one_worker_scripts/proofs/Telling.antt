-- A crew tells what its node has saved, as the line does in the world.
use Rattle.std.proofs.Common.{◌≡◌, ◌∙◌, ◌+◌, ◌++◌, ◌∷◌, [], ℕ, suc, List, length, map}
use Rattle.std.proofs.Common.{inl, inr, refl, sym, ap, subst, arith}
use Rattle.std.proofs.lemmas.List.{length-map, map-append}
use Rattle.fl_labels.specs.SetBy.{SetBy}
use Rattle.fl_ops.specs.OpOrder.{op_cmp}
use Rattle.fl_store.specs.Custody.{Custody}
use Rattle.fl_makers.specs.Making.{Making}
use Rattle.fl_system.specs.declared.event.Event.{Event}
use Rattle.fl_system.specs.declared.event.Event.TheVariants as event
use Rattle.fl_system.specs.declared.reply.Reply.{Reply}
use Rattle.fl_system.specs.declared.reply.Reply.TheVariants as replies
use Rattle.fl_system.specs.Deliveries.{TellAt, has_told}
use Rattle.fl_system.specs.Gossip.{IsSummary, told_by}
use Rattle.fl_system.specs.World.{World}
use Rattle.fl_system.specs.WorldJobs.{next_packet}
use Rattle.fl_system.specs.WorldSteps.{Step}
use Rattle.fl_wire.specs.declared.packet.Packet.{Packet}
use Rattle.fl_one_laws.specs.Ample.{IsAmple}
use Rattle.fl_calls.specs.Answer.{Answer, replied}
use Rattle.fl_calls.specs.Calls.{Says}
use Rattle.fl_calls.specs.Completing.{Completes}
use Rattle.fl_calls.specs.Over.{Trusts}
use Rattle.fl_turns.specs.Answer.{said}
use Rattle.fl_turn_laws.specs.Certain.{IsSure}
use Rattle.fl_workers.specs.Over.{CrewOver}
use Rattle.fl_crew_calls.specs.Asking.{SendsAll, TellsAt}
use Rattle.fl_crew_calls.specs.Over.{CrewsOver, IsCrewAt}
use Rattle.fl_one_worker_calls.specs.Crews.{AreSound}
use Rattle.fl_one_worker_calls.specs.Worlds.{packet_in, packets_in}
use Rattle.fl_one_worker_scripts.proofs.Ties.{AreHeld, Meets, Ties}
use Rattle.fl_one_worker_scripts.proofs.Mirroring.{is_not_stopped, is_running, mirrored, says_meet}
use Rattle.fl_one_worker_scripts.proofs.Held.{same_held, same_trusts}

told_packets : (number : ℕ) (told : List Packet) → map packet_in (told_by number told) ≡ told
told_packets number [] = refl
told_packets number (packet ∷ told) = ap (λ l. packet ∷ l) (told_packets number told)

packets_told : (w : World) (number : ℕ) (told : List Packet)
    → packets_in (has_told w number told) ≡ packets_in w ++ told
packets_told w number told =
    map-append packet_in w.packets (told_by number told)
    ∙ ap (λ l. packets_in w ++ l) (told_packets number told)

module _ {K M : Type 0} (custody : Custody K) (making : Making M K) (maker : M) where
  -- packets of the node are sent, as the event sends them
  pub sends_meet : (between new : CrewsOver K M) (v : World) (number : ℕ) (e : Event)
      (told : List Packet) (reply : Reply) → Ties custody making maker between v
      → Step v e (replies.Sent (next_packet v) (length told)) (has_told v number told)
      → IsAmple reply → SendsAll between told reply new
      → Meets making maker (λ w'. Completes v e reply w') new
  sends_meet between new v number e told reply ties step sure SendsAll.sent =
      let h = ties.stands in
      let before : length (packets_in v) ≡ length between.sent =
      ap (λ (l : List Packet). length l) h.packets in
      let next : suc (length v.packets) ≡ length between.sent + 1 =
      (let same = length-map v.packets packet_in in omega arith) in
      record {
        world = has_told v number told;
        steps =
            subst (λ (first : ℕ). Completes v e (replies.Sent first (length told))
            (has_told v number told)) next (Completes.at_once refl step);
        stands = record {
          desks = h.desks;
          workers = h.workers;
          nodes = h.nodes;
          packets = packets_told v number told ∙ ap (λ l. l ++ told) h.packets;
        };
        allows = ties.allows;
      }
  sends_meet between new v number e told reply ties step sure (SendsAll.no_room some) =
      absurd (sure.memory refl)

  pub tells : (between new : CrewsOver K M) (v : World) (number : ℕ) (answer : Answer)
      → Ties custody making maker between v → IsSure (said answer)
      → TellsAt between number answer new
      → Meets making maker (λ w'. Says replied (Completes v (event.Tell number)) answer w') new
  tells between new v number answer ties sure
      (TellsAt.tells {crew} {told} {reply} at runs summary sends) =
      let it = mirrored between v number crew ties at in
      says_meet making maker replied (Completes v (event.Tell number)) answer reply new refl
      (sends_meet between new v number (event.Tell number) told reply ties
      (Step.tell it.there (TellAt.tells (is_running it.place.node.state it.mirrors.still)
      (subst (λ (saved : SetBy op_cmp). IsSummary saved told) (sym it.mirrors.saved) summary)))
      sure sends)
  tells between new v number answer ties sure (TellsAt.stopped {crew} at halted) =
      absurd (let runs = (ties.sound number crew at).runs in cc)
  tells between new v number answer ties sure (TellsAt.nothing {crew} {fault} at runs why) =
      absurd (elim why [
        | inl stops ↦ is_not_stopped crew.node.node.state fault
            (ties.sound number crew at).listed.state stops
        | inr starved ↦ sure.memory (ap replies.Refused starved.1)
      ])

-- ---- no crew changes

module _ {K M : Type 0} where
  pub sends_crews : (between new : CrewsOver K M) (told : List Packet) (reply : Reply)
      → SendsAll between told reply new → new.crews ≡ between.crews
  sends_crews between new told reply SendsAll.sent = refl
  sends_crews between new told reply (SendsAll.no_room some) = refl

  tells_crews : (between new : CrewsOver K M) (number : ℕ) (answer : Answer)
      → TellsAt between number answer new → new.crews ≡ between.crews
  tells_crews between new number answer (TellsAt.tells {told} {reply} at runs summary sends) =
      sends_crews between new told reply sends
  tells_crews between new number answer (TellsAt.stopped at halted) = refl
  tells_crews between new number answer (TellsAt.nothing at runs why) = refl

  pub tells_trusts : (custody : Custody K) (between new : CrewsOver K M) (number : ℕ)
      (answer : Answer) → AreSound custody new → TellsAt between number answer new
      → (crew : CrewOver K) → IsCrewAt between number crew → Trusts custody crew.node.keeper
  tells_trusts custody between new number answer sound told crew at =
      same_trusts custody between new (tells_crews between new number answer told) sound number
      crew at

  pub tells_held : (custody : Custody K) (between new : CrewsOver K M) (number : ℕ)
      (answer : Answer) → AreHeld custody between → TellsAt between number answer new
      → AreHeld custody new
  tells_held custody between new number answer held told =
      same_held custody between new (tells_crews between new number answer told) held
