-- A packet that comes to a crew is a run of the world.
use Rattle.std.proofs.Common.{◌≡◌, ◌∷◌, [], ℕ, List, Some, Result, false, refl, sym, subst}
use Rattle.std.specs.Cmp.{nat_cmp_total}
use Rattle.fl_bench.specs.laws.Puts.{get_here}
use Rattle.fl_store.specs.Custody.{Custody}
use Rattle.fl_system.specs.declared.answer.Fault.{Fault}
use Rattle.fl_system.specs.declared.reply.Reply.{Reply}
use Rattle.fl_system.specs.declared.sent.Sent.{Sent}
use Rattle.fl_system.specs.Numbered.{item_at}
use Rattle.fl_system.specs.World.{World}
use Rattle.fl_wire.specs.declared.packet.Packet.{Packet}
use Rattle.fl_crew_calls.specs.Asking.{Comes, is_window}
use Rattle.fl_crew_calls.specs.Batches.{ServesBatch}
use Rattle.fl_crew_calls.specs.Over.{CrewsOver}
use Rattle.fl_crew_worlds.specs.Worlds.{IsDone}
use Rattle.fl_crew_world_laws.proofs.Batching.{PacketRuns, is_done, served_goes, stands_so, unbegun_goes}
use Rattle.fl_crew_world_laws.proofs.Telling.{window_goes}
use Rattle.fl_crew_world_laws.proofs.Ties.{Goes, Ties, rests}
use Rattle.fl_one_worker_calls.specs.Crews.{AreSound}

module _ {K M : Type 0} (custody : Custody K) (runs : PacketRuns K) (between : CrewsOver K M)
    (v : World) (number index : ℕ)
    (sent : Sent) (ties : Ties custody between v) (there : item_at v.packets index ≡ Some sent)
  where
    batch_goes : (packet : Packet) → sent.packet ≡ packet → is_window packet ≡ false
        → (result : Result (List Reply) Fault) (new : CrewsOver K M) → AreSound custody new
        → ServesBatch custody between number [] (packet ∷ []) result new → Goes v new
    batch_goes packet is other result new sound (ServesBatch.served {crew} {crew'} {es} at served) =
        let good = sound number crew' (get_here nat_cmp_total between.crews number (Some crew')) in
        let done = is_done custody crew crew' [] (packet ∷ []) es good served in
        let it =
        runs v number index sent crew crew' es (stands_so custody between v number crew ties at)
        there (subst (λ (p : Packet). is_window p ≡ false) (sym is) other)
        (subst (λ (p : Packet). IsDone crew crew' [] (p ∷ []) es) (sym is) done) in
        served_goes custody between v number crew crew' es it.moments it.more ties at served.still
        it.sends it.leads
    batch_goes packet is other result new sound
        (ServesBatch.unbegun {crew} {crew'} at why unbegun still) =
        unbegun_goes custody between v number crew crew' ties at unbegun
    batch_goes packet is other result new sound ServesBatch.no_room = rests v between ties.stands
    batch_goes packet is other result new sound (ServesBatch.no_crew none) =
        rests v between ties.stands

    by_packet : (packet : Packet) (reply : Reply) (new : CrewsOver K M) → AreSound custody new
        → sent.packet ≡ packet
        → Comes custody between number packet reply new → Goes v new
    by_packet packet reply new sound is (Comes.window {window} answered) =
        window_goes custody between v ties number index window sent reply new there is answered
    by_packet packet reply new sound is (Comes.batch {result = result} other serves) =
        batch_goes packet is other result new sound serves
    by_packet packet reply new sound is (Comes.no_room other) = rests v between ties.stands

    pub comes_go : (reply : Reply) (new : CrewsOver K M) → AreSound custody new
        → Comes custody between number sent.packet reply new → Goes v new
    comes_go reply new sound comes = by_packet sent.packet reply new sound refl comes
