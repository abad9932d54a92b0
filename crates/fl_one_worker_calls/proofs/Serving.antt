-- A batch of a script over crews of one worker.
use Rattle.std.proofs.Common.{◌≡◌, ◌≢◌, ◌∙◌, eqb, ℕ, zero, suc, ◌≤◌, List, [], ◌∷◌, ◌++◌, map}
use Rattle.std.proofs.Common.{length, Option}
use Rattle.std.proofs.Common.{Some, None}
use Rattle.std.proofs.Common.{Result, Ok, Err, true, false, inl, inr, ◌⊎◌, refl, sym, ap, subst}
use Rattle.std.proofs.lemmas.Bool.Decides.{eqb_tells}
use Rattle.std.specs.FinMap as fin
use Rattle.std.specs.FinMap.{nat_cmp-IsAntisymmetric}
use Rattle.std.specs.Cmp.{nat_cmp_total}
use Rattle.fl_bench.specs.laws.Puts.{get_here, get_put}
use Rattle.fl_jobs.specs.declared.job.Job.{Job}
use Rattle.fl_store.specs.Custody.{Custody}
use Rattle.fl_store.specs.Kept.{Kept}
use Rattle.fl_system.specs.declared.answer.Fault.{Fault}
use Rattle.fl_system.specs.declared.event.Event.{Event}
use Rattle.fl_system.specs.declared.event.Event.TheVariants as event
use Rattle.fl_system.specs.declared.reply.Reply.{Reply}
use Rattle.fl_system.specs.declared.sent.Sent.{Sent}
use Rattle.fl_system.specs.Numbered.{item_at}
use Rattle.fl_system.specs.World.{World, KeptNode}
use Rattle.fl_wire.specs.declared.packet.Packet.{Packet}
use Rattle.fl_dealing.specs.declared.entry.Entry.{Entry}
use Rattle.fl_workers.specs.Over.{CrewOver}
use Rattle.fl_crew_calls.specs.Asking.{is_window}
use Rattle.fl_crew_calls.specs.Batches.{IsServedBy, ServesBatch}
use Rattle.fl_crew_calls.specs.Over.{CrewsOver, IsCrewAt, with_crew, with_sent}
use Rattle.fl_crew_calls.specs.Told.{all_sent, replies_behind}
use Rattle.fl_one_worker_laws.specs.Single.{IsDone}
use Rattle.fl_one_worker_calls.specs.Crews.{AreFew, AreSound, AreTied, IsPlaceOf, IsSound, IsWorldOf, Leads}
use Rattle.fl_one_worker_calls.specs.Worlds.{AreAsked, CompletesAll, Follows, IsElsewhere, Stands}
use Rattle.fl_one_worker_calls.specs.Worlds.{jobs_at, packet_in, packets_in}

-- what the law of worlds says
abbrev pub JobsFollow : Type 0 → Type 0
JobsFollow K =
    (w : World) (number : ℕ) (old new : CrewOver K) (jobs : List Job) (es : List Entry)
    → Stands w number old → AreAsked jobs → IsDone old new jobs [] es
    → length new.list ≤ 18446744073709551615
    → Follows w number (jobs_at number jobs) (replies_behind (packets_in w) es) (all_sent es) new

abbrev pub PacketFollows : Type 0 → Type 0
PacketFollows K =
    (w : World) (number index : ℕ) (sent : Sent) (old new : CrewOver K) (es : List Entry)
    → Stands w number old → item_at w.packets index ≡ Some sent → is_window sent.packet ≡ false
    → IsDone old new [] (sent.packet ∷ []) es → length new.list ≤ 18446744073709551615
    → Follows w number (event.Deliver index number ∷ []) (replies_behind (packets_in w) es)
    (all_sent es) new

pub record SentAt (w : World) (index : ℕ) (packet : Packet) : Type 0 where
  pub sent : Sent
  pub there : item_at w.packets index ≡ Some sent
  pub is : sent.packet ≡ packet

pub sent_at : (w : World) (index : ℕ) (packet : Packet) → item_at (packets_in w) index ≡ Some packet
    → SentAt w index packet
sent_at w index packet h = by w.packets index refl h
  where
    by : (sents : List Sent) (k : ℕ) → item_at sents k ≡ item_at w.packets index
        → item_at (map packet_in sents) k ≡ Some packet → SentAt w index packet
    by [] k same at = absurd (cc)
    by (s ∷ sents) zero same at = absurd (cc)
    by (s ∷ sents) (suc zero) same at = record { sent = s; there = sym same; is = cc }
    by (s ∷ sents) (suc (suc k)) same at = by sents (suc k) same at

-- what the crew does is what the events do, wherever it stands for the node
abbrev Does : Type 0 → World → ℕ → List Job → List Packet → List Event → Type 0
Does K w number jobs packets events =
    (old new : CrewOver K) (es : List Entry) → Stands w number old → IsDone old new jobs packets es
    → length new.list ≤ 18446744073709551615
    → Follows w number events (replies_behind (packets_in w) es) (all_sent es) new

module _ {K : Type 0} where
  record Tied (crew : CrewOver K) (node : Option KeptNode) : Type 0 where
    pub place : KeptNode
    pub there : node ≡ Some place
    pub is_place : IsPlaceOf crew place

  tied_at : (crew : CrewOver K) (c : Option (Option (CrewOver K))) (node : Option KeptNode)
      → c ≡ Some (Some crew) → AreTied c node → Tied crew node
  tied_at crew None _ is h = absurd (cc)
  tied_at crew (Some None) _ is h = absurd h
  tied_at crew (Some (Some its)) None is h = absurd h
  tied_at crew (Some (Some its)) (Some s) is h =
      let same : its ≡ crew = cc in
      record {
        place = s;
        there = refl;
        is_place = subst (λ (c : CrewOver K). IsPlaceOf c s) same h;
      }

  -- a batch that the crew served
  pub is_done : (custody : Custody K) (old new : CrewOver K) (jobs : List Job)
      (packets : List Packet) (es : List Entry) → old.due ≡ None → IsSound custody new
      → IsServedBy custody old new jobs packets es → IsDone old new jobs packets es
  is_done custody old new jobs packets es idle sound served =
      let passed = (served.serves sound.trusts.honest).1 sound.trusts.kept sound.trusts.held in
      record {
        idle = idle;
        runs = sound.runs;
        still = served.still;
        count = served.count;
        procs = served.procs;
        served = passed.2.served;
      }

module _ {K M : Type 0} where
  -- the node of a crew that is there
  pub stands_at : (crews : CrewsOver K M) (w : World) (number : ℕ) (crew : CrewOver K)
      → IsWorldOf crews w → IsCrewAt crews number crew → Stands w number crew
  stands_at crews w number crew h at =
      let it = tied_at crew _ _ at (h.nodes number) in
      record {
        place = it.place;
        there = it.there;
        is_node = it.is_place.is_node;
        kept = it.is_place.kept;
      }

  -- with another crew of that number, and another node
  pub stays_tied : (crews : CrewsOver K M) (w w' : World) (number : ℕ) (crew : CrewOver K)
      (sent : List Packet) → IsWorldOf crews w → Stands w' number crew → IsElsewhere number w w'
      → packets_in w' ≡ packets_in w ++ sent
      → IsWorldOf (with_sent (with_crew crews number crew) sent) w'
  stays_tied crews w w' number crew sent h stands elsewhere packets = record {
    desks = elsewhere.desks ∙ h.desks;
    workers = h.workers;
    nodes = λ q. by q (eqb_tells q number);
    packets = packets ∙ ap (λ l. l ++ sent) h.packets;
  }
    where
      here : AreTied (fin.get (fin.insert crews.crews number (Some crew)) number)
          (fin.get w'.nodes number)
      here =
          subst (λ (c : Option (Option (CrewOver K))). AreTied c (fin.get w'.nodes number))
          (sym (get_here nat_cmp_total crews.crews number (Some crew)))
          (subst (λ (s : Option KeptNode). AreTied (Some (Some crew)) s) (sym stands.there)
          (record { is_node = stands.is_node; kept = stands.kept }))

      apart : (q : ℕ) → q ≢ number
          → AreTied (fin.get (fin.insert crews.crews number (Some crew)) q) (fin.get w'.nodes q)
      apart q ne =
          let same : fin.get (fin.insert crews.crews number (Some crew)) q
          ≡ fin.get crews.crews q =
          elim (get_put nat_cmp_total nat_cmp-IsAntisymmetric crews.crews number (Some crew) q)
          [ inl h ↦ absurd (ne h.0) | inr same ↦ same ] in
          subst (λ (c : Option (Option (CrewOver K))). AreTied c (fin.get w'.nodes q)) (sym same)
          (subst (λ (s : Option KeptNode). AreTied (fin.get crews.crews q) s)
          (sym (elsewhere.others q ne)) (h.nodes q))

      by : (q : ℕ)
          → ((eqb q number ≡ true) × (q ≡ number)) ⊎ ((eqb q number ≡ false) × (q ≢ number))
          → AreTied (fin.get (fin.insert crews.crews number (Some crew)) q) (fin.get w'.nodes q)
      by q (inl is) =
          subst (λ (k : ℕ). AreTied (fin.get (fin.insert crews.crews number (Some crew)) k)
          (fin.get w'.nodes k)) (sym is.1) here
      by q (inr is) = apart q is.1

  batch_leads : (custody : Custody K) (old : CrewsOver K M) (w : World) (number : ℕ)
      (jobs : List Job) (packets : List Packet) (events : List Event) (new : CrewsOver K M)
      (r : Result (List Reply) Fault) → IsWorldOf old w → AreSound custody old
      → AreSound custody new → AreFew new → Does K w number jobs packets events
      → ServesBatch custody old number jobs packets r new → (replies : List Reply) → r ≡ Ok replies
      → Leads w events replies new
  batch_leads custody old w number jobs packets events new r h sound sound_new few does
      (ServesBatch.served {crew} {crew'} {es} at served) replies is =
      let here : IsCrewAt (with_sent (with_crew old number crew') (all_sent es)) number crew' =
      get_here nat_cmp_total old.crews number (Some crew') in
      let after = sound_new number crew' here in
      let done =
      is_done custody crew crew' jobs packets es (sound number crew at).idle after served in
      let it = does crew crew' es (stands_at old w number crew h at) done (few number crew' here) in
      let said : replies_behind (packets_in w) es ≡ replies =
      ap (λ l. replies_behind l es) h.packets ∙ (let q = is in cc) in
      record {
        world = it.world;
        completes = subst (λ (l : List Reply). CompletesAll w events l it.world) said it.completes;
        stands =
            stays_tied old w it.world number crew' (all_sent es) h it.stands it.elsewhere
            it.packets;
      }
  batch_leads custody old w number jobs packets events new r h sound sound_new few does
      (ServesBatch.unbegun at why unbegun still) replies is = absurd (cc)
  batch_leads custody old w number jobs packets events new r h sound sound_new few does
      ServesBatch.no_room replies is = absurd (cc)
  batch_leads custody old w number jobs packets events new r h sound sound_new few does
      (ServesBatch.no_crew none) replies is = absurd (cc)

  pub jobs_lead : (custody : Custody K) → JobsFollow K → (old new : CrewsOver K M) (w : World)
      (number : ℕ) (jobs : List Job) (replies : List Reply) → IsWorldOf old w
      → AreSound custody old → AreSound custody new → AreFew new → AreAsked jobs
      → ServesBatch custody old number jobs [] (Ok replies) new
      → Leads w (jobs_at number jobs) replies new
  jobs_lead custody follow old new w number jobs replies h sound sound_new short asked serves =
      batch_leads custody old w number jobs [] (jobs_at number jobs) new (Ok replies) h sound
      sound_new short
      (λ crew crew' es stands done few. follow w number crew crew' jobs es stands asked done few)
      serves replies refl

  pub packet_leads : (custody : Custody K) → PacketFollows K → (old new : CrewsOver K M) (w : World)
      (number index : ℕ) (packet : Packet) (replies : List Reply) → IsWorldOf old w
      → AreSound custody old → AreSound custody new → AreFew new
      → item_at old.sent index ≡ Some packet
      → is_window packet ≡ false
      → ServesBatch custody old number [] (packet ∷ []) (Ok replies) new
      → Leads w (event.Deliver index number ∷ []) replies new
  packet_leads custody follow old new w number index packet replies h sound sound_new short there window
      serves =
      let it =
      sent_at w index packet (ap (λ l. item_at l index) h.packets ∙ there) in
      batch_leads custody old w number [] (packet ∷ []) (event.Deliver index number ∷ []) new
      (Ok replies) h sound sound_new short
      (λ crew crew' es stands done few. follow w number index it.sent crew crew' es stands it.there
      (subst (λ (p : Packet). is_window p ≡ false) (sym it.is) window)
      (subst (λ (p : Packet). IsDone crew crew' [] (p ∷ []) es) (sym it.is) done) few)
      serves replies refl
