-- A packet that is a batch of its own of a crew is a run of a world.
use Rattle.std.proofs.Common.{◌≡◌, ◌∙◌, ◌⊎◌, inl, inr, ℕ, ◌<◌, List, [], ◌∷◌, ◌++◌, map, length}
use Rattle.std.proofs.Common.{All, Some, Result, Ok, Err, false, refl, sym, ap, subst, arith}
use Rattle.std.proofs.lemmas.List.{append-nil}
use Rattle.std.proofs.lemmas.List.Elements.{Contains-append_cases}
use Rattle.fl_gossip.specs.Taking.{ops_of}
use Rattle.fl_labels.specs.SetBy as set
use Rattle.fl_labels.specs.SetBy.{SetBy}
use Rattle.fl_message.specs.declared.message.Data.{Data}
use Rattle.fl_ops.specs.OpOrder.{op_cmp}
use Rattle.fl_jobs.specs.declared.job.Job.TheVariants.{Arrive}
use Rattle.fl_system.specs.declared.answer.Fault.{Fault}
use Rattle.fl_system.specs.declared.event.Event.{Event}
use Rattle.fl_system.specs.declared.event.Event.TheVariants as events
use Rattle.fl_system.specs.declared.sent.Sent.{Sent}
use Rattle.fl_system.specs.Numbered.{item_at}
use Rattle.fl_system.specs.Runs.{Moment}
use Rattle.fl_system.specs.World.{World}
use Rattle.fl_system_laws.specs.laws.Steps.{in_none}
use Rattle.fl_wire.specs.declared.batch.Batch.{Batch}
use Rattle.fl_wire.specs.declared.packet.Packet.{Packet}
use Rattle.fl_wire.specs.declared.packet.Packet.TheVariants as packets
use Rattle.fl_crew_model.specs.declared.record.Deed.{Deed}
use Rattle.fl_crew_model.specs.declared.record.Deed.TheVariants.{Delivered}
use Rattle.fl_crew_model.specs.declared.record.Delivery.{Delivery}
use Rattle.fl_crew_model.specs.declared.record.Entry as told_entry
use Rattle.fl_crew_model.specs.declared.record.Verdict.{Verdict}
use Rattle.fl_crew_model.specs.Books.{Books, Declines, Recorded, TakesBy}
use Rattle.fl_crew_threads.specs.Receiving.{AreReceived, IsReceived, IsRuled}
use Rattle.fl_crew_threads.specs.declared.ruling.Placed.{Placed}
use Rattle.fl_dealing.specs.Gathered.{select}
use Rattle.fl_dealing.specs.Shown.{reply_of, shown_taken}
use Rattle.fl_dealing.specs.Dealt.{owners_of, parcels_of}
use Rattle.fl_dealing.specs.Items.{item_of}
use Rattle.fl_dealing.specs.declared.entry.Entry.{Entry}
use Rattle.fl_dealing.specs.declared.entry.Reply.{Reply}
use Rattle.fl_dealing.specs.declared.entry.Taken.{Taken}
use Rattle.fl_dealing.specs.declared.item.Item.{Item}
use Rattle.fl_dealing.specs.declared.item.Item.TheVariants as items
use Rattle.fl_registrar.specs.Stopping.{IsHalt}
use Rattle.fl_workers.specs.Batches.{IsAnswered, items_for}
use Rattle.fl_workers.specs.Over.{CrewOver, begun_books, books_of}
use Rattle.fl_workers.specs.Plans.{packet_at, packet_in}
use Rattle.fl_crew_calls.specs.Asking.{is_window}
use Rattle.fl_crew_calls.specs.Told.{all_sent, replies_behind, reply_behind, sent_by}
use Rattle.fl_crew_worlds.specs.Worlds.{AreAmong, Has, IsDone, IsOnlyTaken, IsTakenIn, RunsPacket}
use Rattle.fl_crew_worlds.specs.Worlds.{Leads, Means, Stands}
use Rattle.fl_crew_worlds.proofs.Batches.{decisions_only, packets_none, ran, sends_of}
use Rattle.fl_crew_worlds.proofs.Batches.{shown_of}
use Rattle.fl_crew_worlds.proofs.Delivering.{IsCarried, TakenBy, packet_turned, taken_lasts}
use Rattle.fl_crew_worlds.proofs.Places.{AllJobs, AllPaired, Shows}
use Rattle.fl_crew_worlds.proofs.Running.{AllPackets}
use Rattle.fl_crew_worlds.proofs.Turning.{Brings, Comes, DoneBy}

-- ---- what came of the only packet

record OfOne (packet : Packet) (told : List Taken) (rows : List Deed) : Type 0 where
  pub taken : Taken
  pub placed : Placed
  pub only : told ≡ taken ∷ []
  pub packet_is : placed.parcel.packet ≡ packet
  pub received : IsReceived placed taken rows

of_one : (packet : Packet) (placed : List Placed) (told : List Taken) (rows : List Deed)
    → map packet_at placed ≡ packet ∷ [] → AreReceived placed told rows → OfOne packet told rows
of_one packet [] told rows is h = absurd (cc)
of_one packet (p ∷ []) [] rows is h = absurd h
of_one packet (p ∷ []) (t ∷ []) rows is (one, rest, split, received, none) = record {
  taken = t;
  placed = p;
  only = refl;
  packet_is = cc;
  received =
      subst (λ (l : List Deed). IsReceived p t l)
      (sym (split ∙ (ap (λ l. one ++ l) none ∙ append-nil one))) received;
}
of_one packet (p ∷ []) (t ∷ u ∷ ts) rows is (one, rest, split, received, none) = absurd none
of_one packet (p ∷ q ∷ ps) told rows is h = absurd (cc)

only_shown : (es : List Entry) (t : Taken) → length es ≡ 1
    → select 0 (0 ∷ []) es ≡ shown_taken t ∷ [] → es ≡ shown_taken t ∷ []
only_shown [] t count h = absurd (omega (arith, count))
only_shown (e ∷ []) t count h = h
only_shown (e ∷ f ∷ es) t count h = absurd (omega (arith, count))

-- a packet that was passed over has no answer
ruled_on : (p : Placed) (t : Taken) (rows : List Deed) → IsAnswered (shown_taken t)
    → IsReceived p t rows → IsRuled p t rows
ruled_on p t rows answered (inl ruled) = ruled
ruled_on p t rows answered (inr over) = absurd (by over.halt)
  where
    by : IsHalt over.fault → ⊥
    by (inl stopped) = answered.stopped (ap reply_of (over.answer ∙ ap Err stopped))
    by (inr failed) = answered.broken (ap reply_of (over.answer ∙ ap Err failed))

-- what was taken is answered as its row says
told_answer : (p : Placed) (t : Taken) (rows : List Deed) (ruled : IsRuled p t rows)
    → t.answer ≡ ruled.delivery.answer
told_answer p t rows ruled = ap (λ (x : Taken). x.answer) ruled.told

-- where nothing is taken the answer is no number but 0
none_counted : (number : ℕ) (b : Books) (ops : SetBy op_cmp) (answer : Result ℕ Fault)
    → Declines number b ops answer → (count : ℕ) → 0 < count → ¬ (answer ≡ Ok count)
none_counted number b ops answer (Declines.no_room is some) count low said =
    let q = sym is ∙ said in cc
none_counted number b ops answer (Declines.impostor op is first bad) count low said =
    let q = sym is ∙ said in cc
none_counted number b ops answer (Declines.clash op is first bad) count low said =
    let q = sym is ∙ said in cc
none_counted number b ops answer (Declines.nothing_new is may all) count low said =
    let q = sym is ∙ said in let zero : 0 ≡ count = cc in omega (arith, zero, low)
none_counted number b ops answer (Declines.busy op due is may there new at) count low said =
    let q = sym is ∙ said in cc

-- what it is answered sends nothing
none_sent : (result : Result ℕ Fault) (more : List Sent) → AreAmong (sent_by (reply_of result)) more
none_sent (Ok count) more = λ p there. in_none p there
none_sent (Err fault) more = λ p there. in_none p there

one_among : (e : Entry) (more : List Sent) → AreAmong (sent_by e.reply) more
    → AreAmong (all_sent (e ∷ [])) more
one_among e more h p there =
    elim (Contains-append_cases (sent_by e.reply) [] p there) [
      | inl here ↦ h p here
      | inr later ↦ in_none p later
    ]

-- ---- a packet that was sent is a batch

-- it is the packet of this number
abbrev only_source : ℕ → Packet → ℕ → Packet → Type 0
only_source index packet = λ i p. (i ≡ index) × (p ≡ packet)

-- what is said of the only entry
record OfEntry (number : ℕ) (ms : List Moment) (more : List Sent) (index : ℕ) (e : Entry)
    : Type 0 where
  pub taken : (count : ℕ) → IsTakenIn number ms index (reply_behind count e.reply)
  pub sends : AreAmong (sent_by e.reply) more

only_taken : (number : ℕ) (ms : List Moment) (more : List Sent) (index : ℕ) (e : Entry)
    (sent : List Packet) → OfEntry number ms more index e
    → IsOnlyTaken number ms index (replies_behind sent (e ∷ []))
only_taken number ms more index e sent h = record {
  only = reply_behind (length sent) e.reply;
  is = refl;
  taken = h.taken (length sent);
}

-- ---- a message

message_said : (d : Data) (packet : Packet) (number index : ℕ) (ms : List Moment) (more : List Sent)
    (e : Entry)
    → Shows (λ (x : told_entry.Entry). DoneBy (only_source index packet) number x.job.value x.told
    ms more) (Arrive d) e
    → OfEntry number ms more index e
message_said d packet number index ms more e h =
    let it = shown_of (only_source index packet) number ms more (Arrive d) e h in
    record {
      taken = λ count.
          subst (λ (r : Reply). IsTakenIn number ms index (reply_behind count r)) (sym it.1)
          (record {
            first = it.2.first;
            there =
                subst (λ (i : ℕ). Has ms (events.Deliver i number) it.2.first) it.2.asks.1.0
                (subst (λ (what : Event). Has ms what it.2.first) it.2.asks.2 it.2.there);
            means = it.2.means count;
          });
      sends = sends_of (only_source index packet) number ms more (Arrive d) e h;
    }

-- an entry, and what is said of it
record OneEntry (number : ℕ) (ms : List Moment) (more : List Sent) (index : ℕ) (es : List Entry)
    : Type 0 where
  pub entry : Entry
  pub only : es ≡ entry ∷ []
  pub of_entry : OfEntry number ms more index entry

only_entry : (d : Data) (packet : Packet) (number index : ℕ) (ms : List Moment) (more : List Sent)
    (es : List Entry)
    → AllPaired (Shows (λ (x : told_entry.Entry). DoneBy (only_source index packet) number
    x.job.value x.told ms more)) (items.Job (Arrive d) ∷ []) es
    → OneEntry number ms more index es
only_entry d packet number index ms more [] h = absurd h
only_entry d packet number index ms more (e ∷ []) h = record {
  entry = e;
  only = refl;
  of_entry = message_said d packet number index ms more e h.0;
}
only_entry d packet number index ms more (e ∷ f ∷ es) h = absurd h.1

module _ {K : Type 0} (w : World) (number index : ℕ) (sent : Sent)
    (there : item_at w.packets index ≡ Some sent) (old new : CrewOver K) (es : List Entry)
    (stands : Stands w number old) where
  brings_it : (packet : Packet) → sent.packet ≡ packet
      → Brings (only_source index packet) w.packets
  brings_it packet is i p h = (
    sent,
    subst (λ (j : ℕ). item_at w.packets j ≡ Some sent) (sym h.0) there,
    is ∙ sym h.1,
  )

  runs_by : (ms : List Moment) (more : List Sent) → Leads w number new ms more
      → OneEntry number ms more index es → RunsPacket w number new index es
  runs_by ms more leads one =
      subst (λ (l : List Entry). RunsPacket w number new index l) (sym one.only)
      (record {
        moments = ms;
        more = more;
        leads = leads;
        sends = one_among one.entry more one.of_entry.sends;
        done = λ before. only_taken number ms more index one.entry before one.of_entry;
      })

  message_runs : (d : Data) → sent.packet ≡ packets.Data d
      → IsDone old new [] (packets.Data d ∷ []) es → RunsPacket w number new index es
  message_runs d is done =
      let packet = packets.Data d in
      let it =
      ran w number old new [] (packet ∷ []) es stands done (only_source index packet)
      (brings_it packet is)
      ((λ e same. (index, (refl, ap packets.Data (let back : e ≡ d = cc in back)))), tt)
      (λ p. ⊥) (λ p ms more. ⊥) (λ p ms later more others part sents h. h)
      (λ v n k n' p at wide brings h goes. absurd h)
      (packets_none (λ p. ⊥) (items.Job (Arrive d) ∷ [])
      (owners_of old.size old.procs (items.Job (Arrive d) ∷ [])) es done.served.deeds refl
      done.served.taken) in
      runs_by it.moments it.more it.leads
      (only_entry d packet number index it.moments it.more es it.paired)

  -- ---- operations

  ops_said : (packet : Packet) (ms : List Moment) (more : List Sent) (t : Taken) (p : Delivery)
      → t.answer ≡ p.answer → TakenBy (only_source index packet) number p ms more
      → OfEntry number ms more index (shown_taken t)
  ops_said packet ms more t p same h = record {
    taken = λ count.
        record {
          first = h.first;
          there =
              subst (λ (i : ℕ). Has ms (events.Deliver i number) h.first) h.source.0 h.there;
          means =
              subst (λ (a : Result ℕ Fault). Means number ms h.first (reply_behind count
              (reply_of a))) (sym same) (h.means count);
        };
    sends = none_sent t.answer more;
  }

  module _ (packet : Packet) (batch : Batch)
      (item_is : item_of packet ≡ items.Packet packet)
      (is : (packet ≡ packets.Full batch) ⊎ (packet ≡ packets.Delta batch))
      (ops : ops_of packet ≡ batch.ops) (is_packet : sent.packet ≡ packet)
      (done : IsDone old new [] (packet ∷ []) es) where
    carried_so : (p : Delivery) (mid : Books) → p.ops ≡ ops_of packet
        → TakesBy old.node.node.number (begun_books old) p p.verdict mid
        → IsCarried (only_source index packet) p
    carried_so p mid own takes = record {
      index = index;
      packet = packet;
      source = (refl, refl);
      batch = batch;
      is = is;
      ops = own ∙ ops;
      none = λ verdict.
          let declines =
          subst (λ (v : Verdict). TakesBy old.node.node.number (begun_books old) p v mid) verdict
          takes in
          none_counted old.node.node.number (begun_books old) (set.of_list p.ops) p.answer
          declines.why;
    }

    ops_run : RunsPacket w number new index es
    ops_run =
        let taken = done.served.taken in
        let one = of_one packet taken.placed taken.told taken.rows
        (taken.packets ∙ ap (λ (i : Item). map packet_in (parcels_of 0 (i ∷ []))) item_is)
        taken.received in
        let count = done.count in
        let owners : owners_of old.size old.procs (items_for [] (packet ∷ [])) ≡ 0 ∷ [] =
        ap (λ (i : Item). owners_of old.size old.procs (i ∷ [])) item_is in
        let shown : es ≡ shown_taken one.taken ∷ [] =
        only_shown es one.taken (omega (arith, count))
        (ap (λ (os : List ℕ). select 0 os es) (sym owners)
        ∙ (taken.are_shown ∙ ap (map shown_taken) one.only)) in
        let answered : IsAnswered (shown_taken one.taken) =
        subst (All IsAnswered) shown (done.served.answered done.runs) 0 (shown_taken one.taken)
        (omega arith) in
        let ruled = ruled_on one.placed one.taken taken.rows answered one.received in
        let split : done.served.deeds ≡ Delivered ruled.delivery ∷ taken.later =
        taken.deeds_are ∙ ap (λ l. l ++ taken.later) ruled.row in
        let recorded : Recorded old.node.node.number (begun_books old)
        (Delivered ruled.delivery ∷ taken.later) (books_of new) =
        subst (λ (l : List Deed). Recorded old.node.node.number (begun_books old) l
        (books_of new)) split done.served.front.recorded in
        let carried =
        carried_so ruled.delivery recorded.0 (ruled.ops ∙ ap ops_of one.packet_is)
        recorded.1.takes in
        let it =
        ran w number old new [] (packet ∷ []) es stands done (only_source index packet)
        (brings_it packet is_packet)
        (subst (λ (i : Item). AllJobs (Comes (only_source index packet)) (i ∷ []))
        (sym item_is) tt)
        (IsCarried (only_source index packet)) (TakenBy (only_source index packet) number)
        (taken_lasts (only_source index packet) number)
        (λ v n k n' p at wide brings h goes.
        packet_turned old.size number (only_source index packet) v n k at wide brings p h n' goes)
        (subst (AllPackets (IsCarried (only_source index packet))) (sym split) (
          carried,
          decisions_only (IsCarried (only_source index packet)) taken.later
              taken.decisions,
        )) in
        runs_by it.moments it.more it.leads
        (record {
          entry = shown_taken one.taken;
          only = shown;
          of_entry =
              ops_said packet it.moments it.more one.taken ruled.delivery
              (told_answer one.placed one.taken taken.rows ruled)
              (it.packet ruled.delivery taken.later split);
        })

  pub packet_runs : (packet : Packet) → sent.packet ≡ packet → is_window packet ≡ false
      → IsDone old new [] (sent.packet ∷ []) es → RunsPacket w number new index es
  packet_runs (packets.Full batch) is window done =
      ops_run (packets.Full batch) batch refl (inl refl) refl is
      (subst (λ (p : Packet). IsDone old new [] (p ∷ []) es) is done)
  packet_runs (packets.Delta batch) is window done =
      ops_run (packets.Delta batch) batch refl (inr refl) refl is
      (subst (λ (p : Packet). IsDone old new [] (p ∷ []) es) is done)
  packet_runs (packets.Data d) is window done =
      message_runs d is (subst (λ (p : Packet). IsDone old new [] (p ∷ []) es) is done)
  packet_runs (packets.Have intervals) is window done = absurd (cc)
