-- A packet of operations that is a batch of its own.
use Rattle.std.proofs.Common.{◌≡◌, ◌==◌, ℕ, cond, List, [], ◌∷◌, ◌++◌, map, length, All}
use Rattle.std.proofs.Common.{Some, None, Result, Err, false, ◌⊎◌, inl, inr, refl, sym, ap, ◌∙◌}
use Rattle.std.proofs.Common.{subst, arith}
use Rattle.std.proofs.lemmas.List.{append-nil}
use Rattle.fl_gossip.specs.Taking.{ops_of}
use Rattle.fl_labels.specs.SetBy as set
use Rattle.fl_labels.specs.SetBy.{SetBy}
use Rattle.fl_ops.specs.OpOrder.{op_cmp}
use Rattle.fl_ops.specs.declared.op.Op.{Op}
use Rattle.fl_store.specs.Kept.{Kept, with_batch}
use Rattle.fl_system.specs.declared.answer.Fault.{Fault}
use Rattle.fl_system.specs.Numbered.{item_at}
use Rattle.fl_system.specs.Publishes.{Publishes}
use Rattle.fl_system.specs.Receives.{Receives}
use Rattle.fl_system.specs.State.{NodeState, kept_of}
use Rattle.fl_wire.specs.declared.batch.Batch.{Batch}
use Rattle.fl_wire.specs.declared.packet.Packet.{Packet}
use Rattle.fl_wire.specs.declared.packet.Packet.TheVariants as packets
use Rattle.fl_crew_model.specs.declared.record.Deed.{Deed}
use Rattle.fl_crew_model.specs.declared.record.Deed.TheVariants.{Decided, Delivered}
use Rattle.fl_crew_model.specs.declared.record.Delivery.{Delivery}
use Rattle.fl_crew_model.specs.declared.record.Entry as told_entry
use Rattle.fl_crew_model.specs.declared.record.Verdict.{Verdict}
use Rattle.fl_crew_model.specs.Books.{Books, Declines, Recorded, TakesBy}
use Rattle.fl_crew_model.specs.Compared.{AgreesUpTo, decisions_of}
use Rattle.fl_crew_model.specs.Crews.{AllOfWorkers}
use Rattle.fl_crew_model.specs.Woven.{Delivers, Receiving, SavesAll, Turn, Entered}
use Rattle.fl_crew_model.specs.Woven.{Packet as PacketTurn}
use Rattle.fl_crew_model.specs.Woven.{Woven, entries_of}
use Rattle.fl_crew_threads.specs.Receiving.{AreReceived, AreDecisions, IsReceived, IsRuled}
use Rattle.fl_crew_threads.specs.declared.ruling.Placed.{Placed}
use Rattle.fl_dealing.specs.Gathered.{select}
use Rattle.fl_dealing.specs.Shown.{reply_of, shown_taken}
use Rattle.fl_dealing.specs.declared.entry.Entry.{Entry}
use Rattle.fl_dealing.specs.declared.entry.Taken.{Taken}
use Rattle.fl_dealing.specs.declared.item.Item.TheVariants as items
use Rattle.fl_registrar.specs.Stopping.{IsHalt}
use Rattle.fl_worker.specs.Tasks.{AreOf}
use Rattle.fl_workers.specs.Batches.{IsAnswered, IsServed, IsStill}
use Rattle.fl_workers.specs.Over.{CrewOver, begun_books, books_of}
use Rattle.fl_workers.specs.Plans.{packet_at}
use Rattle.fl_one_worker_laws.specs.Completing.{OpsComplete}
use Rattle.fl_one_worker_laws.specs.Single.{IsNodeOf, IsDone, DoneWithOps, reply_in}
use Rattle.fl_one_worker_laws.proofs.Single.{IsSingle, Follows, then_follows, only_one}
use Rattle.fl_one_worker_laws.proofs.Single.{receives_on, saves_on, publishes_on}
use Rattle.fl_one_worker_laws.proofs.Batches.{first_worker, is_single, node_at_end, none_lost}
use Rattle.fl_one_worker_laws.proofs.Batches.{running}

-- ---- the registrar's record has that packet alone

none_later : (ds : List Deed) → AreDecisions ds → AllOfWorkers 1 ds → decisions_of 1 ds ≡ []
    → ds ≡ []
none_later [] are of_one none = refl
none_later (Decided d ∷ ds) are (is, of_one) none =
    let first : d.worker ≡ 1 = (let low = is.low in let high = is.high in omega arith) in
    absurd (let q = sym (ap (λ w. cond (w == 1) (d ∷ decisions_of 1 ds) (decisions_of 1 ds)) first)
    ∙ none in cc)
none_later (Delivered p ∷ ds) are of_one none = absurd are

-- what came of the only packet, and the rows of it
record OfOne (packet : Packet) (told : List Taken) (rows : List Deed) : Type 0 where
  pub taken : Taken
  pub placed : Placed
  pub only : told ≡ taken ∷ []
  pub packet_is : placed.parcel.packet ≡ packet
  pub received : IsReceived placed taken rows

of_one : (packet : Packet) (placed : List Placed) (told : List Taken) (rows : List Deed)
    → map packet_at placed ≡ packet ∷ [] → AreReceived placed told rows → OfOne packet told rows
of_one packet [] told rows is h = absurd (cc)
of_one packet (p ∷ []) [] rows is h = absurd h
of_one packet (p ∷ []) (t ∷ []) rows is (one, rest, split, received, none) = record {
  taken = t;
  placed = p;
  only = refl;
  packet_is = cc;
  received =
      subst (λ (l : List Deed). IsReceived p t l)
      (sym (split ∙ (ap (λ l. one ++ l) none ∙ append-nil one))) received;
}
of_one packet (p ∷ []) (t ∷ u ∷ ts) rows is (one, rest, split, received, none) = absurd none
of_one packet (p ∷ q ∷ ps) told rows is h = absurd (cc)

-- ---- its turn

record Taking (n : NodeState) (k : Kept) (p : Delivery) (n' : NodeState) : Type 0 where
  pub kept : Kept
  pub completes : OpsComplete n k (set.of_list p.ops) p.answer n' kept
  pub same : k ≡ kept_of n → kept ≡ kept_of n'
  pub on : Follows n n'

none_taken : (number : ℕ) (b : Books) (ops : SetBy op_cmp) (answer : Result ℕ Fault)
    → Declines number b ops answer → (n : NodeState) (k : Kept) (n' : NodeState)
    → Receives n ops answer n' → OpsComplete n k ops answer n' k
none_taken number b ops answer (Declines.no_room is some) n k n' h =
    subst (λ (r : Result ℕ Fault). OpsComplete n k ops r n' k) (sym is)
    (OpsComplete.refused (subst (λ (r : Result ℕ Fault). Receives n ops r n') is h))
none_taken number b ops answer (Declines.impostor op is first bad) n k n' h =
    subst (λ (r : Result ℕ Fault). OpsComplete n k ops r n' k) (sym is)
    (OpsComplete.refused (subst (λ (r : Result ℕ Fault). Receives n ops r n') is h))
none_taken number b ops answer (Declines.clash op is first bad) n k n' h =
    subst (λ (r : Result ℕ Fault). OpsComplete n k ops r n' k) (sym is)
    (OpsComplete.refused (subst (λ (r : Result ℕ Fault). Receives n ops r n') is h))
none_taken number b ops answer (Declines.nothing_new is may all) n k n' h =
    subst (λ (r : Result ℕ Fault). OpsComplete n k ops r n' k) (sym is)
    (OpsComplete.nothing_new (subst (λ (r : Result ℕ Fault). Receives n ops r n') is h))
none_taken number b ops answer (Declines.busy op due is may there new at) n k n' h =
    subst (λ (r : Result ℕ Fault). OpsComplete n k ops r n' k) (sym is)
    (OpsComplete.refused (subst (λ (r : Result ℕ Fault). Receives n ops r n') is h))

module _ (number : ℕ) (b b' : Books) (n : NodeState) (k : Kept) (p : Delivery) (one : IsSingle n)
    (takes : TakesBy number b p p.verdict b') where
  in_steps : {r : Result ℕ Fault} {said : Result ℕ Fault} (begun saved n' : NodeState)
      (new : List Op) → Receiving n p.ops r begun → SavesAll begun new saved
      → Publishes saved said n'
      → OpsComplete n k (set.of_list p.ops) p.answer n' (with_batch k new) → Taking n k p n'
  in_steps begun saved n' new h saves publishes completes =
      let first = receives_on one h in
      let second = saves_on first.0.single (saves k) in
      let last = publishes_on second.on.single publishes in
      record {
        kept = with_batch k new;
        completes = completes;
        same = λ same. second.kept (same ∙ sym first.1) ∙ sym last.1;
        on = then_follows (then_follows first.0 second.on) last.0;
      }

  taking : (n' : NodeState) → Delivers n p n' → Taking n k p n'
  taking n' (Delivers.taken count new begun saved verdict some answer h saves publishes) =
      in_steps begun saved n' new h saves publishes
      (subst (λ (r : Result ℕ Fault). OpsComplete n k (set.of_list p.ops) r n' (with_batch k new))
      (sym answer) (OpsComplete.taken some h (saves k) publishes))
  taking n' (Delivers.late count new begun verdict some answer h saves publishes) =
      in_steps begun n' n' new h saves publishes
      (subst (λ (r : Result ℕ Fault). OpsComplete n k (set.of_list p.ops) r n' (with_batch k new))
      (sym answer) (OpsComplete.due some h (saves k) publishes))
  taking n' (Delivers.declined verdict h) =
      let declines = subst (λ (v : Verdict). TakesBy number b p v b') verdict takes in
      let on = receives_on one h in
      record {
        kept = k;
        completes =
            none_taken number b (set.of_list p.ops) p.answer declines.why n k n' h;
        same = λ same. same ∙ sym on.1;
        on = on.0;
      }

-- the run is its turn alone
no_entry : (n : NodeState) (w v : ℕ) (e : told_entry.Entry) (ts : List Turn) → IsSingle n
    → item_at n.views w ≡ Some v → ¬ (entries_of 1 (Entered w e ∷ ts) ≡ [])
no_entry n w v e ts one seen none =
    let is = only_one n.views w v one.desks seen in
    let q = sym (ap (λ x. cond (x == 1) (e ∷ entries_of 1 ts) (entries_of 1 ts)) is) ∙ none in
    cc

no_more : (n : NodeState) (ts : List Turn) (end : NodeState) → IsSingle n → Woven n [] ts end
    → entries_of 1 ts ≡ [] → end ≡ n
no_more n [] end one h none = h.0
no_more n (Entered w e ∷ ts) end one (mid, rest, turn, h) none =
    absurd (no_entry n w turn.v e ts one turn.has_seen none)
no_more n (PacketTurn p ∷ ts) end one (mid, rest, turn, h) none =
    absurd (let q = turn.first in cc)

one_turn : (n : NodeState) (p : Delivery) (ts : List Turn) (end : NodeState) → IsSingle n
    → ((n' : NodeState) → Delivers n p n' → IsSingle n')
    → Woven n (Delivered p ∷ []) ts end → entries_of 1 ts ≡ [] → Delivers n p end
one_turn n p [] end one after h none = absurd (let q = h.1 in cc)
one_turn n p (Entered w e ∷ ts) end one after (mid, rest, turn, h) none =
    absurd (no_entry n w turn.v e ts one turn.has_seen none)
one_turn n p (PacketTurn q ∷ ts) end one after (mid, rest, turn, h) none =
    let first = turn.first in
    let same : q ≡ p = cc in
    let empty : rest ≡ [] = cc in
    let goes = subst (λ (x : Delivery). Delivers n x mid) same turn.goes in
    let last =
    no_more mid ts end (after mid goes)
    (subst (λ (l : List Deed). Woven mid l ts end) empty h) none in
    subst (λ (x : NodeState). Delivers n p x) (sym last) goes

-- ---- the batch

only_shown : (es : List Entry) (t : Taken) → length es ≡ 1
    → select 0 (0 ∷ []) es ≡ shown_taken t ∷ [] → es ≡ shown_taken t ∷ []
only_shown [] t count h = absurd (omega (arith, count))
only_shown (e ∷ []) t count h = h
only_shown (e ∷ f ∷ es) t count h = absurd (omega (arith, count))

no_tasks : (es : List told_entry.Entry) → AreOf [] es → es ≡ []
no_tasks [] h = refl
no_tasks (e ∷ es) h = absurd h

-- a packet that was passed over has no answer
ruled_on : (p : Placed) (t : Taken) (rows : List Deed) → IsAnswered (shown_taken t)
    → IsReceived p t rows → IsRuled p t rows
ruled_on p t rows answered (inl ruled) = ruled
ruled_on p t rows answered (inr over) = absurd (by over.halt)
  where
    by : IsHalt over.fault → ⊥
    by (inl stopped) = answered.stopped (ap reply_of (over.answer ∙ ap Err stopped))
    by (inr failed) = answered.broken (ap reply_of (over.answer ∙ ap Err failed))

module _ {K : Type 0} (old new : CrewOver K) (n : NodeState) (node : IsNodeOf old n)
    (idle : old.due ≡ None) (runs : new.stopped ≡ false) (packet : Packet) (es : List Entry)
    (served : IsServed old new (items.Packet packet ∷ []) es) where
  -- all that the record has, and what stands of the worker
  record Alone : Type 0 where
    pub delivery : Delivery
    pub ops : delivery.ops ≡ ops_of packet
    pub taken : Taken
    pub entry : es ≡ shown_taken taken ∷ []
    pub answer : taken.answer ≡ delivery.answer
    pub deeds : served.deeds ≡ Delivered delivery ∷ []
    pub none : served.good 1 ≡ []

  alone_there : length es ≡ 1 → Alone
  alone_there count =
      let is = items.Packet packet ∷ [] in
      let taken = served.taken in
      let it = of_one packet taken.placed taken.told taken.rows taken.packets taken.received in
      let shown : es ≡ shown_taken it.taken ∷ [] =
      only_shown es it.taken count (taken.are_shown ∙ ap (map shown_taken) it.only) in
      let answered : IsAnswered (shown_taken it.taken) =
      subst (All IsAnswered) shown (served.answered runs) 0 (shown_taken it.taken)
      (omega arith) in
      let ruled = ruled_on it.placed it.taken taken.rows answered it.received in
      let one = first_worker old node.size in
      let all = served.good 1 ++ served.lost 1 in
      let whole : all ≡ served.good 1 =
      ap (λ l. served.good 1 ++ l) (none_lost old new n node idle runs is es served)
      ∙ append-nil (served.good 1) in
      let none : served.good 1 ≡ [] = sym whole ∙ no_tasks all (served.tasks 1 one) in
      let front = served.front.promises 1 one in
      let agrees : AgreesUpTo (length (begun_books old).list) (decisions_of 1 served.deeds) []
      (served.last 1) (served.left 1) =
      subst (λ (l : List told_entry.Entry). AgreesUpTo (length (begun_books old).list)
      (decisions_of 1 served.deeds) l (served.last 1) (served.left 1)) none front.agrees in
      let split : served.deeds ≡ Delivered ruled.delivery ∷ taken.later =
      taken.deeds_are ∙ ap (λ l. l ++ taken.later) ruled.row in
      let of_workers : AllOfWorkers 1 (Delivered ruled.delivery ∷ taken.later) =
      subst (λ (l : List Deed). AllOfWorkers 1 l) split
      (subst (λ (k : ℕ). AllOfWorkers k served.deeds) node.size served.front.of_workers) in
      let undecided : decisions_of 1 taken.later ≡ [] =
      sym (ap (decisions_of 1) split) ∙ (sym agrees.1 ∙ (served.whole runs 1 one).1) in
      let empty : taken.later ≡ [] =
      none_later taken.later taken.decisions of_workers undecided in
      record {
        delivery = ruled.delivery;
        ops = ruled.ops ∙ ap ops_of it.packet_is;
        taken = it.taken;
        entry = shown;
        answer = ap (λ (t : Taken). t.answer) ruled.told;
        deeds = split ∙ ap (λ l. Delivered ruled.delivery ∷ l) empty;
        none = none;
      }

  pub ops_done : (k : Kept) → length es ≡ 1 → IsStill old new
      → new.procs ≡ old.procs → DoneWithOps new n k (ops_of packet) es
  ops_done k count still procs =
      let is = items.Packet packet ∷ [] in
      let it = running old new n node idle runs is es served in
      let one = is_single old n node in
      let alone = alone_there count in
      let p = alone.delivery in
      let recorded : Recorded old.node.node.number (begun_books old) (Delivered p ∷ [])
      (books_of new) =
      subst (λ (l : List Deed). Recorded old.node.node.number (begun_books old) l
      (books_of new)) alone.deeds served.front.recorded in
      let goes : Delivers n p it.end =
      one_turn n p it.turns it.end one
      (λ n' h. (taking old.node.node.number (begun_books old) recorded.0 n k p one
      recorded.1.takes n' h).on.single)
      (subst (λ (l : List Deed). Woven n l it.turns it.end) alone.deeds it.run)
      (it.owns ∙ alone.none) in
      let done =
      taking old.node.node.number (begun_books old) recorded.0 n k p one recorded.1.takes
      it.end goes in
      record {
        result = p.answer;
        replies = ap (map reply_in) alone.entry ∙ ap (λ r. reply_of r ∷ []) alone.answer;
        node = it.end;
        kept = done.kept;
        complete =
            subst (λ (l : List Op). OpsComplete n k (set.of_list l) p.answer it.end done.kept)
            alone.ops done.completes;
        same = done.same;
        is_node = node_at_end old new n it.end served.last is node still procs it.crew done.on;
      }

pub ops_in_turn : {K : Type 0} (old new : CrewOver K) (packet : Packet) (batch : Batch)
    (es : List Entry) (n : NodeState) (k : Kept) → IsNodeOf old n
    → (packet ≡ packets.Full batch) ⊎ (packet ≡ packets.Delta batch)
    → IsDone old new [] (packet ∷ []) es → DoneWithOps new n k batch.ops es
ops_in_turn old new packet batch es n k node (inl is) h =
    let full = subst (λ (p : Packet). IsDone old new [] (p ∷ []) es) is h in
    ops_done old new n node full.idle full.runs (packets.Full batch) es full.served k full.count
    full.still full.procs
ops_in_turn old new packet batch es n k node (inr is) h =
    let delta = subst (λ (p : Packet). IsDone old new [] (p ∷ []) es) is h in
    ops_done old new n node delta.idle delta.runs (packets.Delta batch) es delta.served k
    delta.count delta.still delta.procs
