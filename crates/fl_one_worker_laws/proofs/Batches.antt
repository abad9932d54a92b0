-- A batch of an only worker: its jobs are done at the node one after another.
use Rattle.std.proofs.Common.{◌≡◌, ℕ, ◌≤◌, List, [], ◌∷◌, ◌++◌, map, length, Option, None}
use Rattle.std.proofs.Common.{false, refl, sym, ap, ◌∙◌, subst, arith, length-append}
use Rattle.std.proofs.lemmas.List.{append-nil, length-map}
use Rattle.fl_message.specs.declared.message.Data.{Data}
use Rattle.fl_jobs.specs.declared.job.Job.{Job}
use Rattle.fl_store.specs.Kept.{Kept}
use Rattle.fl_system.specs.declared.state.Batch.{Batch}
use Rattle.fl_system.specs.State.{NodeState, ops_in}
use Rattle.fl_wire.specs.declared.packet.Packet.TheVariants as packets
use Rattle.fl_crew_model.specs.declared.record.Deed.{Deed}
use Rattle.fl_crew_model.specs.declared.record.Deed.TheVariants.{Decided, Delivered}
use Rattle.fl_crew_model.specs.declared.record.Entry as told_entry
use Rattle.fl_crew_model.specs.Compared.{AgreesUpTo, decisions_of}
use Rattle.fl_crew_model.specs.Crews.{IsWorker, IsCrew, IsWeave, IsDueHome}
use Rattle.fl_crew_model.specs.Woven.{Turn, Woven, entries_of}
use Rattle.fl_crew_threads.specs.Receiving.{AreReceived, AreDecisions}
use Rattle.fl_crew_threads.specs.declared.ruling.Placed.{Placed}
use Rattle.fl_dealing.specs.Dealt.{owners_of, parcels_of, procs_behind, tasks_of}
use Rattle.fl_dealing.specs.Gathered.{select}
use Rattle.fl_dealing.specs.Items.{job_item}
use Rattle.fl_dealing.specs.Shown.{shown}
use Rattle.fl_dealing.specs.declared.entry.Entry.{Entry}
use Rattle.fl_dealing.specs.declared.entry.Taken.{Taken}
use Rattle.fl_dealing.specs.declared.item.Item.{Item}
use Rattle.fl_worker.specs.Tasks.{AreOf}
use Rattle.fl_workers.specs.Batches.{Clears, IsServed, IsStill, IsTakenAll, items_for}
use Rattle.fl_workers.specs.Over.{CrewOver, books_of, begun_books, bench_at}
use Rattle.fl_workers.specs.Plans.{packet_at, packet_in}
use Rattle.fl_one_worker_laws.specs.Completing.{AllComplete}
use Rattle.fl_one_worker_laws.specs.Single.{IsNodeOf, IsDone, DoneInTurn, arrival_of, reply_in}
use Rattle.fl_one_worker_laws.proofs.Single.{IsSingle, Follows}
use Rattle.fl_one_worker_laws.proofs.Turning.{ArePlain, AllDone, NoPacket, job_in, told_in}
use Rattle.fl_one_worker_laws.proofs.Turning.{run_done}
use Rattle.fl_one_worker_laws.proofs.Places.{all_items, all_selected, births_past, jobs_done}
use Rattle.fl_one_worker_laws.proofs.Places.{replies_shown, no_parcels, all_plain}

-- ---- the registrar ruled on orders alone where no packet is among the items

pub no_packet : (ds : List Deed) → AreDecisions ds → NoPacket ds
no_packet [] h = tt
no_packet (Decided d ∷ ds) h = no_packet ds h
no_packet (Delivered p ∷ ds) h = absurd h

no_placed : (placed : List Placed) → map packet_at placed ≡ [] → placed ≡ []
no_placed [] h = refl
no_placed (p ∷ ps) h = absurd (cc)

no_rows : (told : List Taken) (rows : List Deed) → AreReceived [] told rows → rows ≡ []
no_rows [] rows h = h
no_rows (t ∷ ts) rows h = absurd h

only_decisions : (is : List Item) (owners : List ℕ) (es : List Entry) (deeds : List Deed)
    → parcels_of 0 is ≡ [] → IsTakenAll is owners es deeds → NoPacket deeds
only_decisions is owners es deeds none taken =
    let placed : taken.placed ≡ [] =
    no_placed taken.placed (taken.packets ∙ ap (map packet_in) none) in
    let rows : taken.rows ≡ [] =
    no_rows taken.told taken.rows
    (subst (λ (ps : List Placed). AreReceived ps taken.told taken.rows) placed
    taken.received) in
    subst NoPacket
    (sym (taken.deeds_are ∙ ap (λ l. l ++ taken.later) rows))
    (no_packet taken.later taken.decisions)

-- ---- the node of the crew

module _ {K : Type 0} where
  pub is_single : (c : CrewOver K) (n : NodeState) → IsNodeOf c n → IsSingle n
  is_single c n is = record {
    desks = is.crew.desks ∙ is.size;
    places = is.crew.places ∙ is.size;
    births = is.births;
  }

  pub first_worker : (c : CrewOver K) → c.size ≡ 1 → IsWorker c.size 1
  first_worker c size = record { low = omega arith; high = omega arith }

  -- what a run of the crew ends at is its node
  pub node_at_end : (old new : CrewOver K) (n end : NodeState) (last : ℕ → ℕ) (is : List Item)
      → IsNodeOf old n → IsStill old new → new.procs ≡ procs_behind old.size old.procs is
      → IsCrew old.node.node.number old.size end (books_of new) (bench_at new.benches) last
      → Follows n end → IsNodeOf new end
  node_at_end old new n end last is node still procs crew on = record {
    size = still.size ∙ node.size;
    crew = record {
      numbered = crew.numbered ∙ sym still.number;
      desks = crew.desks ∙ sym still.size;
      places = crew.places ∙ sym still.size;
      holds = crew.holds;
      due = subst (λ (k : ℕ). IsDueHome k new.due) (sym still.size) crew.due;
      seen = λ w is_one.
          let sees = crew.seen w (subst (λ (k : ℕ). IsWorker k w) still.size is_one) in
          (sees.0, sees.1, sees.2, sees.2);
      stands = λ w is_one. crew.stands w (subst (λ (k : ℕ). IsWorker k w) still.size is_one);
    };
    boot = on.boot ∙ (node.boot ∙ sym still.boot);
    births = on.single.births;
    births_here =
        procs ∙ (ap (λ k. procs_behind k old.procs is) node.size
        ∙ births_past old.procs is node.births_here);
  }

  -- the run of a batch, from the node on
  pub record Running (old new : CrewOver K) (n : NodeState) (deeds : List Deed)
      (good : List told_entry.Entry) (last : ℕ → ℕ) : Type 0 where
    pub turns : List Turn
    pub end : NodeState
    pub run : Woven n deeds turns end
    pub owns : entries_of 1 turns ≡ good
    pub crew : IsCrew old.node.node.number old.size end (books_of new) (bench_at new.benches) last

  module _ (old new : CrewOver K) (n : NodeState) (node : IsNodeOf old n) (idle : old.due ≡ None)
      (runs : new.stopped ≡ false) (is : List Item) (es : List Entry)
      (served : IsServed old new is es) where
    one : IsWorker old.size 1
    one = first_worker old node.size

    pub running : Running old new n served.deeds (served.good 1) served.last
    running =
        let it = served.woven runs n (λ w. length old.list) node.crew in
        let same : it.begun ≡ n =
        subst (λ (d : Option Batch). Clears n d it.begun) idle it.clears in
        let weave : IsWeave old.node.node.number old.size n served.deeds served.good (books_of new)
        (bench_at new.benches) served.last =
        subst (λ (x : NodeState). IsWeave old.node.node.number old.size x served.deeds
        served.good (books_of new) (bench_at new.benches) served.last) same it.weave in
        record {
          turns = weave.turns;
          end = weave.end;
          run = weave.run;
          owns = weave.owns 1 one;
          crew = weave.crew;
        }

    pub none_lost : served.lost 1 ≡ []
    none_lost = (served.whole runs 1 one).0

    pub owners : owners_of old.size old.procs is ≡ owners_of 1 old.procs is
    owners = ap (λ k. owners_of k old.procs is) node.size

    -- the list that the batch begins with
    pub begins_with : length n.published ≤ length (begun_books old).list
    begins_with =
        let same = ap length node.crew.holds.list in
        let sum = length-append old.list (ops_in old.due) in
        omega arith

    jobs_run : (upto : ℕ) (k : Kept) (jobs : List Job) → is ≡ map job_item jobs
        → length es ≡ length jobs → IsStill old new
        → new.procs ≡ procs_behind old.size old.procs is → length new.list ≤ upto
        → DoneInTurn upto new n k jobs es
    jobs_run upto k jobs items count still procs high =
        let it = running in
        let good = served.good 1 in
        let all = good ++ served.lost 1 in
        let front = served.front.promises 1 one in
        let whole : all ≡ good = ap (λ l. good ++ l) none_lost ∙ append-nil good in
        let named : map job_in good ≡ jobs =
        jobs_done old.procs jobs good node.births_here
        (subst (λ (l : List told_entry.Entry). AreOf
        (tasks_of 1 0 (owners_of 1 old.procs (map job_item jobs)) (map job_item jobs)) l) whole
        (subst (λ (l : List Item). AreOf (tasks_of 1 0 (owners_of 1 old.procs l) l) all) items
        (subst (λ (os : List ℕ). AreOf (tasks_of 1 0 os is) all) owners
        (served.tasks 1 one)))) in
        let shown_all : es ≡ map shown good =
        sym (all_selected old.procs jobs es node.births_here count)
        ∙ (ap (λ l. select 1 (owners_of 1 old.procs l) es) (sym items)
        ∙ (ap (λ os. select 1 os es) (sym owners)
        ∙ (served.are_shown 1 one ∙ ap (map shown) whole))) in
        let none : NoPacket served.deeds =
        only_decisions is (owners_of old.size old.procs is) es served.deeds
        (ap (parcels_of 0) items ∙ no_parcels 0 jobs) served.taken in
        let at_end = ap length it.crew.holds.list in
        let done : AllDone upto n k (entries_of 1 it.turns) it.end =
        run_done upto n served.deeds it.turns it.end k (length (begun_books old).list)
        (served.last 1) (served.left 1) (is_single old n node) it.run none
        (subst ArePlain (sym it.owns)
        (all_plain (books_of new).list _ _ good front.served))
        (subst (λ (l : List told_entry.Entry). AgreesUpTo (length (begun_books old).list)
        (decisions_of 1 served.deeds) l (served.last 1) (served.left 1)) (sym it.owns)
        front.agrees)
        begins_with (omega arith) in
        let here : AllDone upto n k good it.end =
        subst (λ (l : List told_entry.Entry). AllDone upto n k l it.end) it.owns done in
        record {
          told = map told_in good;
          replies = ap (map reply_in) shown_all ∙ replies_shown good;
          node = it.end;
          kept = here.kept;
          complete =
              subst (λ (l : List Job). AllComplete upto n k l (map told_in good) it.end here.kept)
              named here.complete;
          same = here.same;
          is_node = node_at_end old new n it.end served.last is node still procs it.crew here.on;
        }

  pub jobs_in_turn : (old new : CrewOver K) (jobs : List Job) (messages : List Data)
      (es : List Entry) (n : NodeState) (k : Kept) (upto : ℕ) → IsNodeOf old n
      → IsDone old new jobs (map packets.Data messages) es → length new.list ≤ upto
      → DoneInTurn upto new n k (jobs ++ map arrival_of messages) es
  jobs_in_turn old new jobs messages es n k upto node h high =
      let is = items_for jobs (map packets.Data messages) in
      let sum = length-append jobs (map arrival_of messages) in
      let each = length-map messages arrival_of in
      let other = length-map messages packets.Data in
      let count = h.count in
      jobs_run old new n node h.idle h.runs is es h.served upto k (jobs ++ map arrival_of messages)
      (all_items jobs messages) (omega arith) h.still h.procs high
