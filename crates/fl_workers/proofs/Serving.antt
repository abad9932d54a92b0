-- A batch, from its beginning to its end.
use Rattle.std.proofs.Common.{◌≡◌, ◌∙◌, ◌⊎◌, inl, inr, ℕ, zero, suc, ◌<◌, ◌≤◌, Bool, false, IsTrue, List, [], ◌∷◌, ◌++◌, All, map, length, slice_get, Option, Some, refl, sym, ap, subst, arith}
use Rattle.std.proofs.lemmas.Bool.{cases_lt}
use Rattle.std.proofs.lemmas.List.{take-append-drop, append-nil}
use Rattle.fl_bench.specs.Bench.{BenchState}
use Rattle.fl_store.specs.Custody.{Custody}
use Rattle.fl_store.specs.Kept.{Kept}
use Rattle.fl_system.specs.declared.answer.Fault.TheVariants.{KeeperFailed, Stopped}
use Rattle.fl_system.specs.State.{NodeState, kept_of}
use Rattle.fl_crew_model.specs.declared.record.Deed.{Deed}
use Rattle.fl_crew_model.specs.declared.record.Deed.TheVariants.{Decided, Delivered}
use Rattle.fl_crew_model.specs.declared.record.Decision.{Decision}
use Rattle.fl_crew_model.specs.declared.record.Entry as inner
use Rattle.fl_crew_model.specs.declared.record.FailedOrder.{FailedOrder}
use Rattle.fl_crew_model.specs.declared.record.Told.{Told}
use Rattle.fl_crew_model.specs.Answered.{AllRise, AreTold, AreOwn, HasDecision, IsAmong, IsOwn}
use Rattle.fl_crew_model.specs.Compared.{Rise, decisions_of}
use Rattle.fl_crew_model.specs.Books.{Books, Recorded}
use Rattle.fl_crew_model.specs.Served.{Served}
use Rattle.fl_ops.specs.declared.op.Op.{Op}
use Rattle.fl_labels.specs.declared.name.Name.{Name}
use Rattle.fl_system.specs.Naming.{IsNextAfter}
use Rattle.fl_crew_model.specs.Crews.{AllHome, AllOfWorkers, IsWorker, IsFront, IsCrew, Promises}
use Rattle.fl_crew_threads.specs.Receiving.{ReceivesThenDecides}
use Rattle.fl_crew_threads.specs.Registers.{IsStoppedThere, Registers}
use Rattle.fl_dealing.specs.Dealt.{owners_of, tasks_of}
use Rattle.fl_dealing.specs.Gathered.{IsGathered}
use Rattle.fl_dealing.specs.Shown.{shown, shown_taken}
use Rattle.fl_dealing.specs.declared.entry.Entry.{Entry}
use Rattle.fl_dealing.specs.declared.entry.Taken.{Taken}
use Rattle.fl_dealing.specs.declared.item.Item.{Item}
use Rattle.fl_manning.specs.Orders.{job_for}
use Rattle.fl_registrar.specs.Apart.{AreAwaited, AreApart}
use Rattle.fl_registrar.specs.declared.awaited.Awaited.{Awaited}
use Rattle.fl_registrar.specs.Over as registrars
use Rattle.fl_registrar.specs.Over.{RegistrarOver}
use Rattle.fl_registrar.specs.Passing.{Passes}
use Rattle.fl_settling.specs.Batches.{AreBack, BatchEnds, IsStopFirst}
use Rattle.fl_settling.specs.Cut.{AreGivenUp, fault_at}
use Rattle.fl_settling.specs.Each.{Each}
use Rattle.fl_settling.specs.Settled.{FailsFirst, Meets}
use Rattle.fl_settling.proofs.Ending.{BreaksAt, breaks_at, broke}
use Rattle.fl_settling.specs.Numbers.{bench_by, good_by, lost_by, tasks_by, entries_by}
use Rattle.fl_worker.specs.declared.worker.Worker.{Worker}
use Rattle.fl_worker.specs.declared.task.Task.{Task}
use Rattle.fl_worker.specs.Done.{IsDone}
use Rattle.fl_worker.specs.Stops as stops
use Rattle.fl_worker.specs.Seen.{Rises}
use Rattle.fl_worker.specs.Tasks.{AreOf}
use Rattle.fl_workers.specs.Batches.{AreOnce, BreaksFirst, HasMet, IsAnswered, IsLostAt, IsOneRun}
use Rattle.fl_workers.specs.Batches.{IsServed}
use Rattle.fl_workers.specs.Batches.{IsTakenAll, Serves}
use Rattle.fl_manning.specs.Begun.{AreBegun, IsBegun}
use Rattle.fl_manning.specs.Ended.{IsClosed, IsKept, IsRuledOn, IsSame, said_of}
use Rattle.fl_manning.specs.Begun.{benches_after}
use Rattle.fl_workers.specs.Over.{CrewOver, books_of, begun_books, begun_benches, bench_at}
use Rattle.fl_workers.specs.Plans.{IsPlan}
use Rattle.fl_workers.specs.Seats.{AreSeated, manned_of, bench_of_worker}
use Rattle.fl_workers.specs.declared.planning.Plan.{Plan}
use Rattle.fl_workers.proofs.Begun.{are_back, tasks_at}
use Rattle.fl_workers.proofs.Breaking.{breaks_first, failed_same, home_lost, runs_if_sound}
use Rattle.fl_workers.proofs.Breaking.{there_still}
use Rattle.fl_workers.proofs.Ends.{get_past}
use Rattle.fl_workers.proofs.Frugal.{WantsTruly, none_starved}
use Rattle.fl_workers.proofs.Lists.{bench_same, benches_kept}
use Rattle.fl_workers.proofs.Lost.{HasEntry, all_at, done_in, job_worker, order_job, ordered_entry}
use Rattle.fl_workers.proofs.Lost.{none_at, own_in, ruled_entry, split}
use Rattle.fl_workers.proofs.Weaving.{Weaves, ClearsFirst, begins, whole_batch}
use Rattle.fl_workers.proofs.Said.{all_by_owner, all_taken, all_shown}

once_of : (orders : List (Option Awaited)) (ds : List Deed) → AreApart orders ds → AreOnce ds
once_of orders [] apart = tt
once_of orders (Decided d ∷ ds) apart = (apart.1, once_of orders ds apart.2)
once_of orders (Delivered p ∷ ds) apart = once_of orders ds apart

-- the good entries of a worker and the others are all that it has
split_entries : (ws : List Worker) (w : ℕ) → good_by ws w ++ lost_by ws w ≡ entries_by ws w
split_entries [] w = refl
split_entries (v ∷ ws) zero = refl
split_entries (v ∷ ws) (suc zero) = take-append-drop v.good v.entries.items
split_entries (v ∷ ws) (suc (suc k)) = split_entries ws (suc k)

-- what a worker says is what is shown of its entries
said_by_worker : (ws : List Worker) (taken : List Taken) (w : ℕ) → IsWorker (length ws) w
    → said_of ws taken w ≡ map shown (entries_by ws w)
said_by_worker ws taken zero is = absurd (let low = is.low in omega (arith, low))
said_by_worker [] taken (suc k) is = absurd (let high = is.high in omega (arith, high))
said_by_worker (v ∷ ws) taken (suc zero) is = refl
said_by_worker (v ∷ ws) taken (suc (suc k)) is =
    let high = is.high in
    said_by_worker ws taken (suc k) (record { low = omega arith; high = omega (arith, high) })

module _ {K : Type 0} (custody : Custody K) (procs after : ℕ) (is : List Item) (plan : Plan)
    (ws0 ws1 ws2 ws3 ws4 : List Worker) (r0 r1 r2 r3 : RegistrarOver K) (lines : ℕ)
    (seated : AreSeated ws0 r0 lines procs) (planned : IsPlan (length ws0) procs is plan)
    (begun : IsBegun plan.orders.items r0 r1)
    (tasked : AreBegun plan.queues.items r0.due ws0 ws1) (done : Each IsDone ws1 ws2)
    (rules : Registers custody lines r1 r2)
    (closed : IsClosed r2 r3)
    (kept : Each IsKept ws2 ws3) (same : Each IsSame ws3 ws4) (taken : List Taken)
    (es : List Entry) (gathered : IsGathered (owners_of (length ws0) procs is) (said_of ws3 taken) es)
    (fine : Bool) (lost : IsTrue fine → (w : ℕ) → IsWorker (length ws2) w → lost_by ws3 w ≡ [])
    (was stopped : Bool) (stays : stopped ≡ false → IsTrue fine × (r2.stopped ≡ false))
    (ends : (number : ℕ) (b b' : Books) (start : List Worker) → length r1.press.list ≡ length b.list
    → b'.list ≡ r2.press.list → Recorded number b r2.deeds b' → AllOfWorkers (length start) r2.deeds
    → AreBack start ws2 → BatchEnds number b b' r2.deeds r2.failed start ws3 fine)
    (answered : (number workers : ℕ) (b b' : Books) (rs : List Deed) (old new : ℕ → BenchState)
    (es : ℕ → List inner.Entry) (last : ℕ → ℕ) (left : ℕ → List Decision)
    → IsFront number workers b b' rs old new es last left → AllRise workers rs
    → AreTold workers b b' rs es left)
    (ruled : IsTrue fine → All IsRuledOn taken) (wants : WantsTruly)
    (right : (list : List Op) (b b' : BenchState) (es : List inner.Entry) → Served list b es b'
    → All stops.IsAnswered es)
    (weaves : Weaves) (clears_first : ClearsFirst) (none : List Taken) (is_none : none ≡ [])
    (receives : ReceivesThenDecides plan.packets.items none taken r1 r2) where
  abbrev old : CrewOver K
  old = manned_of ws0 r0 procs was

  abbrev new : CrewOver K
  new = manned_of ws4 r3 after stopped

  count1 : length ws1 ≡ length ws0
  count1 = tasked.at.count

  count3 : length ws3 ≡ length ws0
  count3 = kept.count ∙ (done.count ∙ count1)

  lines_are : lines ≡ length ws1
  lines_are = seated.lines_are ∙ sym count1

  back : AreBack ws1 ws2
  back = are_back procs is plan r0.due ws0 ws1 planned tasked seated.numbered ws2 done

  of_workers : AllOfWorkers (length ws1) r2.deeds
  of_workers =
      subst (λ (n : ℕ). AllOfWorkers n r2.deeds) lines_are
      (rules.of_workers (subst (AllOfWorkers lines) (sym begun.deeds) tt))

  before : registrars.books_of r1 ≡ begun_books old
  before =
      let saved = begun.node.saved in
      let list = begun.list in
      let due = begun.due in
      λ i. record { saved = saved i; list = list i; due = due i }

  behind : registrars.books_of r2 ≡ books_of new
  behind = ap registrars.books_of (sym closed)

  -- ---- where its keeper broke

  there : IsStoppedThere r2
  there =
      there_still custody plan.orders.items ws0 r0 r1 r2 r3 lines procs seated begun rules closed

  same_failed : r2.failed ≡ r3.failed
  same_failed =
      failed_same custody plan.orders.items ws0 r0 r1 r2 r3 lines procs seated begun rules closed

  abbrev number : ℕ
  number = r0.node.node.number

  ended : Recorded number (registrars.books_of r1) r2.deeds (registrars.books_of r2)
      → BatchEnds number (registrars.books_of r1) (registrars.books_of r2) r2.deeds r2.failed ws1
      ws3 fine
  ended recorded =
      ends number (registrars.books_of r1) (registrars.books_of r2) ws1 refl refl recorded
      of_workers back

  -- the benches with which the workers began
  moved : (w : ℕ) → IsWorker (length ws0) w → bench_by ws1 w ≡ begun_benches old w
  moved w is_one =
      tasked.bench w is_one
      ∙ ap (λ (f : ℕ → BenchState). benches_after f r0.due w) (λ i v. bench_same ws0 v i)

  one_of : (w : ℕ) → IsWorker (length ws0) w → IsWorker (length ws1) w
  one_of w is_one = subst (λ (n : ℕ). IsWorker n w) (sym count1) is_one

  module _ (recorded : Recorded number (registrars.books_of r1) r2.deeds (registrars.books_of r2)) where
    all : BatchEnds number (registrars.books_of r1) (registrars.books_of r2) r2.deeds r2.failed ws1
        ws3 fine
    all = ended recorded

    promises : (w : ℕ) → IsWorker (length ws0) w
        → Promises (length ws0) (length (begun_books old).list) (books_of new).list r2.deeds w
        (begun_benches old w) (all.benches w) (good_by ws3 w) (all.last w) (all.left w)
    promises w is_one =
        subst
        (λ (x : BenchState). Promises (length ws0) (length (begun_books old).list)
        (books_of new).list r2.deeds w x (all.benches w) (good_by ws3 w) (all.last w) (all.left w))
        (moved w is_one)
        (subst
        (λ (b : Books). Promises (length ws0) (length b.list)
        (books_of new).list r2.deeds w (bench_by ws1 w) (all.benches w) (good_by ws3 w)
        (all.last w) (all.left w))
        before
        (subst
        (λ (b : Books). Promises (length ws0) (length (registrars.books_of r1).list)
        b.list r2.deeds w (bench_by ws1 w) (all.benches w) (good_by ws3 w)
        (all.last w) (all.left w))
        behind
        (subst
        (λ (n : ℕ). Promises n (length (registrars.books_of r1).list)
        (registrars.books_of r2).list r2.deeds w (bench_by ws1 w) (all.benches w) (good_by ws3 w)
        (all.last w) (all.left w))
        count1 (all.front.promises w (one_of w is_one)))))

    front : IsFront number (length ws0) (begun_books old) (books_of new) r2.deeds
        (begun_benches old) all.benches (good_by ws3) all.last all.left
    front = record {
      recorded =
          subst (λ (b : Books). Recorded number b r2.deeds (books_of new)) before
          (subst (λ (b : Books). Recorded number (registrars.books_of r1) r2.deeds b) behind
          recorded);
      of_workers = subst (λ (n : ℕ). AllOfWorkers n r2.deeds) count1 of_workers;
      promises = promises;
    }

    own : AreOwn (job_for (owners_of (length ws0) procs is) is) r2.deeds
    own =
        let jobs = job_for (owners_of (length ws0) procs is) is in
        rules.own jobs
        (subst (AreAwaited jobs) (sym begun.orders_are) planned.orders)
        (subst (AreOwn jobs) (sym begun.deeds) tt)

    whole : stopped ≡ false → (w : ℕ) → IsWorker (length ws0) w
        → (lost_by ws3 w ≡ []) × (all.left w ≡ []) × (all.benches w ≡ bench_at (map bench_of_worker ws4) w)
    whole goes w is_one =
        let t = (stays goes).0 in
        let its = all.whole t w (one_of w is_one) in
        let count = done.count ∙ count1 in (
          lost t w (subst (λ (n : ℕ). IsWorker n w) (sym count) is_one),
          its.0,
          its.1 ∙ (bench_same ws3 w
              ∙ ap (λ (bs : List BenchState). bench_at bs w)
              (sym (benches_kept IsSame ws3 ws4 same (λ u v r. r.bench)))),
        )

    -- what each owner says, where nobody stopped
    said_of_worker : stopped ≡ false → (w : ℕ) → IsWorker (length ws0) w
        → All IsAnswered (said_of ws3 taken w)
    said_of_worker goes w is_one =
        let here = subst (λ (n : ℕ). IsWorker n w) (sym count3) is_one in
        let none = (whole goes w is_one).0 in
        subst (All IsAnswered)
        (sym (said_by_worker ws3 taken w here ∙ ap (map shown) (sym (split_entries ws3 w)
        ∙ (ap (λ (l : List inner.Entry). good_by ws3 w ++ l) none ∙ append-nil (good_by ws3 w)))))
        (all_shown (good_by ws3 w)
        (right (books_of new).list (begun_benches old w) (all.benches w) (good_by ws3 w)
        (front.promises w is_one).served))

    said : stopped ≡ false → (w : ℕ) → All IsAnswered (said_of ws3 taken w)
    said goes zero = all_taken taken (ruled (stays goes).0)
    said goes (suc k) = by (cases_lt k (length ws0))
      where
        by : (k < length ws0) ⊎ (length ws0 ≤ k) → All IsAnswered (said_of ws3 taken (suc k))
        by (inl below) =
            said_of_worker goes (suc k) (record { low = omega arith; high = omega (arith, below) })
        by (inr past) =
            let beyond : length ws3 ≤ k = omega (arith, past, count3) in
            subst (All IsAnswered) (sym (get_past ws3 k beyond))
            (λ j d below. absurd (omega arith))

    apart : AreApart r2.orders r2.deeds
    apart = rules.apart (subst (AreApart r1.orders) (sym begun.deeds) tt)

    once : AreOnce r2.deeds
    once = once_of r2.orders r2.deeds apart

    abbrev owners : List ℕ
    owners = owners_of (length ws0) procs is

    awaited : AreAwaited (job_for owners is) r2.orders
    awaited =
        rules.left (job_for owners is)
        (subst (AreAwaited (job_for owners is)) (sym begun.orders_are) planned.orders)

    all_rise : AllRise (length ws0) r2.deeds
    all_rise w is_one =
        rules.rises w (subst (λ (ds : List Deed). Rise (decisions_of w ds)) (sym begun.deeds) tt)

    told : AreTold (length ws0) (begun_books old) (books_of new) r2.deeds (good_by ws3) all.left
    told =
        answered number (length ws0) (begun_books old) (books_of new) r2.deeds
        (begun_benches old) all.benches (good_by ws3) all.last all.left front all_rise

    tasks : (w : ℕ) → IsWorker (length ws0) w
        → AreOf (tasks_of w 0 owners is) (good_by ws3 w ++ lost_by ws3 w)
    tasks w is_one =
        subst (λ (ts : List Task). AreOf ts (good_by ws3 w ++ lost_by ws3 w))
        (tasks_at procs is plan r0.due ws0 ws1 planned tasked w is_one)
        (subst (AreOf (tasks_by ws1 w)) (sym (split_entries ws3 w)) (all.tasks w (one_of w is_one)))

    given_up : (w : ℕ) → IsWorker (length ws0) w → AreGivenUp r2.failed w (lost_by ws3 w)
    given_up w is_one = all.given_up w (one_of w is_one)

    undone : (w : ℕ) → IsWorker (length ws0) w
        → IsStopFirst (books_of new).list (all.benches w) (lost_by ws3 w)
        ⊎ (good_by ws3 w ≡ [])
    undone w is_one =
        subst (λ (b : Books). IsStopFirst b.list (all.benches w) (lost_by ws3 w)
        ⊎ (good_by ws3 w ≡ [])) behind (all.undone w (one_of w is_one))

    -- an order that was decided, and whose worker stopped before it was told so
    left_over : (w : ℕ) (d : Decision) → IsWorker (length ws0) w → IsAmong (all.left w) d
        → IsLostAt (lost_by ws3 w) d.place Stopped
    left_over w d is_one among =
        let it = told.there w d is_one among in
        let its =
        subst (λ (v : ℕ). IsOwn (job_for owners is v d.place) d.ruling) it.1
        (own_in (job_for owners is) r2.deeds d own it.0) in
        by it.0
        (split (good_by ws3 w) (lost_by ws3 w) d.place
        (ruled_entry owners is w d.place (good_by ws3 w) (lost_by ws3 w) (tasks w is_one) d.ruling
        its))
      where
        here : HasDecision r2.deeds d → (h : HasEntry (lost_by ws3 w) d.place)
            → BreaksAt r2.failed w h.entry.place
            → h.entry.told ≡ Told.Refused (fault_at r2.failed w h.entry.place)
            → IsLostAt (lost_by ws3 w) d.place Stopped
        here has h (inl stopped) is_told = record {
          index = h.index;
          entry = h.entry;
          there = h.there;
          at = h.at;
          is_told = is_told ∙ ap Told.Refused stopped;
        }
        here has h (inr (fault, order, is, same, place)) is_told =
            let at = there order is in
            absurd (done_in r2.orders r2.deeds d apart has
            (record { worker = order.worker; body = at.body })
            (ap (λ (p : ℕ). slice_get r2.orders p) (sym h.at ∙ sym place) ∙ at.awaited))

        by : HasDecision r2.deeds d
            → HasEntry (good_by ws3 w) d.place ⊎ HasEntry (lost_by ws3 w) d.place
            → IsLostAt (lost_by ws3 w) d.place Stopped
        by has (inl h) =
            let low = told.untold w h.index h.entry d is_one h.there among in
            absurd (omega (arith, low, h.at))
        by has (inr h) =
            here has h (breaks_at r2.failed w h.entry.place)
            (all_at (λ e. e.told ≡ Told.Refused (fault_at r2.failed w e.place)) (lost_by ws3 w)
            h.index h.entry (given_up w is_one) h.there)

    -- the order at which the keeper broke
    met : (order : FailedOrder) → r2.failed ≡ Some order
        → HasMet number (books_of new) (length ws0) (good_by ws3) (lost_by ws3) all.benches
        all.last order
    met order at_it =
        let at = there order at_it in
        let asked = awaited order.place (record { worker = order.worker; body = at.body })
        at.awaited in
        let job = order_job (job_for owners is order.worker order.place) at.body asked in
        let is_one =
        job_worker (length ws0) procs order.worker order.place is job.0 seated.next job.1 in
        let w = order.worker in
        let first =
        subst (λ (f : Option FailedOrder). Meets f w (all.last w) (lost_by ws3 w)
        ⊎ (good_by ws3 w ≡ [])) at_it (all.met w (one_of w is_one)) in
        record {
          worker = is_one;
          told = by is_one first
              (split (good_by ws3 w) (lost_by ws3 w) order.place
              (ordered_entry owners is w order.place (good_by ws3 w) (lost_by ws3 w)
              (tasks w is_one) at.body asked));
          first = at_first is_one first (undone w is_one);
        }
      where
        at_first : IsWorker (length ws0) order.worker
            → Meets (Some order) order.worker (all.last order.worker)
            (lost_by ws3 order.worker)
            ⊎ (good_by ws3 order.worker ≡ [])
            → IsStopFirst (books_of new).list (all.benches order.worker) (lost_by ws3 order.worker)
            ⊎ (good_by ws3 order.worker ≡ [])
            → BreaksFirst number (books_of new) (length ws0) order.worker
            (all.benches order.worker) (all.last order.worker) order.place
            (lost_by ws3 order.worker) ⊎ (good_by ws3 order.worker ≡ [])
        at_first is_one (inr none) stop = inr none
        at_first is_one (inl meets) (inr none) = inr none
        at_first is_one (inl meets) (inl stop) =
            let at = there order at_it in
            inl (breaks_first number (books_of new) (length ws0) order.worker
            (all.benches order.worker) (all.last order.worker) order.place
            (lost_by ws3 order.worker) (sym (ap (λ (b : Books). b.due) behind) ∙ at.due)
            (subst (λ (n : ℕ). (name : Name) × IsNextAfter (books_of new).saved n name)
            (rules.number ∙ begun.node.number)
            (subst (λ (b : Books). (name : Name) × IsNextAfter b.saved r2.node.node.number name)
            behind at.named))
            (home_lost (length ws0) order.worker (good_by ws3 order.worker)
            (lost_by ws3 order.worker)
            (subst (AllHome (length ws0) order.worker) (sym (split_entries ws3 order.worker))
            (subst (λ (n : ℕ). AllHome n order.worker (entries_by ws3 order.worker)) count1
            (all.homes order.worker (one_of order.worker is_one)))))
            (meets refl) stop)

        head : (es : List inner.Entry) (need : ℕ) → FailsFirst order.place need es
            → IsLostAt es order.place KeeperFailed
        head [] need h = absurd h
        head (e ∷ es) need h =
            record { index = 0; entry = e; there = refl; at = h.0; is_told = h.1 }

        by : IsWorker (length ws0) order.worker
            → Meets (Some order) order.worker (all.last order.worker) (lost_by ws3 order.worker)
            ⊎ (good_by ws3 order.worker ≡ [])
            → HasEntry (good_by ws3 order.worker) order.place
            ⊎ HasEntry (lost_by ws3 order.worker) order.place
            → IsLostAt (lost_by ws3 order.worker) order.place KeeperFailed
        by is_one (inl meets) (inl h) =
            head (lost_by ws3 order.worker) (all.last order.worker) (meets refl)
        by is_one (inr none) (inl h) =
            absurd (none_at (good_by ws3 order.worker) h.index h.entry none h.there)
        by is_one first (inr h) = record {
          index = h.index;
          entry = h.entry;
          there = h.there;
          at = h.at;
          is_told =
              all_at (λ e. e.told ≡ Told.Refused (fault_at r2.failed order.worker e.place))
              (lost_by ws3 order.worker) h.index h.entry (given_up order.worker is_one) h.there
              ∙ ap Told.Refused
              (ap (λ (f : Option FailedOrder). fault_at f order.worker h.entry.place) at_it
              ∙ broke order order.worker h.entry.place refl (sym h.at));
        }

    taken_all : IsTakenAll is (owners_of (length ws0) procs is) es r2.deeds
    taken_all = record {
      placed = plan.packets.items;
      places = planned.places;
      packets = planned.packets;
      told = receives.told;
      rows = receives.rows;
      later = receives.later;
      deeds_are =
          receives.writes ∙ ap (λ (ds : List Deed). ds ++ (receives.rows ++ receives.later)) begun.deeds;
      received = receives.received;
      decisions = receives.decisions;
      are_shown =
          gathered.answers 0
          ∙ ap (map shown_taken)
          (receives.takes ∙ ap (λ (ts : List Taken). ts ++ receives.told) is_none);
    }

    one_run : (ends : ℕ → BenchState)
        → ((w : ℕ) → IsWorker (length ws0) w → (all.left w ≡ []) × (all.benches w ≡ ends w))
        → (n : NodeState) (first : ℕ → ℕ)
        → IsCrew number (length ws0) n (books_of old) (bench_at old.benches) first
        → IsOneRun old new n r2.deeds (good_by ws3) ends all.last
    one_run ends is n first crew =
        let it = begins clears_first number (length ws0) n (books_of old) (bench_at old.benches)
        first crew in
        record {
          begun = it.node;
          clears = it.clears;
          weave = weaves number (length ws0) it.node (begun_books old) (books_of new) r2.deeds
              (begun_benches old) ends (good_by ws3) it.first all.last it.crew
              (whole_batch number (length ws0) (begun_books old) (books_of new) r2.deeds
              (begun_benches old) all.benches ends (good_by ws3) all.last all.left front is);
        }

    served : IsServed old new is es
    served = record {
      deeds = r2.deeds;
      good = good_by ws3;
      lost = lost_by ws3;
      benches = all.benches;
      last = all.last;
      left = all.left;
      front = front;
      told = told;
      own = own;
      once = once;
      taken = taken_all;
      tasks = tasks;
      are_shown = λ w is_one.
          gathered.answers w
          ∙ (said_by_worker ws3 taken w (subst (λ (n : ℕ). IsWorker n w) (sym count3) is_one)
          ∙ ap (map shown) (sym (split_entries ws3 w)));
      rises = λ w is_one.
          subst (Rises 0) (sym (split_entries ws3 w)) (all.rises w (one_of w is_one));
      given_up = λ w is_one.
          subst (λ (f : Option FailedOrder). AreGivenUp f w (lost_by ws3 w)) same_failed
          (given_up w is_one);
      undone = undone;
      met = λ order at_it. met order (same_failed ∙ at_it);
      left_over = left_over;
      frugal = λ w i e is_one.
          none_starved wants (books_of new).list (begun_benches old w) (all.benches w)
          (good_by ws3 w) (front.promises w is_one).served i e;
      whole = whole;
      answered = λ goes.
          all_by_owner IsAnswered (owners_of (length ws0) procs is) es gathered.count
          (λ w. subst (All IsAnswered) (sym (gathered.answers w)) (said goes w));
      woven = λ goes.
          one_run (bench_at new.benches)
          (λ w is_one. let is = whole goes w is_one in (is.1, is.2));
      woven_so_far = λ none. one_run all.benches (λ w is_one. (none w is_one, refl));
    }

  core : Passes custody (Serves custody old new is es) r1.node.keeper r2.node.keeper
  core honest =
      let go = rules.goes honest in (
        go.0,
        λ k' may.
            let from = go.1 k' may in
            let goes = from.2 in (
              from.0,
              from.1,
              record {
                served = served (subst
                    (λ (n : ℕ). Recorded n (registrars.books_of r1) r2.deeds (registrars.books_of r2))
                    begun.node.number
                    (goes.recorded (registrars.books_of r1)
                    (subst (λ (ds : List Deed). Recorded r1.node.node.number
                    (registrars.books_of r1) ds (registrars.books_of r1)) (sym begun.deeds) refl)));
                kept = kept_still from.0 k' goes.kept;
              },
            ),
      )
    where
      kept_still : (k k' : Kept)
          → (r2.stopped ≡ false → k ≡ kept_of r1.node.node → k' ≡ kept_of r2.node.node)
          → custody.is_broken new.node.keeper ≡ false → k ≡ kept_of old.node.node
          → k' ≡ kept_of new.node.node
      kept_still k k' goes sound is_k =
          let number = begun.node.number in
          let boot = begun.node.boot in
          let saved = begun.node.saved in
          goes
          (runs_if_sound custody plan.orders.items ws0 r0 r1 r2 r3 lines procs seated begun rules
          closed sound)
          (is_k ∙ sym (λ i. record { number = number i; boot = boot i; saved = saved i }))
          ∙ ap (λ (r : RegistrarOver K). kept_of r.node.node) (sym closed)

  pub serves : (items : List Item) → is ≡ items
      → Passes custody (Serves custody old new items es) r0.node.keeper r3.node.keeper
  serves items are =
      subst
      (λ (xs : List Item). Passes custody (Serves custody old new xs es) r0.node.keeper r3.node.keeper) are
      (subst (λ (k : K). Passes custody (Serves custody old new is es) r0.node.keeper k)
      (ap (λ (r : RegistrarOver K). r.node.keeper) (sym closed))
      (subst (λ (k : K). Passes custody (Serves custody old new is es) k r2.node.keeper)
      begun.node.keeper core))
