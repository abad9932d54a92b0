-- What is true of the seats of a crew before and after a batch.
use Rattle.std.proofs.Common.{◌≡◌, ◌∙◌, ℕ, suc, ◌<◌, ◌≤◌, ◌+◌, Bool, true, false, IsTrue, not, List, [], ◌∷◌, ◌++◌, All, map, length, get_or, refl, sym, ap, subst, arith}
use Rattle.std.proofs.lemmas.List.{length-append, length-map}
use Rattle.logbook.specs.Pages.{Book}
use Rattle.fl_store.specs.Custody.{Custody}
use Rattle.fl_crew_threads.specs.Receiving.{place_of, place_at}
use Rattle.fl_crew_threads.specs.Registers.{Registers}
use Rattle.fl_dealing.specs.Dealt.{owners_of, procs_past}
use Rattle.fl_dealing.specs.Gathered.{IsGathered}
use Rattle.fl_dealing.specs.declared.entry.Entry.{Entry}
use Rattle.fl_dealing.specs.declared.entry.Taken.{Taken}
use Rattle.fl_dealing.specs.declared.item.Item.{Item}
use Rattle.fl_dealing.specs.Items.{job_item, item_of}
use Rattle.fl_jobs.specs.declared.job.Job.{Job}
use Rattle.fl_wire.specs.declared.packet.Packet.{Packet}
use Rattle.fl_registrar.specs.Over.{RegistrarOver}
use Rattle.fl_settling.specs.Each.{Each}
use Rattle.fl_worker.specs.declared.worker.Worker.{Worker}
use Rattle.fl_worker.specs.Done.{IsDone}
use Rattle.fl_worker.specs.Tasks.{AreOf}
use Rattle.fl_dealing.specs.Dealt.{tasks_of}
use Rattle.fl_workers.specs.Batches.{IsUnbegun, items_for}
use Rattle.fl_manning.specs.Begun.{AreBegun, IsAtDesk, IsBegun, IsNotBegun, IsUnmoved}
use Rattle.fl_manning.specs.Ended.{AreAllAnswered, IsClosed, IsKept, IsSame}
use Rattle.fl_workers.specs.Plans.{IsPlan}
use Rattle.fl_workers.specs.Seats.{AreSeated, IsManned, manned_of}
use Rattle.fl_workers.specs.declared.planning.Plan.{Plan}
use Rattle.fl_workers.proofs.Begun.{tasks_of_each}
use Rattle.fl_workers.proofs.Ends.{all_answered}
use Rattle.fl_workers.proofs.Lists.{numbers_kept, boards_kept, benches_kept}

-- ---- where a batch is not begun

module _ {K : Type 0} (ws ws' : List Worker) (r r' : RegistrarOver K) (lines procs : ℕ)
    (stopped : Bool) (unmoved : Each IsUnmoved ws ws') (same : IsNotBegun r r') where
  pub manned_still : IsManned ws r lines procs stopped → IsManned ws' r' lines procs stopped
  manned_still manned = record {
    some = let h = manned.some in omega (arith, h, unmoved.count);
    few = let h = manned.few in omega (arith, h, unmoved.count);
    seated = λ runs.
        let s = manned.seated runs in
        record {
          lines_are = s.lines_are ∙ sym unmoved.count;
          numbered = numbers_kept IsUnmoved ws ws' unmoved (λ v w h. h.number) s.numbered;
          boards =
              subst (λ (b : Book). All (λ (w : Worker). w.desk.board ≡ b) ws') (sym same.board)
              (boards_kept IsUnmoved ws ws' unmoved r.press.board (λ v w h. h.board) s.boards);
          next = let h = s.next in omega (arith, h, unmoved.count);
          runs = same.stopped ∙ s.runs;
        };
  }

  pub unbegun : IsUnbegun (manned_of ws r procs stopped) (manned_of ws' r' procs stopped)
  unbegun = record {
    node = same.node;
    list = same.list;
    due = same.due;
    benches = benches_kept IsUnmoved ws ws' unmoved (λ v w h. h.bench);
    procs = refl;
    size = unmoved.count;
    stopped = refl;
  }

pub not_not : (b : Bool) → not b ≡ false → IsTrue b
not_not true is = refl
not_not false is = absurd (cc)

-- ---- where it is

module _ {K : Type 0} (custody : Custody K) (ws ws1 ws2 ws3 ws4 : List Worker)
    (r r1 r2 r3 : RegistrarOver K) (lines procs : ℕ) (plan : Plan) (is : List Item)
    (seated : AreSeated ws r lines procs) (begun : IsBegun plan.orders.items r r1)
    (tasked : AreBegun plan.queues.items r.due ws ws1) (done : Each IsDone ws1 ws2)
    (rules : Registers custody lines r1 r2) where
  count2 : length ws2 ≡ length ws
  count2 = done.count ∙ tasked.at.count

  pub boards_after : All (λ w. w.desk.board ≡ r2.press.board) ws2
  boards_after =
      subst (λ (b : Book). All (λ (w : Worker). w.desk.board ≡ b) ws2)
      (sym (rules.board ∙ begun.board))
      (boards_kept IsDone ws1 ws2 done r.press.board (λ v w h. h.board)
      (boards_kept IsAtDesk ws ws1 tasked.at r.press.board (λ v w h. h.board) seated.boards))

  pub good_after : All (λ w. w.good ≤ length w.entries.items) ws2
  good_after k d below =
      let within : k < length ws1 = omega (arith, below, done.count) in (done.at k d within).some

  module _ (planned : IsPlan (length ws) procs is plan) (kept : Each IsKept ws2 ws3) where
    count3 : length ws3 ≡ length ws
    count3 = kept.count ∙ count2

    pub answered_after : (taken before : List Taken) → before ≡ []
        → map place_of taken ≡ map place_of before ++ map place_at plan.packets.items
        → AreAllAnswered plan.owners.items ws3 taken
    answered_after taken before none places = record {
      workers = length ws;
      procs = procs;
      items = is;
      owners_are = planned.owners;
      answered =
          all_answered (length ws) procs is ws3 taken seated.next count3
          (places ∙ (ap (λ (l : List Taken). map place_of l ++ map place_at plan.packets.items) none
          ∙ planned.places))
          (λ k d below.
          let at1 : k < length ws1 = omega (arith, below, tasked.at.count) in
          let at2 : k < length ws2 = omega (arith, below, count2) in
          (kept.at k d at2).tasks (tasks_of (k + 1) 0 (owners_of (length ws) procs is) is)
          (subst (λ ts. AreOf ts (get_or ws2 k d).entries.items)
          (tasks_of_each procs is plan r.due ws ws1 planned tasked k d below)
          (done.at k d at1).tasks));
    }

    pub manned_after : (after : ℕ) (lines' : ℕ) (stopped : Bool) → after < length ws
        → Each IsSame ws3 ws4 → IsClosed r2 r3 → (stopped ≡ false → lines' ≡ length ws3)
        → (stopped ≡ false → r2.stopped ≡ false)
        → 1 ≤ length ws → length ws ≤ 16 → IsManned ws4 r3 lines' after stopped
    manned_after after lines' stopped next same closed lines_same runs some few = record {
      some = omega (arith, some, same.count, count3);
      few = omega (arith, few, same.count, count3);
      seated = λ goes. record {
        lines_are = lines_same goes ∙ sym same.count;
        numbered =
            numbers_kept IsSame ws3 ws4 same (λ v w h. h.number)
            (numbers_kept IsKept ws2 ws3 kept (λ v w h. h.same.number)
            (numbers_kept IsDone ws1 ws2 done (λ v w h. h.number)
            (numbers_kept IsAtDesk ws ws1 tasked.at (λ v w h. h.number) seated.numbered)));
        boards =
            subst (λ (x : RegistrarOver K). All (λ (w : Worker). w.desk.board ≡ x.press.board) ws4)
            (sym closed)
            (boards_kept IsSame ws3 ws4 same r2.press.board (λ v w h. h.board)
            (boards_kept IsKept ws2 ws3 kept r2.press.board (λ v w h. h.same.board) boards_after));
        next = omega (arith, next, same.count, count3);
        runs = ap (λ (x : RegistrarOver K). x.stopped) closed ∙ runs goes;
      };
    }

-- ---- as many entries as there are jobs and packets

owners_length : (n procs : ℕ) (is : List Item) → length (owners_of n procs is) ≡ length is
owners_length n procs [] = refl
owners_length n procs (i ∷ is) = ap suc (owners_length n (procs_past n procs i) is)

pub entries_count : (n procs : ℕ) (jobs : List Job) (packets : List Packet) (owners : List ℕ)
    (said : ℕ → List Entry) (es : List Entry)
    → owners ≡ owners_of n procs (items_for jobs packets) → IsGathered owners said es
    → length es ≡ length jobs + length packets
entries_count n procs jobs packets owners said es dealt gathered =
    let items = items_for jobs packets in
    let one = length-append (map job_item jobs) (map item_of packets) in
    gathered.count ∙ (ap length dealt ∙ (owners_length n procs items ∙ (one
    ∙ (λ i. (length-map jobs job_item) i + (length-map packets item_of) i))))
