-- What the end of a batch says of one worker, and of all.
use Rattle.std.proofs.Common.{◌≡◌, ◌≢◌, ◌⊎◌, ◌∙◌, inl, inr, ◌+◌, ◌<◌, ◌≤◌, ℕ, zero, suc, Bool, true}
use Rattle.std.proofs.Common.{false, IsTrue, List, [], ◌∷◌, length, map, take, drop, get_or}
use Rattle.std.proofs.Common.{Option, None, Some, refl, sym, ap, subst, arith, eqb, if◌then◌else◌}
use Rattle.std.proofs.lemmas.Bool.{cases_lt, and_from, and_left, and_right}
use Rattle.std.proofs.lemmas.Bool.Decides.{eqb_tells}
use Rattle.std.proofs.lemmas.List.{take-take, take_all, drop_all, length-take}
use Rattle.fl_ops.specs.declared.op.Op.{Op}
use Rattle.fl_bench.specs.Bench.{BenchState, new_bench}
use Rattle.fl_system.specs.Numbered.{item_at}
use Rattle.fl_system.specs.State.{first_ops}
use Rattle.fl_system.specs.declared.answer.Fault.TheVariants.{KeeperFailed, Stopped}
use Rattle.fl_replica.specs.Boards.{StartsWith}
use Rattle.fl_crew_model.specs.declared.record.Decision.{Decision}
use Rattle.fl_crew_model.specs.declared.record.Deed.{Deed}
use Rattle.fl_crew_model.specs.declared.record.Entry.{Entry}
use Rattle.fl_crew_model.specs.declared.record.FailedOrder.{FailedOrder}
use Rattle.fl_crew_model.specs.declared.record.Told.{Told}
use Rattle.fl_crew_model.specs.Books.{Books, Recorded}
use Rattle.fl_crew_model.specs.Compared.{AgreesUpTo, Agrees, decisions_of}
use Rattle.fl_crew_model.specs.Crews.{IsWorker, Promises, AllHome, AllOfWorkers}
use Rattle.fl_crew_model.specs.Served.{Served}
use Rattle.fl_worker.proofs.Doing.{all_answered}
use Rattle.fl_worker.specs.declared.worker.Worker.{Worker}
use Rattle.fl_worker.specs.Done.{IsDone}
use Rattle.fl_worker.specs.Seen.{Rises}
use Rattle.fl_worker.specs.Stops.{AreUndone, IsLost, IsStopAt, StopsAt}
use Rattle.fl_worker.specs.laws.Longer.{served_longer, undone_longer}
use Rattle.fl_worker.specs.Tasks.{AreOf}
use Rattle.fl_settling.specs.Cut.{AreGivenUp, fault_at, given_up, given_up_from}
use Rattle.fl_settling.specs.Each.{Each}
use Rattle.fl_settling.specs.Numbers.{good_of, lost_of, part_of, its_bench, good_by, bench_by}
use Rattle.fl_settling.specs.Settled.{IsElsewhere, IsFine, IsSettled, IsUndone, Meets, Stands}
use Rattle.fl_settling.specs.Batches.{AreHome, AreBack, BatchEnds, IsStopFirst}
use Rattle.fl_settling.proofs.Choosing.{item_get, some_item, choice}
use Rattle.fl_settling.proofs.Entries.{take_cut, drop_cut, FrontServed, front_served, home_front}
use Rattle.fl_settling.proofs.Entries.{home_of_tasks, of_cut, rises_cut, rises_less, all_given_up}

eqb_same : (n : ℕ) → eqb n n ≡ true
eqb_same n = by (eqb_tells n n)
  where
    by : ((eqb n n ≡ true) × (n ≡ n)) ⊎ ((eqb n n ≡ false) × (n ≢ n)) → eqb n n ≡ true
    by (inl same) = same.0
    by (inr other) = absurd (other.1 refl)

-- ---- where a worker stopped

-- the keeper broke at the order, or it did not
abbrev pub BreaksAt : Option FailedOrder → ℕ → ℕ → Type 0
BreaksAt failed w place =
    (fault_at failed w place ≡ Stopped)
    ⊎ ((fault_at failed w place ≡ KeeperFailed)
    × (order : FailedOrder) × (failed ≡ Some order) × (order.worker ≡ w)
    × (order.place ≡ place))

pub breaks_at : (failed : Option FailedOrder) (w place : ℕ) → BreaksAt failed w place
breaks_at None w place = inl refl
breaks_at (Some order) w place = by (eqb_tells order.worker w) (eqb_tells order.place place)
  where
    by : ((eqb order.worker w ≡ true) × (order.worker ≡ w))
        ⊎ ((eqb order.worker w ≡ false) × (order.worker ≢ w))
        → ((eqb order.place place ≡ true) × (order.place ≡ place))
        ⊎ ((eqb order.place place ≡ false) × (order.place ≢ place))
        → BreaksAt (Some order) w place
    by (inl same) (inl here) =
        inr (
          ap (λ t. if t then KeeperFailed else Stopped)
              (and_from (eqb order.worker w) (eqb order.place place) same.0 here.0),
          order,
          refl,
          same.1,
          here.1,
        )
    by (inl same) (inr there) =
        inl (ap (λ t. if t then KeeperFailed else Stopped)
        (and_right (eqb order.worker w) (eqb order.place place) there.0))
    by (inr other) at =
        inl (ap (λ t. if t then KeeperFailed else Stopped)
        (and_left (eqb order.worker w) (eqb order.place place) other.0))

pub broke : (order : FailedOrder) (w place : ℕ) → order.worker ≡ w → order.place ≡ place
    → fault_at (Some order) w place ≡ KeeperFailed
broke order w place same here =
    ap (λ t. if t then KeeperFailed else Stopped)
    (and_from (eqb order.worker w) (eqb order.place place)
    (subst (λ (k : ℕ). eqb order.worker k ≡ true) same (eqb_same order.worker))
    (subst (λ (k : ℕ). eqb order.place k ≡ true) here (eqb_same order.place)))

module _ (failed : Option FailedOrder) (w last : ℕ) where
  -- who is to be told that the keeper broke was told so
  told_at : (e : Entry) (es : List Entry) → Meets failed w last (e ∷ es)
      → (order : FailedOrder) → failed ≡ Some order → order.worker ≡ w
      → e.told ≡ Told.Refused KeeperFailed
  told_at e es meets order is same =
      (subst (λ (f : Option FailedOrder). Meets f w last (e ∷ es)) is meets same).1

  stop_given_up : (list : List Op) (b : BenchState) (e : Entry) (es : List Entry)
      → Meets failed w last (e ∷ es) → e.seen ≤ length list
      → (e.told ≡ Told.Refused KeeperFailed → IsLost (first_ops e.seen list) b e)
      → IsStopAt list b (given_up failed w e)
  stop_given_up list b e es meets seen lost =
      record { seen = seen; stops = by (breaks_at failed w e.place) }
    where
      by : BreaksAt failed w e.place → StopsAt (first_ops e.seen list) b (given_up failed w e)
      by (inl stopped) = inl (ap Told.Refused stopped)
      by (inr (fault, order, is, same, here)) =
          let was = lost (told_at e es meets order is same) in
          inr (record {
            is_told = ap Told.Refused fault;
            body = was.body;
            pid = was.pid;
            left = was.left;
            does = was.does;
          })

  -- one that stopped by itself
  first_undone : (list : List Op) (b : BenchState) (es : List Entry) → AreUndone list b es
      → Meets failed w last es → IsStopFirst list b (map (given_up failed w) es)
  first_undone list b [] undone meets = tt
  first_undone list b (e ∷ es) undone meets =
      stop_given_up list b e es meets undone.0.seen (λ told. by told undone.0.stops)
    where
      by : e.told ≡ Told.Refused KeeperFailed → StopsAt (first_ops e.seen list) b e
          → IsLost (first_ops e.seen list) b e
      by told (inl given) = let no = sym told ∙ given in absurd (cc)
      by told (inr lost) = lost

  -- one whose entries contradict the record
  first_cut : (list : List Op) (b b' mid : BenchState) (n g : ℕ) (es : List Entry)
      → Served list b (take g es) b' → n < g → Meets failed w last (drop n es)
      → IsStopFirst list mid (map (given_up failed w) (drop n es))
  first_cut list b b' mid n zero es served less meets = absurd (omega (arith, less))
  first_cut list b b' mid zero (suc g) [] served less meets = tt
  first_cut list b b' mid zero (suc g) (e ∷ es) served less meets =
      let answered = all_answered list b (take (suc g) (e ∷ es)) b' served in
      stop_given_up list mid e es meets served.1.seen
      (λ told. absurd ((answered 0 e (omega arith)).broken told))
  first_cut list b b' mid (suc n) (suc g) [] served less meets = tt
  first_cut list b b' mid (suc n) (suc g) (e ∷ es) served less meets =
      first_cut list served.0 b' mid n g es served.2 (omega (arith, less)) meets

meets_given_up : (failed : Option FailedOrder) (w last : ℕ) (es : List Entry)
    → Meets failed w last es → Meets failed w last (map (given_up failed w) es)
meets_given_up None w last es meets = tt
meets_given_up (Some order) w last [] meets = meets
meets_given_up (Some order) w last (e ∷ es) meets =
    λ same.
    let at = meets same in
    (at.0, ap Told.Refused (broke order w e.place same (sym at.0)), at.2)

-- ---- the bench behind the good entries

pub record Behind (list : List Op) (failed : Option FailedOrder) (w last : ℕ) (s n : Worker)
    (mid : BenchState) : Type 0 where
  pub served : Served list s.bench (good_of n) mid
  pub undone : IsStopFirst list mid (lost_of n) ⊎ (good_of n ≡ [])
  pub met : Meets failed w last (lost_of n) ⊎ (good_of n ≡ [])

module _ (list : List Op) (failed : Option FailedOrder) (w front last : ℕ) (s o n : Worker)
    (done : IsDone s o)
    (cut : n.entries.items ≡ given_up_from failed w n.good o.entries.items) where
  good_were : good_of n ≡ take n.good o.entries.items
  good_were = ap (take n.good) cut ∙ take_cut failed w n.good o.entries.items

  lost_are : lost_of n ≡ map (given_up failed w) (drop n.good o.entries.items)
  lost_are = ap (drop n.good) cut ∙ drop_cut failed w n.good o.entries.items

  lost_given_up : AreGivenUp failed w (lost_of n)
  lost_given_up =
      subst (AreGivenUp failed w) (sym lost_are)
      (all_given_up failed w (drop n.good o.entries.items))

  -- what it did stands, as far as it agrees with the record
  module _ (starts : StartsWith list o.desk.list) (fits : n.good ≤ o.good)
      (meets : Meets failed w last (drop n.good o.entries.items)) where
    was_served : Served list s.bench (take o.good o.entries.items) o.bench
    was_served =
        served_longer list o.desk.list starts s.bench (take o.good o.entries.items) o.bench
        done.served

    steps : FrontServed list s.bench n.good (take o.good o.entries.items) o.bench
    steps = front_served list n.good (take o.good o.entries.items) s.bench o.bench was_served

    first : (n.good < o.good) ⊎ (o.good ≤ n.good)
        → IsStopFirst list steps.mid (map (given_up failed w) (drop n.good o.entries.items))
    first (inl less) =
        first_cut failed w last list s.bench o.bench steps.mid n.good o.good o.entries.items
        was_served less meets
    first (inr all) =
        let same : n.good ≡ o.good = omega (arith, all, fits) in
        let whole : length (take o.good o.entries.items) ≤ n.good =
        omega (arith, all, length-take o.good o.entries.items) in
        first_undone failed w last list steps.mid (drop n.good o.entries.items)
        (subst (λ (b : BenchState). AreUndone list b (drop n.good o.entries.items))
        (sym (steps.whole whole))
        (subst (λ (k : ℕ). AreUndone list o.bench (drop k o.entries.items)) (sym same)
        (undone_longer list o.desk.list starts o.bench (drop o.good o.entries.items)
        done.undone)))
        meets

    behind_standing : Behind list failed w last s n steps.mid
    behind_standing = record {
      served =
          subst (λ (es : List Entry). Served list s.bench es steps.mid)
          (take-take n.good o.good o.entries.items fits ∙ sym good_were) steps.served;
      undone =
          inl (subst (IsStopFirst list steps.mid) (sym lost_are)
          (first (cases_lt n.good o.good)));
      met =
          inl (subst (Meets failed w last) (sym lost_are)
          (meets_given_up failed w last (drop n.good o.entries.items) meets));
    }

  -- nothing does
  behind_none : n.good ≡ 0 → (need : ℕ) → Behind list failed w need s n s.bench
  behind_none none need =
      let empty : good_of n ≡ [] = ap (λ k. take k n.entries.items) none in
      record {
        served = subst (λ (es : List Entry). Served list s.bench es s.bench) (sym empty) refl;
        undone = inr empty;
        met = inr empty;
      }

-- ---- one worker

pub record Chosen : Type 0 where
  pub bench : BenchState
  pub last : ℕ
  pub left : List Decision

pub record WorkerEnds (workers w : ℕ) (b b' : Books) (deeds : List Deed)
    (failed : Option FailedOrder) (fine : Bool) (s n : Option Worker) (x : Chosen)
    : Type 0 where
  pub promises : Promises workers (length b.list) b'.list deeds w (its_bench s) x.bench
      (part_of good_of n) x.last x.left
  pub given_up : AreGivenUp failed w (part_of lost_of n)
  pub undone : IsStopFirst b'.list x.bench (part_of lost_of n) ⊎ (part_of good_of n ≡ [])
  pub met : Meets failed w x.last (part_of lost_of n) ⊎ (part_of good_of n ≡ [])
  pub tasks : AreOf (part_of (λ v. v.tasks.items) s) (part_of (λ v. v.entries.items) n)
  pub homes : AllHome workers w (part_of (λ v. v.entries.items) n)
  pub rises : Rises 0 (part_of (λ v. v.entries.items) n)
  pub whole : IsTrue fine → (x.left ≡ []) × (x.bench ≡ its_bench n)

elsewhere_meets : (failed : Option FailedOrder) (w last : ℕ) → IsElsewhere failed w
    → Meets failed w last []
elsewhere_meets None w last there = tt
elsewhere_meets (Some order) w last there = λ same. absurd (there same)

module _ (workers w : ℕ) (b b' : Books) (deeds : List Deed) (failed : Option FailedOrder)
    (s o n : Worker) (done : IsDone s o) (numbered : s.number ≡ w)
    (home : AreHome workers w s.tasks.items)
    (settled : IsSettled (length b.list) b'.list deeds failed o n) where
  named : o.number ≡ w
  named = done.number ∙ numbered

  cut : n.entries.items ≡ given_up_from failed w n.good o.entries.items
  cut =
      settled.entries
      ∙ ap (λ (k : ℕ). given_up_from failed k n.good o.entries.items) named

  entries_of : AreOf s.tasks.items n.entries.items
  entries_of =
      subst (AreOf s.tasks.items) (sym cut)
      (of_cut failed w n.good s.tasks.items o.entries.items done.tasks)

  all_home : AllHome workers w n.entries.items
  all_home = home_of_tasks workers w s.tasks.items n.entries.items entries_of home

  at_home : AllHome workers w (good_of n)
  at_home = home_front workers w n.good n.entries.items all_home

  rise : Rises 0 n.entries.items
  rise =
      subst (Rises 0) (sym cut)
      (rises_cut failed w n.good 0 o.entries.items
      (rises_less (length s.desk.list) 0 o.entries.items (omega arith) done.rises))

  given : AreGivenUp failed w (lost_of n)
  given = lost_given_up b'.list failed w 0 0 s o n done cut

  -- where all is fine
  one_fine : IsFine (length b.list) b'.list deeds failed o n
      → (x : Chosen) × WorkerEnds workers w b b' deeds failed true (Some s) (Some n) x
  one_fine is =
      let (last, agrees) = is.agrees in
      let starts : StartsWith b'.list o.desk.list =
      subst (λ (l : List Op). StartsWith l o.desk.list) is.desk settled.later in
      let fits : length n.entries.items ≤ n.good = omega (arith, is.all) in
      let none : lost_of n ≡ [] = drop_all n.good n.entries.items fits in (
        record { bench = o.bench; last = last; left = [] },
        record {
          promises = record {
            served =
                subst (λ (es : List Entry). Served b'.list s.bench es o.bench)
                (ap (λ k. take k o.entries.items) (sym is.good)
                ∙ ap (take n.good) (sym is.entries))
                (served_longer b'.list o.desk.list starts s.bench
                (take o.good o.entries.items) o.bench done.served);
            agrees =
                subst (λ (es : List Entry). Agrees (length b.list) (decisions_of w deeds) es last)
                (sym (take_all n.good n.entries.items fits))
                (subst
                (λ (k : ℕ). Agrees (length b.list) (decisions_of k deeds) n.entries.items last)
                (settled.number ∙ named) agrees);
            homes = at_home;
          };
          given_up = given;
          undone = inl (subst (IsStopFirst b'.list o.bench) (sym none) tt);
          met =
              inl (subst (Meets failed w last) (sym none)
              (elsewhere_meets failed w last
              (subst (IsElsewhere failed) named is.elsewhere)));
          tasks = entries_of;
          homes = all_home;
          rises = rise;
          whole = λ t. (refl, sym settled.bench);
        },
      )

  -- and where it is not
  one_else : Stands b'.list failed settled.front settled.last o n
      ⊎ IsUndone b'.list failed settled.front settled.last o n
      → (x : Chosen) × WorkerEnds workers w b b' deeds failed false (Some s) (Some n) x
  one_else (inl stands) =
      let front = settled.is_front in
      let fits : n.good ≤ o.good = omega (arith, front.fits, stands.good) in
      let starts : StartsWith b'.list o.desk.list =
      subst (λ (l : List Op). StartsWith l o.desk.list) stands.desk settled.later in
      let meets : Meets failed w settled.last (drop n.good o.entries.items) =
      subst (λ (k : ℕ). Meets failed w settled.last (drop k o.entries.items)) (sym stands.good)
      (subst (λ (k : ℕ). Meets failed k settled.last (drop settled.front o.entries.items)) named
      stands.meets) in
      let at = behind_standing b'.list failed w settled.front settled.last s o n done cut starts
      fits meets in (
        record {
          bench = (steps b'.list failed w settled.front settled.last s o n done cut starts fits
              meets).mid;
          last = settled.last;
          left = front.left;
        },
        record {
          promises = record {
            served = at.served;
            agrees =
                subst
                (λ (es : List Entry).
                AgreesUpTo (length b.list) (decisions_of w deeds) es settled.last front.left)
                (ap (λ k. take k o.entries.items) (sym stands.good)
                ∙ sym (good_were b'.list failed w 0 0 s o n done cut))
                (subst
                (λ (k : ℕ). AgreesUpTo (length b.list) (decisions_of k deeds)
                (take settled.front o.entries.items) settled.last front.left) named
                front.agrees);
            homes = at_home;
          };
          given_up = given;
          undone = at.undone;
          met = at.met;
          tasks = entries_of;
          homes = all_home;
          rises = rise;
          whole = λ t. absurd (cc);
        },
      )
  one_else (inr undone) =
      let at = behind_none b'.list failed w 0 0 s o n done cut undone.good (length b.list) in
      let empty : good_of n ≡ [] = ap (λ k. take k n.entries.items) undone.good in (
        record { bench = s.bench; last = length b.list; left = decisions_of w deeds },
        record {
          promises = record {
            served = at.served;
            agrees =
                subst
                (λ (es : List Entry). AgreesUpTo (length b.list) (decisions_of w deeds) es
                (length b.list) (decisions_of w deeds)) (sym empty) (refl, refl);
            homes = at_home;
          };
          given_up = given;
          undone = at.undone;
          met = at.met;
          tasks = entries_of;
          homes = all_home;
          rises = rise;
          whole = λ t. absurd (cc);
        },
      )

  pub one_ends : (fine : Bool)
      → (IsTrue fine → IsFine (length b.list) b'.list deeds failed o n)
      → (x : Chosen) × WorkerEnds workers w b b' deeds failed fine (Some s) (Some n) x
  one_ends true is = one_fine (is refl)
  one_ends false is = one_else settled.stands

-- ---- all of them

module _ (number : ℕ) (b b' : Books) (deeds : List Deed) (failed : Option FailedOrder)
    (start old new : List Worker) (fine : Bool)
    (back : AreBack start old)
    (settled : Each (IsSettled (length b.list) b'.list deeds failed) old new)
    (is_fine : IsTrue fine → Each (IsFine (length b.list) b'.list deeds failed) old new) where
  one : (w : ℕ) → IsWorker (length start) w
      → (x : Chosen) × WorkerEnds (length start) w b b' deeds failed fine (item_at start w)
      (item_at new w) x
  one zero is = absurd (let low = is.low in omega (arith, low))
  one (suc k) is =
      let high = is.high in
      let first : k < length start = omega (arith, high) in
      let second : k < length old = omega (arith, first, back.done.count) in
      let last : k < length new = omega (arith, second, settled.count) in
      let d = some_item start k first in
      let s = get_or start k d in
      let o = get_or old k d in
      let n = get_or new k d in
      let at_start : item_at start (suc k) ≡ Some s = item_get start k d first in
      let at_end : item_at new (suc k) ≡ Some n = item_get new k d last in
      let count : k + 1 ≡ suc k = omega arith in
      let home : AreHome (length start) (suc k) s.tasks.items =
      subst (λ (w : ℕ). AreHome (length start) w s.tasks.items) count (back.home k d first) in
      subst (λ (v : Option Worker). (x : Chosen)
      × WorkerEnds (length start) (suc k) b b' deeds failed fine v (item_at new (suc k)) x)
      (sym at_start)
      (subst (λ (v : Option Worker). (x : Chosen)
      × WorkerEnds (length start) (suc k) b b' deeds failed fine (Some s) v x)
      (sym at_end)
      (one_ends (length start) (suc k) b b' deeds failed s o n (back.done.at k d first)
      (back.numbered k d first ∙ count) home
      (settled.at k d second) fine (λ t. (is_fine t).at k d second)))

  pub ends : Recorded number b deeds b' → AllOfWorkers (length start) deeds
      → BatchEnds number b b' deeds failed start new fine
  ends recorded of_workers =
      let (f, all) =
      choice (length start)
      (λ w x. WorkerEnds (length start) w b b' deeds failed fine (item_at start w)
      (item_at new w) x)
      (record { bench = new_bench 1 1 1 1; last = 0; left = [] }) one in
      record {
        benches = λ w. (f w).bench;
        last = λ w. (f w).last;
        left = λ w. (f w).left;
        front = record {
          recorded = recorded;
          of_workers = of_workers;
          promises = λ w h. (all w h).promises;
        };
        given_up = λ w h. (all w h).given_up;
        undone = λ w h. (all w h).undone;
        met = λ w h. (all w h).met;
        tasks = λ w h. (all w h).tasks;
        homes = λ w h. (all w h).homes;
        rises = λ w h. (all w h).rises;
        whole = λ t w h. (all w h).whole t;
        batch = λ t. record {
          recorded = recorded;
          of_workers = of_workers;
          promises = λ w h.
              let is = (all w h).whole t in
              subst
              (λ (l : List Decision). Promises (length start) (length b.list) b'.list deeds w
              (bench_by start w)
              (bench_by new w) (good_by new w) (f w).last l) is.0
              (subst
              (λ (x : BenchState). Promises (length start) (length b.list) b'.list deeds w
              (bench_by start w) x
              (good_by new w) (f w).last (f w).left) is.1 (all w h).promises);
        };
      }

-- with the list and its length as the call has them
pub ends_at : (number first : ℕ) (list : List Op) (b b' : Books) (deeds : List Deed)
    (failed : Option FailedOrder) (start old new : List Worker)
    (fine : Bool) → first ≡ length b.list → b'.list ≡ list → Recorded number b deeds b'
    → AllOfWorkers (length start) deeds → AreBack start old
    → Each (IsSettled first list deeds failed) old new
    → (IsTrue fine → Each (IsFine first list deeds failed) old new)
    → BatchEnds number b b' deeds failed start new fine
ends_at number first list b b' deeds failed start old new fine length_is list_is recorded
    of_workers back settled is_fine =
    ends number b b' deeds failed start old new fine back
    (subst (λ (l : List Op). Each (IsSettled (length b.list) l deeds failed) old new) (sym list_is)
    (subst (λ (k : ℕ). Each (IsSettled k list deeds failed) old new) length_is settled))
    (λ t.
    subst (λ (l : List Op). Each (IsFine (length b.list) l deeds failed) old new) (sym list_is)
    (subst (λ (k : ℕ). Each (IsFine k list deeds failed) old new) length_is (is_fine t)))
    recorded of_workers
