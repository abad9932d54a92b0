-- The end of a batch.
use Rattle.std.proofs.Common.{◌≡◌, ◌∙◌, ◌⊎◌, inl, inr, ℕ, zero, suc, ◌<◌, ◌≤◌, Bool, true, false, List, [], ◌∷◌, ◌++◌, Option, map, take, drop, length, get_or, slice_index_or, refl, sym, ap, subst, arith}
use Rattle.std.proofs.lemmas.List.{drop_all, take-append-le, take_all}
use Rattle.fl_ops.specs.declared.op.Op.{Op}
use Rattle.fl_crew_model.specs.declared.record.Deed.{Deed}
use Rattle.fl_crew_model.specs.declared.record.FailedOrder.{FailedOrder}
use Rattle.fl_crew_model.specs.Books.{Books, Recorded}
use Rattle.fl_crew_model.specs.Crews.{AllOfWorkers, IsWorker}
use Rattle.fl_dealing.specs.Gathered.{said_by}
use Rattle.fl_dealing.specs.Shown.{shown, shown_taken}
use Rattle.fl_dealing.specs.declared.entry.Entry.{Entry}
use Rattle.fl_dealing.specs.declared.entry.Taken.{Taken}
use Rattle.fl_dealing.specs.declared.gathering.Lane.{Lane}
use Rattle.fl_registrar.specs.Over.{RegistrarOver}
use Rattle.fl_settling.specs.Batches.{AreBack, BatchEnds}
use Rattle.fl_settling.specs.Each.{Each}
use Rattle.fl_settling.specs.Numbers.{lost_by, lost_of, part_of}
use Rattle.fl_settling.specs.Settled.{IsSettled, IsFine}
use Rattle.fl_settling.proofs.Choosing.{item_get, some_item}
use Rattle.fl_settling.proofs.Entries.{of_cut}
use Rattle.fl_worker.specs.declared.worker.Worker.{Worker}
use Rattle.fl_worker.specs.Tasks.{AreOf}
use Rattle.fl_manning.specs.Ended.{IsKept, said_of, shown_of}

-- ---- what settling leaves of a worker

module _ (first : ℕ) (list : List Op) (deeds : List Deed) (failed : Option FailedOrder)
    (old new : Worker) (settled : IsSettled first list deeds failed old new) where
  pub settled_kept : IsKept old new
  settled_kept = record {
    same = record { number = settled.number; bench = settled.bench; board = settled.board };
    tasks = λ ts of.
        subst (AreOf ts) (sym settled.entries)
        (of_cut failed old.number new.good ts old.entries.items of);
  }

pub none_lost : (first : ℕ) (list : List Op) (deeds : List Deed) (failed : Option FailedOrder)
    (old new : List Worker) → Each (IsFine first list deeds failed) old new → (w : ℕ) → IsWorker (length old) w
    → lost_by new w ≡ []
none_lost first list deeds failed old new fine zero is = absurd (let low = is.low in omega (arith, low))
none_lost first list deeds failed old new fine (suc k) is =
    let high = is.high in
    let below : k < length old = omega (arith, high) in
    let within : k < length new = omega (arith, below, fine.count) in
    let d = some_item new k within in
    let v = get_or new k d in
    let all = (fine.at k d below).all in
    let past : length v.entries.items ≤ v.good = omega (arith, all) in
    ap (part_of lost_of) (item_get new k d within) ∙ drop_all v.good v.entries.items past

-- a batch that ended well may be said not to
pub ends_less : (number : ℕ) (b b' : Books) (deeds : List Deed) (failed : Option FailedOrder)
    (start now : List Worker) (fine : Bool) → BatchEnds number b b' deeds failed start now true
    → BatchEnds number b b' deeds failed start now fine
ends_less number b b' deeds failed start now true ends = ends
ends_less number b b' deeds failed start now false ends = record {
  benches = ends.benches;
  last = ends.last;
  left = ends.left;
  front = ends.front;
  given_up = ends.given_up;
  undone = ends.undone;
  met = ends.met;
  homes = ends.homes;
  tasks = ends.tasks;
  rises = ends.rises;
  whole = λ t. absurd (cc);
  batch = λ t. absurd (cc);
}

-- ---- what is said, in lanes or at the workers

module _ {A B C : Type 0} (f : A → C) (g : B → C) where
  pub map_over : (xs : List A) (ys : List B) → length xs ≡ length ys
      → ((k : ℕ) (x : A) (y : B) → k < length ys → f (get_or xs k x) ≡ g (get_or ys k y))
      → map f xs ≡ map g ys
  map_over [] [] count at = refl
  map_over [] (y ∷ ys) count at = absurd (omega (arith, count))
  map_over (x ∷ xs) [] count at = absurd (omega (arith, count))
  map_over (x ∷ xs) (y ∷ ys) count at =
      let here : f x ≡ g y = at 0 x y (omega arith) in
      let rest = map_over xs ys (omega (arith, count)) (λ k a b h. at (suc k) a b (omega (arith, h))) in
      cc

lane_shown : Lane → List Entry
lane_shown lane = map shown lane.entries.items

pub said_same : (lanes : List Lane) (ws : List Worker) (taken : List Taken)
    → length lanes ≡ length ws
    → ((k : ℕ) (w : Worker) (lane : Lane) → k < length ws
    → (get_or lanes k lane).entries.items ≡ (get_or ws k w).entries.items)
    → said_by lanes taken ≡ said_of ws taken
unfolding lane_shown
said_same lanes ws taken count at =
    ap (λ (l : List (List Entry)). λ (w : ℕ). slice_index_or (map shown_taken taken ∷ l) w [])
    (map_over lane_shown shown_of lanes ws count (λ k lane w h. ap (map shown) (at k w lane h)))

-- ---- what the end of a batch says, in the words of its caller

abbrev pub EndsAs : ℕ → List Op → List Deed → Option FailedOrder → List Worker → List Worker
    → Bool → Type 0
EndsAs first list deeds failed old new fine =
    (number : ℕ) (b b' : Books) (start : List Worker) → first ≡ length b.list → b'.list ≡ list
    → Recorded number b deeds b' → AllOfWorkers (length start) deeds → AreBack start old
    → BatchEnds number b b' deeds failed start new fine

less : (first : ℕ) (list : List Op) (deeds : List Deed) (failed : Option FailedOrder)
    (old new : List Worker) (fine fine' : Bool) → (fine ≡ fine') ⊎ (fine ≡ true)
    → EndsAs first list deeds failed old new fine → EndsAs first list deeds failed old new fine'
less first list deeds failed old new fine fine' (inl same) ends =
    subst (λ (f : Bool). EndsAs first list deeds failed old new f) same ends
less first list deeds failed old new fine fine' (inr all) ends =
    λ number b b' start e l recorded of back.
    ends_less number b b' deeds failed start new fine'
    (subst (λ (f : Bool). BatchEnds number b b' deeds failed start new f) all
    (ends number b b' start e l recorded of back))

pub ends_as : (first : ℕ) (list list' : List Op) (deeds deeds' : List Deed)
    (failed failed' : Option FailedOrder) (old new : List Worker) (fine fine' : Bool)
    → list' ≡ list → deeds' ≡ deeds → failed' ≡ failed → (fine ≡ fine') ⊎ (fine ≡ true)
    → EndsAs first list' deeds' failed' old new fine
    → EndsAs first list deeds failed old new fine'
ends_as first list list' deeds deeds' failed failed' old new fine fine' lists rows same which ends =
    less first list deeds failed old new fine fine' which
    (subst (λ (l : List Op). EndsAs first l deeds failed old new fine) lists
    (subst (λ (ds : List Deed). EndsAs first list' ds failed old new fine) rows
    (subst (λ (f : Option FailedOrder). EndsAs first list' deeds' f old new fine) same ends)))

pub each_kept : (first : ℕ) (list : List Op) (deeds : List Deed) (failed : Option FailedOrder)
    (old new : List Worker) → Each (IsSettled first list deeds failed) old new
    → Each IsKept old new
each_kept first list deeds failed old new settled = record {
  count = settled.count;
  at = λ k d below.
      settled_kept first list deeds failed (get_or old k d) (get_or new k d) (settled.at k d below);
}

-- ---- equal registrars

pub same_list : {K : Type 0} (a b : RegistrarOver K) → a ≡ b → a.press.list ≡ b.press.list
same_list {K} a b e = ap (λ (r : RegistrarOver K). r.press.list) e

-- ---- what is written to all elements

pub written_back : {A : Type 0} (n : ℕ) (new old : List A) → length new ≡ n
    → take n (new ++ drop (length new) old) ≡ new
written_back n new old count =
    let within : n ≤ length new = omega (arith, count) in
    let all : length new ≤ n = omega (arith, count) in
    take-append-le n new (drop (length new) old) within ∙ take_all n new all
