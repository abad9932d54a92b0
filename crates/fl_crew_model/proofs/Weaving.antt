-- From what a batch promises, its weave.
use Rattle.std.proofs.Common.{◌≡◌, ◌≢◌, ◌==◌, ℕ, zero, suc, ◌≤◌, ◌<◌, Bool, true, false, cond}
use Rattle.std.proofs.Common.{List, [], ◌∷◌, ◌++◌, length, take, Option, Some, None, ◌⊎◌, inl, inr}
use Rattle.std.proofs.Common.{refl, sym, ap, ◌∙◌, subst, arith}
use Rattle.std.proofs.Common.{eqb}
use Rattle.std.proofs.lemmas.Bool.{eq-eqb, ne_eqb}
use Rattle.std.proofs.lemmas.Bool.Decides.{eqb_tells}
use Rattle.std.proofs.lemmas.List.{take-append-le, length-append, append-nil, append_assoc}
use Rattle.fl_labels.specs.SetBy as set
use Rattle.fl_labels.specs.SetBy.{SetBy}
use Rattle.fl_ops.specs.OpOrder.{op_cmp}
use Rattle.fl_ops.specs.Registry.{Listed}
use Rattle.fl_ops.specs.declared.op.Op.{Op}
use Rattle.fl_jobs.specs.declared.job.Job.{Job}
use Rattle.fl_jobs.specs.declared.job.Job.TheVariants.{Proc, By, Member, Arrive}
use Rattle.fl_bench.specs.Bench.{BenchState}
use Rattle.fl_store.specs.Kept.{with_ops}
use Rattle.fl_system.specs.declared.state.Batch.TheVariants.{Ordered}
use Rattle.fl_system.specs.Numbered.{item_at}
use Rattle.fl_system.specs.State.{NodeState, first_ops}
use Rattle.fl_system.specs.Naming.{IsLast, IsNextAfter}
use Rattle.fl_system.specs.Jobs.{bench_of, place_of}
use Rattle.fl_crew_model.specs.declared.record.Reason.{Reason}
use Rattle.fl_crew_model.specs.declared.record.Reason.TheVariants.{Busy, NamesSpent, Memory}
use Rattle.fl_crew_model.specs.declared.record.Ruling.{Ruling}
use Rattle.fl_crew_model.specs.declared.record.Ruling.TheVariants.{Made, Late, GivenUp}
use Rattle.fl_crew_model.specs.declared.record.Entry.{Entry}
use Rattle.fl_crew_model.specs.declared.record.Decision.{Decision}
use Rattle.fl_crew_model.specs.declared.record.Verdict.{Verdict}
use Rattle.fl_crew_model.specs.declared.record.Verdict.TheVariants.{Taken, TakenLate, Declined}
use Rattle.fl_crew_model.specs.declared.record.Delivery.{Delivery}
use Rattle.fl_crew_model.specs.declared.record.Deed.{Deed}
use Rattle.fl_crew_model.specs.declared.record.Deed.TheVariants.{Decided, Delivered}
use Rattle.fl_crew_model.specs.Served.{Serves, Served}
use Rattle.fl_crew_model.specs.Compared.{IsDecided, Matches, Agrees, decisions_of}
use Rattle.fl_crew_model.specs.Books.{Books, Changes, GivesUp, IsDecision, TakesBy, IsDeed}
use Rattle.fl_crew_model.specs.Books.{Recorded, Holds}
use Rattle.fl_crew_model.specs.Woven.{placed, Goes, Turn, Entered, Packet, IsEntered, IsDelivered}
use Rattle.fl_crew_model.specs.Woven.{IsHere, Stands, entries_of}
use Rattle.fl_crew_model.specs.Crews.{IsWorker, home_of, AllHome, AllOfWorkers, IsBatch, IsCrew}
use Rattle.fl_crew_model.specs.Crews.{IsWeave, IsDueHome, IsMaker}
use Rattle.fl_crew_model.proofs.Turns.{After, Before, maker_home, Went, alone_turn, made_turn}
use Rattle.fl_crew_model.proofs.Turns.{late_turn, memory_turn, busy_turn, spent_turn}
use Rattle.fl_crew_model.proofs.Admitted.{turn_safe}
use Rattle.fl_crew_model.proofs.Deliveries.{delivered}

-- ---- what one decision, and a record, does to the books

-- the books go on, from one list to a longer one
pub record Longer (b b' : Books) : Type 0 where
  pub more : List Op
  pub list : b'.list ≡ b.list ++ more

pub longer_length : (b b' : Books) → Longer b b' → length b.list ≤ length b'.list
longer_length b b' h =
    let same = ap length h.list in let sum = length-append b.list h.more in omega arith

same_list : (b b' : Books) → b' ≡ b → Longer b b'
same_list b b' e = record {
  more = [];
  list = ap (λ (x : Books). x.list) e ∙ sym (append-nil b.list);
}

reason_longer : (number : ℕ) (b b' : Books) (reason : Reason) → GivesUp number b reason b'
    → Longer b b'
reason_longer number b b' Busy h = same_list b b' h.same
reason_longer number b b' NamesSpent h = same_list b b' h.same
reason_longer number b b' Memory h = same_list b b' h

change_longer : (number : ℕ) (b b' : Books) (worker : ℕ) (ruling : Ruling)
    → Changes number b worker ruling b' → Longer b b'
change_longer number b b' worker (Made op) h = record {
  more = op ∷ [];
  list = ap (λ (x : Books). x.list) h.new;
}
change_longer number b b' worker (Late op pid) h = record {
  more = [];
  list = ap (λ (x : Books). x.list) h.new ∙ sym (append-nil b.list);
}
change_longer number b b' worker (GivenUp reason) h = reason_longer number b b' reason h

delivery_longer : (number : ℕ) (b b' : Books) (p : Delivery) (verdict : Verdict)
    → TakesBy number b p verdict b' → Longer b b'
delivery_longer number b b' p Taken h = record {
  more = set.members h.ops;
  list = ap (λ (x : Books). x.list) h.new;
}
delivery_longer number b b' p TakenLate h = record {
  more = [];
  list = ap (λ (x : Books). x.list) h.new ∙ sym (append-nil b.list);
}
delivery_longer number b b' p Declined h = same_list b b' h.same

pub deed_longer : (number : ℕ) (b b' : Books) (r : Deed) → IsDeed number b r b' → Longer b b'
deed_longer number b b' (Decided d) h = change_longer number b b' d.worker d.ruling h.changes
deed_longer number b b' (Delivered p) h = delivery_longer number b b' p p.verdict h.takes

pub recorded_longer : (number : ℕ) (b b' : Books) (rs : List Deed) → Recorded number b rs b'
    → Longer b b'
recorded_longer number b b' [] h = same_list b b' h
recorded_longer number b b' (r ∷ rs) (mid, deed, h) =
    let one = deed_longer number b mid r deed in
    let rest = recorded_longer number mid b' rs h in
    record {
      more = one.more ++ rest.more;
      list =
          rest.list ∙ (ap (λ l. l ++ rest.more) one.list ∙ append_assoc b.list one.more rest.more);
    }

-- ---- a worker's queue

-- what worker w of these has still to do, once its desk has seen v and its bench is as it stands at
-- the node
pub record Awaits (n : NodeState) (workers : ℕ) (list : List Op) (fs : List Decision) (w : ℕ)
    (new : BenchState) (es : List Entry) (last : ℕ) : Type 0 where
  pub need : ℕ
  pub v : ℕ
  pub has_seen : item_at n.views w ≡ Some v
  pub no_more : v ≤ need
  pub fits : v ≤ length list
  pub bench : BenchState
  pub stands : item_at n.benches w ≡ Some bench
  pub served : Served list bench es new
  pub agrees : Agrees need fs es last
  pub homes : AllHome workers w es

-- the queues, but with another one for worker w
abbrev put : ℕ → List Entry → (ℕ → List Entry) → ℕ → List Entry
put w es q i = cond (w == i) es (q i)

put_same : (w : ℕ) (es : List Entry) (q : ℕ → List Entry) → put w es q w ≡ es
put_same w es q = ap (λ t. cond t es (q w)) (eq-eqb w w refl)

put_other : (w : ℕ) (es : List Entry) (q : ℕ → List Entry) (i : ℕ) → i ≢ w → put w es q i ≡ q i
put_other w es q i ne = ap (λ t. cond t es (q i)) (ne_eqb w i (λ e. ne (sym e)))

-- the decisions on the orders of one worker
of_same : (d : Decision) (ds : List Deed)
    → decisions_of d.worker (Decided d ∷ ds) ≡ d ∷ decisions_of d.worker ds
of_same d ds =
    ap (λ t. cond t (d ∷ decisions_of d.worker ds) (decisions_of d.worker ds))
    (eq-eqb d.worker d.worker refl)

of_other : (d : Decision) (ds : List Deed) (i : ℕ) → i ≢ d.worker
    → decisions_of i (Decided d ∷ ds) ≡ decisions_of i ds
of_other d ds i ne =
    ap (λ t. cond t (d ∷ decisions_of i ds) (decisions_of i ds))
    (ne_eqb d.worker i (λ e. ne (sym e)))

-- up to a decision no more was seen than it saw
need_by : (last need : ℕ) (d : Decision) (fs : List Decision) (e : Entry) (es : List Entry)
    (next : ℕ) (rest : List Decision) → need ≤ e.seen → Agrees next rest es last
    → (Agrees e.seen (d ∷ fs) es last → e.seen ≤ d.before)
    → (a : Option Ruling) → Matches (d ∷ fs) e a next rest → need ≤ d.before
need_by last need d fs e es next rest low h again None m =
    let high =
    again
    (subst (λ (r : List Decision). Agrees e.seen r es last) m.all
    (subst (λ (k : ℕ). Agrees k rest es last) m.from h)) in
    omega arith
need_by last need d fs e es next rest low h again (Some ruling) m =
    let first : d ≡ m.decision = (let q = m.first in cc) in
    let high = m.seen in
    let same = ap (λ (x : Decision). x.before) first in
    omega arith

need_below : (last need : ℕ) (d : Decision) (fs : List Decision) (es : List Entry)
    → Agrees need (d ∷ fs) es last → need ≤ d.before
need_below last need d fs [] h = absurd (let q = h.1 in cc)
need_below last need d fs (e ∷ es) (next, rest, low, matches, h) =
    need_by last need d fs e es next rest low h (λ g. need_below last e.seen d fs es g) e.ruling
    matches

-- where no decision is left, an entry was answered by its bench alone
alone_at_end : (e : Entry) (next : ℕ) (rest : List Decision) (a : Option Ruling) → e.ruling ≡ a
    → Matches [] e a next rest → (e.ruling ≡ None) × (next ≡ e.seen) × (rest ≡ [])
alone_at_end e next rest None is m = (is, m.from, m.all)
alone_at_end e next rest (Some ruling) is m = absurd (let q = m.first in cc)

-- ---- one turn, and then the rest

length_here : (n : NodeState) (b : Books) → Holds n b → (k : ℕ) → k ≡ length b.list
    → k ≡ length n.published
length_here n b holds k e = e ∙ ap length (sym holds.list)

pub home_is : (n : NodeState) (workers w : ℕ) (job : Job) → length n.benches ≡ workers → 1 ≤ w
    → home_of workers w job ≡ w → place_of (placed n w) job ≡ w
home_is n workers w Proc places low home = omega arith
home_is n workers w (Member root c) places low home = home
home_is n workers w (By pid act) places low home =
    subst (λ (k : ℕ). home_of k w (By pid act) ≡ w) (sym places) home
home_is n workers w (Arrive d) places low home =
    subst (λ (k : ℕ). home_of k w (Arrive d) ≡ w) (sym places) home

module _ (number workers : ℕ) (b1 : Books) (new : ℕ → BenchState) (last : ℕ → ℕ) where
  -- the node holds the books
  pub record Stage (n : NodeState) (b : Books) : Type 0 where
    pub numbered : n.number ≡ number
    pub desks : length n.views ≡ workers
    pub places : length n.benches ≡ workers
    pub holds : Holds n b
    pub longer : Longer b b1
    pub due : IsDueHome workers b.due

  abbrev Mine : NodeState → List Decision → ℕ → List Entry → Type 0
  Mine n fs w es = Awaits n workers b1.list fs w (new w) es (last w)

  abbrev Others : NodeState → List Deed → (ℕ → List Entry) → ℕ → Type 0
  Others n ds q w =
      (i : ℕ) → IsWorker workers i → i ≢ w
      → Awaits n workers b1.list (decisions_of i ds) i (new i) (q i) (last i)

  abbrev pub Weave : NodeState → List Deed → (ℕ → List Entry) → Type 0
  Weave n ds q = IsWeave number workers n ds q b1 new last

  others_after : (n n' : NodeState) (ds : List Deed) (q : ℕ → List Entry) (w next : ℕ)
      (bench : BenchState) → After n w next bench n' → Others n ds q w → Others n' ds q w
  others_after n n' ds q w next bench after others i is ne =
      let a = others i is ne in
      record {
        need = a.need;
        v = a.v;
        has_seen = after.others_seen i ne ∙ a.has_seen;
        no_more = a.no_more;
        fits = a.fits;
        bench = a.bench;
        stands = after.others_bench i ne ∙ a.stands;
        served = a.served;
        agrees = a.agrees;
        homes = a.homes;
      }

  own_one : (w i : ℕ) (e : Entry) (es : List Entry) (q : ℕ → List Entry) (ts : List Turn)
      → entries_of i ts ≡ put w es q i → entries_of i (Entered w e ∷ ts) ≡ put w (e ∷ es) q i
  own_one w i e es q ts h = by (w == i) h
    where
      by : (t : Bool) → entries_of i ts ≡ cond t es (q i)
          → cond t (e ∷ entries_of i ts) (entries_of i ts) ≡ cond t (e ∷ es) (q i)
      by true g = ap (λ l. e ∷ l) g
      by false g = g

  one_more : (n mid : NodeState) (ds rest : List Deed) (w : ℕ) (e : Entry) (es : List Entry)
      (q : ℕ → List Entry) → IsEntered n ds w e mid rest → Weave mid rest (put w es q)
      → Weave n ds (put w (e ∷ es) q)
  one_more n mid ds rest w e es q turn weave =
      record {
        turns = Entered w e ∷ weave.turns;
        end = weave.end;
        run = (mid, rest, turn, weave.run);
        owns = λ i is. own_one w i e es q weave.turns (weave.owns i is);
        crew = weave.crew;
      }

  one_packet : (n mid : NodeState) (rest : List Deed) (p : Delivery) (q : ℕ → List Entry)
      → IsDelivered n (Delivered p ∷ rest) p mid rest → Weave mid rest q
      → Weave n (Delivered p ∷ rest) q
  one_packet n mid rest p q turn weave = record {
    turns = Packet p ∷ weave.turns;
    end = weave.end;
    run = (mid, rest, turn, weave.run);
    owns = weave.owns;
    crew = weave.crew;
  }

  same_desk : (n n' : NodeState) (fs : List Decision) (w : ℕ) (es : List Entry) → n'.views ≡ n.views
      → n'.benches ≡ n.benches → Mine n fs w es → Mine n' fs w es
  same_desk n n' fs w es seen benches a =
      record {
        need = a.need;
        v = a.v;
        has_seen = ap (λ m. item_at m w) seen ∙ a.has_seen;
        no_more = a.no_more;
        fits = a.fits;
        bench = a.bench;
        stands = ap (λ m. item_at m w) benches ∙ a.stands;
        served = a.served;
        agrees = a.agrees;
        homes = a.homes;
      }

  same_queues : (n : NodeState) (ds : List Deed) (q q' : ℕ → List Entry) → ((i : ℕ) → q i ≡ q' i)
      → Weave n ds q → Weave n ds q'
  same_queues n ds q q' same weave = record {
    turns = weave.turns;
    end = weave.end;
    run = weave.run;
    owns = λ i is. weave.owns i is ∙ same i;
    crew = weave.crew;
  }

  -- the first entry of a queue, as its turn finds it
  before_of : (n : NodeState) (b : Books) (fs : List Decision) (w : ℕ) (e : Entry) (es : List Entry)
      → Stage n b → IsWorker workers w → (mine : Mine n fs w (e ∷ es)) → e.seen ≤ length b.list
      → Before n w e mine.bench
  before_of n b fs w e es stage is mine high =
      let low = mine.agrees.2 in
      record {
        v = mine.v;
        has_seen = mine.has_seen;
        no_more = (let fits = mine.no_more in omega arith);
        enough = (let same = ap length stage.holds.list in omega arith);
        stands = mine.stands;
        home = home_is n workers w e.job.value stage.places is.low mine.homes.0;
      }

  -- what the worker did under the last list it did under the node's
  serves_of : (n : NodeState) (b : Books) (w : ℕ) (e : Entry) (bench mid : BenchState) → Stage n b
      → e.seen ≤ length b.list
      → Serves (first_ops e.seen b1.list) bench e.job.value e.told e.ruling mid
      → Serves (first_ops e.seen n.published) bench e.job.value e.told e.ruling mid
  serves_of n b w e bench mid stage high serves =
      let same : take e.seen b1.list ≡ take e.seen n.published =
      ap (take e.seen) stage.longer.list
      ∙ (take-append-le e.seen b.list stage.longer.more high
      ∙ ap (take e.seen) (sym stage.holds.list)) in
      subst (λ (l : List Op). Serves (Listed (set.members (set.of_list {R = op_cmp} l))) bench
      e.job.value e.told e.ruling mid) same serves

  -- a turn that its bench answered alone
  turn_alone : (n n' : NodeState) (ds : List Deed) (w : ℕ) (e : Entry) (bench : BenchState)
      (more : List Op) → Before n w e bench → Goes n w e n' → n'.published ≡ n.published ++ more
      → e.ruling ≡ None
      → IsEntered n ds w e n' ds
  turn_alone n n' ds w e bench more before goes grows none =
      record {
        goes = goes;
        stands = subst (λ (a : Option Ruling). Stands n ds w e a n' ds) (sym none) refl;
        enough = before.enough;
        v = before.v;
        has_seen = before.has_seen;
        no_more = before.no_more;
        safe = turn_safe n w e n' more grows goes;
      }

  alone_step : (n : NodeState) (b : Books) (ds os : List Deed) (fs : List Decision) (w : ℕ)
      (e : Entry) (es : List Entry) (q : ℕ → List Entry) → Stage n b → IsWorker workers w
      → Mine n fs w (e ∷ es) → Others n os q w
      → e.ruling ≡ None → e.seen ≤ length b.list → Agrees e.seen fs es (last w)
      → ((n' : NodeState) → Stage n' b → Mine n' fs w es → Others n' os q w
      → Weave n' ds (put w es q)) → Weave n ds (put w (e ∷ es) q)
  alone_step n b ds os fs w e es q stage is mine others none high agrees rest =
      let mid = mine.served.0 in
      let before = before_of n b fs w e es stage is mine high in
      let serves = serves_of n b w e mine.bench mid stage high (mine.served.1).serves in
      let went =
      alone_turn n w e mine.bench b before stage.holds mid none
      (subst
      (λ (a : Option Ruling). Serves (first_ops e.seen n.published) mine.bench e.job.value
      e.told a mid) none serves) in
      let same : went.node.published ≡ n.published ++ [] =
      went.holds.list ∙ (sym stage.holds.list ∙ sym (append-nil n.published)) in
      one_more n went.node ds ds w e es q
      (turn_alone n went.node ds w e mine.bench [] before went.goes same none)
      (rest went.node
      (record {
        numbered = went.after.number ∙ stage.numbered;
        desks = went.after.desks ∙ stage.desks;
        places = went.after.places ∙ stage.places;
        holds = went.holds;
        longer = stage.longer;
        due = stage.due;
      })
      (record {
        need = e.seen;
        v = went.after.v;
        has_seen = went.after.has_seen;
        no_more = went.after.no_more;
        fits =
            (let seen = went.after.no_more in let more =
            longer_length b b1 stage.longer in omega arith);
        bench = mid;
        stands = went.after.stands;
        served = mine.served.2;
        agrees = agrees;
        homes = mine.homes.1;
      })
      (others_after n went.node os q w e.seen mid went.after others))

  -- a turn that the registrar decided
  went_higher : (n : NodeState) (w : ℕ) (e : Entry) (next next' : ℕ) (bench : BenchState)
      (b : Books) → next ≤ next' → Went n w e next bench b → Went n w e next' bench b
  went_higher n w e next next' bench b up went =
      record {
        node = went.node;
        goes = went.goes;
        after = record {
          number = went.after.number;
          desks = went.after.desks;
          places = went.after.places;
          v = went.after.v;
          has_seen = went.after.has_seen;
          no_more = (let fits = went.after.no_more in omega arith);
          stands = went.after.stands;
          others_seen = went.after.others_seen;
          others_bench = went.after.others_bench;
        };
        holds = went.holds;
      }

  next_at : (n : NodeState) (b : Books) (op : Op) → Stage n b → IsNextAfter b.saved number op.name
      → IsNextAfter n.saved n.number op.name
  next_at n b op stage next =
      subst (λ (k : ℕ). IsNextAfter n.saved k op.name) (sym stage.numbered)
      (subst (λ s. IsNextAfter s number op.name) (sym stage.holds.saved) next)

  module _ (n : NodeState) (b b' : Books) (w : ℕ) (e : Entry) (bench mid : BenchState)
      (stage : Stage n b) (before : Before n w e bench) (high : e.seen ≤ length b.list) where
    to_books : {x y : Books} → x ≡ y → Went n w e (length x.list) mid x
        → Went n w e (length y.list) mid y
    to_books same went = subst (λ (z : Books). Went n w e (length z.list) mid z) same went

    refused_turn : (reason : Reason) → GivesUp number b reason b' → e.ruling ≡ Some (GivenUp reason)
        → Serves (first_ops e.seen n.published) bench e.job.value e.told (Some (GivenUp reason)) mid
        → Went n w e (length b'.list) mid b'
    refused_turn Busy h is serves =
        to_books (sym h.same)
        (went_higher n w e e.seen (length b.list) mid b high
        (busy_turn n w e bench b before stage.holds mid h.due is h.is_due serves))
    refused_turn NamesSpent h is serves =
        let last : IsLast n.saved n.number 4294967295 =
        subst (λ (k : ℕ). IsLast n.saved k 4294967295) (sym stage.numbered)
        (subst (λ s. IsLast s number 4294967295) (sym stage.holds.saved) h.is_last) in
        to_books (sym h.same)
        (went_higher n w e e.seen (length b.list) mid b high
        (spent_turn n w e bench b before stage.holds mid is h.idle last serves))
    refused_turn Memory h is serves =
        to_books (sym h)
        (went_higher n w e e.seen (length b.list) mid b high
        (memory_turn n w e bench b before stage.holds mid is serves))

    decided_turn : (ruling : Ruling) → Changes number b w ruling b' → e.ruling ≡ Some ruling
        → Serves (first_ops e.seen n.published) bench e.job.value e.told (Some ruling) mid
        → Went n w e (length b'.list) mid b'
    decided_turn (Made op) h is serves =
        let end : Books = record {
          saved = with_ops b.saved (op ∷ []);
          list = b.list ++ op ∷ [];
          due = None;
        } in
        let same : length (n.published ++ op ∷ []) ≡ length (b.list ++ op ∷ []) =
        ap (λ l. length (l ++ op ∷ [])) stage.holds.list in
        let up : length (n.published ++ op ∷ []) ≤ length (b.list ++ op ∷ []) =
        omega (arith, same) in
        to_books (sym h.new)
        (went_higher n w e (length (n.published ++ op ∷ [])) (length (b.list ++ op ∷ [])) mid
        end up
        (made_turn n w e bench b before stage.holds op mid is h.idle
        (next_at n b op stage h.named) serves))
    decided_turn (Late op pid) h is serves =
        let end : Books = record {
          saved = with_ops b.saved (op ∷ []);
          list = b.list;
          due = Some (Ordered op (Some pid) (Some w));
        } in
        to_books (sym h.new)
        (went_higher n w e e.seen (length b.list) mid end high
        (late_turn n w e bench b before stage.holds op pid mid is h.idle
        (next_at n b op stage h.named) serves))
    decided_turn (GivenUp reason) h is serves = refused_turn reason h is serves

    refused_home : (reason : Reason) → GivesUp number b reason b' → IsDueHome workers b'.due
    refused_home Busy h = subst (λ (x : Books). IsDueHome workers x.due) (sym h.same) stage.due
    refused_home NamesSpent h =
        subst (λ (x : Books). IsDueHome workers x.due) (sym h.same) stage.due
    refused_home Memory h = subst (λ (x : Books). IsDueHome workers x.due) (sym h) stage.due

    -- what is due is at home
    decided_home : IsWorker workers w → (ruling : Ruling) → Changes number b w ruling b'
        → Serves (first_ops e.seen n.published) bench e.job.value e.told (Some ruling) mid
        → IsDueHome workers b'.due
    decided_home is (Made op) h serves =
        subst (λ (x : Books). IsDueHome workers x.due) (sym h.new) tt
    decided_home is (Late op pid) h serves =
        let made : IsMaker workers pid w = record {
          worker = is;
          home =
              subst (λ (k : ℕ). bench_of k pid.serial ≡ w) stage.places
              (maker_home n w e bench b before stage.holds serves.does);
        } in
        subst (λ (x : Books). IsDueHome workers x.due) (sym h.new) made
    decided_home is (GivenUp reason) h serves = refused_home reason h

  delivered_home : (b b' : Books) (p : Delivery) (verdict : Verdict) → IsDueHome workers b.due
      → TakesBy number b p verdict b' → IsDueHome workers b'.due
  delivered_home b b' p Taken due h = subst (λ (x : Books). IsDueHome workers x.due) (sym h.new) tt
  delivered_home b b' p TakenLate due h =
      subst (λ (x : Books). IsDueHome workers x.due) (sym h.new) tt
  delivered_home b b' p Declined due h =
      subst (λ (x : Books). IsDueHome workers x.due) (sym h.same) due

  -- its queue is at the entry that the decision is on
  turn_decided : (n n' : NodeState) (ds : List Deed) (w : ℕ) (e : Entry) (bench : BenchState)
      (more : List Op) (d : Decision) (ruling : Ruling) → d.worker ≡ w → Before n w e bench
      → Goes n w e n' → n'.published ≡ n.published ++ more
      → e.ruling ≡ Some ruling → d.place ≡ e.place → d.ruling ≡ ruling
      → d.before ≡ length n.published → d.after ≡ length n'.published
      → IsEntered n (Decided d ∷ ds) w e n' ds
  turn_decided n n' ds w e bench more d ruling worker before goes grows is place same low high =
      let here : IsHere n (Decided d ∷ ds) w e ruling n' ds = record {
        decision = d;
        first = refl;
        worker = worker;
        place = place;
        same = same;
        before = low;
        after = high;
      } in
      record {
        goes = goes;
        stands = subst (λ (a : Option Ruling). Stands n (Decided d ∷ ds) w e a n' ds) (sym is) here;
        enough = before.enough;
        v = before.v;
        has_seen = before.has_seen;
        no_more = before.no_more;
        safe = turn_safe n w e n' more grows goes;
      }

  -- its turn, and then the rest of the weave
  decided_rest : (n : NodeState) (b b' : Books) (d : Decision) (ds : List Deed) (fs : List Decision)
      (w : ℕ) (e : Entry) (es : List Entry) (q : ℕ → List Entry) (ruling : Ruling)
      (bench mid : BenchState) (one : Longer b b')
      → Stage n b → d.worker ≡ w → IsDecision number b d b' → Longer b' b1
      → IsDueHome workers b'.due → Before n w e bench → Others n ds q w → e.ruling ≡ Some ruling
      → d.place ≡ e.place → d.ruling ≡ ruling
      → Served b1.list mid es (new w) → Agrees (length b'.list) fs es (last w)
      → AllHome workers w es → Went n w e (length b'.list) mid b'
      → ((n' : NodeState) → Stage n' b' → Mine n' fs w es → Others n' ds q w
      → Weave n' ds (put w es q)) → Weave n (Decided d ∷ ds) (put w (e ∷ es) q)
  decided_rest n b b' d ds fs w e es q ruling bench mid one stage worker decision longer due before
      others answered place same served agrees homes went go =
      let grows : went.node.published ≡ n.published ++ one.more =
      went.holds.list ∙ (one.list ∙ ap (λ l. l ++ one.more) (sym stage.holds.list)) in
      one_more n went.node (Decided d ∷ ds) ds w e es q
      (turn_decided n went.node ds w e bench one.more d ruling worker before went.goes grows
      answered place same (length_here n b stage.holds d.before decision.before)
      (length_here went.node b' went.holds d.after decision.after))
      (go went.node
      (record {
        numbered = went.after.number ∙ stage.numbered;
        desks = went.after.desks ∙ stage.desks;
        places = went.after.places ∙ stage.places;
        holds = went.holds;
        longer = longer;
        due = due;
      })
      (record {
        need = length b'.list;
        v = went.after.v;
        has_seen = went.after.has_seen;
        no_more = went.after.no_more;
        fits =
            (let seen = went.after.no_more in let more = longer_length b' b1 longer in omega arith);
        bench = mid;
        stands = went.after.stands;
        served = served;
        agrees = agrees;
        homes = homes;
      })
      (others_after n went.node ds q w (length b'.list) mid went.after others))

  decided_step : (n : NodeState) (b b' : Books) (d : Decision) (ds : List Deed) (fs : List Decision)
      (w : ℕ) (e : Entry) (es : List Entry) (q : ℕ → List Entry) (ruling : Ruling) (next : ℕ)
      (rest : List Decision)
      → Stage n b → IsWorker workers w → d.worker ≡ w → IsDecision number b d b' → Longer b' b1
      → Mine n (d ∷ fs) w (e ∷ es) → Others n ds q w → e.ruling ≡ Some ruling
      → IsDecided (d ∷ fs) e ruling next rest → Agrees next rest es (last w)
      → ((n' : NodeState) → Stage n' b' → Mine n' fs w es → Others n' ds q w
      → Weave n' ds (put w es q)) → Weave n (Decided d ∷ ds) (put w (e ∷ es) q)
  decided_step n b b' d ds fs w e es q ruling next rest stage is worker decision longer mine others
      answered m agrees go =
      let mid = mine.served.0 in
      let first : d ≡ m.decision = (let f = m.first in cc) in
      let others_are : fs ≡ rest = (let f = m.first in cc) in
      let same : d.ruling ≡ ruling = ap (λ (x : Decision). x.ruling) first ∙ m.same in
      let place : d.place ≡ e.place = ap (λ (x : Decision). x.place) first ∙ m.place in
      let from : next ≡ d.after = m.from ∙ ap (λ (x : Decision). x.after) (sym first) in
      let before_is = ap (λ (x : Decision). x.before) first in
      let low = decision.before in
      let sees = m.seen in
      let high : e.seen ≤ length b.list = omega arith in
      let before = before_of n b (d ∷ fs) w e es stage is mine high in
      let serves = serves_of n b w e mine.bench mid stage high (mine.served.1).serves in
      let changes : Changes number b w ruling b' =
      subst (λ (k : ℕ). Changes number b k ruling b') worker
      (subst (λ (a : Ruling). Changes number b d.worker a b') same decision.changes) in
      let so : Serves (first_ops e.seen n.published) mine.bench e.job.value e.told (Some ruling)
      mid =
      subst (λ (a : Option Ruling). Serves (first_ops e.seen n.published) mine.bench e.job.value
      e.told a mid) answered serves in
      let went =
      decided_turn n b b' w e mine.bench mid stage before high ruling changes answered so in
      let need : next ≡ length b'.list = from ∙ decision.after in
      decided_rest n b b' d ds fs w e es q ruling mine.bench mid
      (change_longer number b b' w ruling changes) stage worker decision longer
      (decided_home n b b' w e mine.bench mid stage before high is ruling changes so) before
      others answered place same
      mine.served.2
      (subst (λ (k : ℕ). Agrees k fs es (last w)) need
      (subst (λ (r : List Decision). Agrees next r es (last w)) (sym others_are) agrees))
      mine.homes.1 went go

  -- up to the entry that the decision is on, and that entry
  module _ (b b' : Books) (d : Decision) (ds : List Deed) (fs : List Decision) (w : ℕ)
      (q : ℕ → List Entry) (is : IsWorker workers w) (worker : d.worker ≡ w)
      (decision : IsDecision number b d b') (longer : Longer b' b1) where
    abbrev Continues : Type 0
    Continues =
        (n' : NodeState) (es : List Entry) → Stage n' b' → Mine n' fs w es → Others n' ds q w
        → Weave n' ds (put w es q)

    by_answer : (n : NodeState) (e : Entry) (es : List Entry) (next : ℕ) (rest : List Decision)
        → Stage n b → Mine n (d ∷ fs) w (e ∷ es) → Others n ds q w → Agrees next rest es (last w)
        → (a : Option Ruling) → e.ruling ≡ a → Matches (d ∷ fs) e a next rest
        → ((n' : NodeState) → Stage n' b → Mine n' (d ∷ fs) w es → Others n' ds q w
        → Weave n' (Decided d ∷ ds) (put w es q)) → Continues
        → Weave n (Decided d ∷ ds) (put w (e ∷ es) q)
    by_answer n e es next rest stage mine others agrees None none m again go =
        let still : Agrees e.seen (d ∷ fs) es (last w) =
        subst (λ (r : List Decision). Agrees e.seen r es (last w)) m.all
        (subst (λ (k : ℕ). Agrees k rest es (last w)) m.from agrees) in
        let below = need_below (last w) e.seen d fs es still in
        let at = decision.before in
        let high : e.seen ≤ length b.list = omega arith in
        alone_step n b (Decided d ∷ ds) ds (d ∷ fs) w e es q stage is mine others none high still
        again
    by_answer n e es next rest stage mine others agrees (Some ruling) answered m again go =
        decided_step n b b' d ds fs w e es q ruling next rest stage is worker decision longer mine
        others answered m agrees (λ n' s h o. go n' es s h o)

    drain : (es : List Entry) (n : NodeState) → Stage n b → Mine n (d ∷ fs) w es → Others n ds q w
        → Continues → Weave n (Decided d ∷ ds) (put w es q)
    drain [] n stage mine others go = absurd (let h : [] ≡ d ∷ fs = mine.agrees.1 in cc)
    drain (e ∷ es) n stage mine others go =
        let (next, rest, low, m, agrees) = mine.agrees in
        by_answer n e es next rest stage mine others agrees e.ruling refl m
        (λ n' s h o. drain es n' s h o go) go

  -- ---- when no decision is left

  drain_end : (es : List Entry) (n : NodeState) (w : ℕ) (q : ℕ → List Entry) → IsWorker workers w
      → Stage n b1 → Mine n [] w es → Others n [] q w
      → ((n' : NodeState) → Stage n' b1 → Mine n' [] w [] → Others n' [] q w
      → Weave n' [] (put w [] q)) → Weave n [] (put w es q)
  drain_end [] n w q is stage mine others go = go n stage mine others
  drain_end (e ∷ es) n w q is stage mine others go =
      let (next, rest, low, m, agrees) = mine.agrees in
      let alone = alone_at_end e next rest e.ruling refl m in
      let still : Agrees e.seen [] es (last w) =
      subst (λ (r : List Decision). Agrees e.seen r es (last w)) alone.2
      (subst (λ (k : ℕ). Agrees k rest es (last w)) alone.1 agrees) in
      alone_step n b1 [] [] [] w e es q stage is mine others alone.0 (mine.served.1).seen still
      (λ n' s h o. drain_end es n' w q is s h o go)

  abbrev pub AllAwait : NodeState → List Deed → (ℕ → List Entry) → Type 0
  AllAwait n ds q =
      (i : ℕ) → IsWorker workers i
      → Awaits n workers b1.list (decisions_of i ds) i (new i) (q i) (last i)

  -- the worker whose queue is another now, and the others
  all_again : (n : NodeState) (ds : List Deed) (q : ℕ → List Entry) (w : ℕ) (es : List Entry)
      → Mine n (decisions_of w ds) w es → Others n ds q w → AllAwait n ds (put w es q)
  all_again n ds q w es mine others i is = by (eqb_tells i w)
    where
      by : ((eqb i w ≡ true) × (i ≡ w))
          ⊎ ((eqb i w ≡ false) × (i ≢ w))
          → Awaits n workers b1.list (decisions_of i ds) i (new i) (put w es q i) (last i)
      by (inl same) =
          subst (λ (j : ℕ). Awaits n workers b1.list (decisions_of j ds) j (new j) (put w es q j)
          (last j)) (sym same.1)
          (subst
          (λ (l : List Entry). Awaits n workers b1.list (decisions_of w ds) w (new w) l (last w))
          (sym (put_same w es q)) mine)
      by (inr other) =
          subst (λ (l : List Entry). Awaits n workers b1.list (decisions_of i ds) i (new i) l
          (last i)) (sym (put_other w es q i other.1)) (others i is other.1)

  queues_as_they_are : (w : ℕ) (q : ℕ → List Entry) (i : ℕ) → put w (q w) q i ≡ q i
  queues_as_they_are w q i = by (eqb_tells i w)
    where
      by : ((eqb i w ≡ true) × (i ≡ w))
          ⊎ ((eqb i w ≡ false) × (i ≢ w)) → put w (q w) q i ≡ q i
      by (inl same) = subst (λ (j : ℕ). put w (q w) q j ≡ q j) (sym same.1) (put_same w (q w) q)
      by (inr other) = put_other w (q w) q i other.1

  emptied : (k : ℕ) (q : ℕ → List Entry) → ((i : ℕ) → IsWorker workers i → suc k < i → q i ≡ [])
      → (i : ℕ) → IsWorker workers i → k < i → put (suc k) [] q i ≡ []
  emptied k q empty i is above = by (eqb_tells i (suc k))
    where
      by : ((eqb i (suc k) ≡ true) × (i ≡ suc k))
          ⊎ ((eqb i (suc k) ≡ false) × (i ≢ suc k))
          → put (suc k) [] q i ≡ []
      by (inl same) =
          subst (λ (j : ℕ). put (suc k) [] q j ≡ []) (sym same.1) (put_same (suc k) [] q)
      by (inr other) =
          put_other (suc k) [] q i other.1 ∙ (let ne = other.1 in empty i is (omega arith))

  -- the queues of all workers from the k-th down
  finish : (k : ℕ) (n : NodeState) (q : ℕ → List Entry) → k ≤ workers → Stage n b1 → AllAwait n [] q
      → ((i : ℕ) → IsWorker workers i → k < i → q i ≡ []) → Weave n [] q
  finish zero n q low stage all empty =
      record {
        turns = [];
        end = n;
        run = (refl, refl);
        owns = λ i is. sym (nothing i is);
        crew = record {
          numbered = stage.numbered;
          desks = stage.desks;
          places = stage.places;
          holds = stage.holds;
          due = stage.due;
          seen = λ i is.
              let a = all i is in
              let at_end : Agrees a.need [] [] (last i) =
              subst (λ (l : List Entry). Agrees a.need [] l (last i)) (nothing i is) a.agrees in
              let low = a.no_more in
              let same = at_end.0 in
              let v = a.v in
              let below : v ≤ last i = omega arith in
              (v, a.has_seen, a.fits, below);
          stands = λ i is.
              let served : new i ≡ (all i is).bench =
              subst (λ (l : List Entry). Served b1.list (all i is).bench l (new i))
              (nothing i is) (all i is).served in
              (all i is).stands ∙ ap Some (sym served);
        };
      }
    where
      nothing : (i : ℕ) → IsWorker workers i → q i ≡ []
      nothing i is = let positive = is.low in empty i is (omega arith)
  finish (suc k) n q low stage all empty =
      let w = suc k in
      let is : IsWorker workers w = record { low = omega arith; high = low } in
      same_queues n [] (put w (q w) q) q (queues_as_they_are w q)
      (drain_end (q w) n w q is stage (all w is) (λ i its ne. all i its)
      (λ n' s h o. finish k n' (put w [] q) (omega arith) s (all_again n' [] q w [] h o)
      (emptied k q empty)))

  pub weave : (ds : List Deed) (n : NodeState) (b : Books) (q : ℕ → List Entry) → Stage n b
      → Recorded number b ds b1 → AllOfWorkers workers ds → AllAwait n ds q → Weave n ds q
  weave [] n b q stage recorded of_workers all =
      let end : Stage n b1 = subst (λ (x : Books). Stage n x) (sym recorded) stage in
      finish workers n q (omega arith) end all
      (λ i is above. absurd (let high = is.high in omega arith))
  weave (Decided d ∷ ds) n b q stage (mid, decision, recorded) (is, of_workers) all =
      let w = d.worker in
      let mine : Mine n (d ∷ decisions_of w ds) w (q w) =
      subst (λ (l : List Decision). Mine n l w (q w)) (of_same d ds) (all w is) in
      let others : Others n ds q w =
      (λ i its ne.
      subst (λ (l : List Decision). Awaits n workers b1.list l i (new i) (q i) (last i))
      (of_other d ds i ne) (all i its)) in
      same_queues n (Decided d ∷ ds) (put w (q w) q) q (queues_as_they_are w q)
      (drain b mid d ds (decisions_of w ds) w q is refl decision
      (recorded_longer number mid b1 ds recorded) (q w) n stage mine others
      (λ n' es s h o. weave ds n' mid (put w es q) s recorded of_workers
      (all_again n' ds q w es h o)))
  weave (Delivered p ∷ ds) n b q stage (mid, delivery, recorded) of_workers all =
      let took = delivered number n b p stage.numbered stage.holds mid delivery.takes in
      one_packet n took.node ds p q
      (record {
        goes = took.goes;
        first = refl;
        before = length_here n b stage.holds p.before delivery.before;
        after = length_here took.node mid took.holds p.after delivery.after;
      })
      (weave ds took.node mid q
      (record {
        numbered = took.number ∙ stage.numbered;
        desks = ap length took.views ∙ stage.desks;
        places = ap length took.benches ∙ stage.places;
        holds = took.holds;
        longer = recorded_longer number mid b1 ds recorded;
        due = delivered_home b mid p p.verdict stage.due delivery.takes;
      })
      recorded of_workers
      (λ i is. same_desk n took.node (decisions_of i ds) i (q i) took.views took.benches
      (all i is)))

-- From what a batch promises, its weave.
pub weave_of : (number workers : ℕ) (n : NodeState) (b b' : Books) (rs : List Deed)
    (old new : ℕ → BenchState) (es : ℕ → List Entry) (first last : ℕ → ℕ)
    → IsCrew number workers n b old first → IsBatch number workers b b' rs old new es last
    → IsWeave number workers n rs es b' new last
weave_of number workers n b b' rs old new es first last crew batch =
    let longer = recorded_longer number b b' rs batch.recorded in
    let more = longer_length b b' longer in
    weave number workers b' new last rs n b es
    (record {
      numbered = crew.numbered;
      desks = crew.desks;
      places = crew.places;
      holds = crew.holds;
      longer = longer;
      due = crew.due;
    })
    batch.recorded batch.of_workers
    (λ i is.
    let sees = crew.seen i is in
    let p = batch.promises i is in
    let v = sees.0 in
    let low = sees.2 in
    record {
      need = length b.list;
      v = v;
      has_seen = sees.1;
      no_more = low;
      fits = omega arith;
      bench = old i;
      stands = crew.stands i is;
      served = p.served;
      agrees = p.agrees;
      homes = p.homes;
    })
