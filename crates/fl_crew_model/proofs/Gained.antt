-- Where the operations of the list after a batch come from.
use Rattle.std.proofs.Common.{◌≡◌, ◌==◌, ◌⊎◌, inl, inr, ℕ, zero, suc, ◌<◌, Bool, true, false, cond}
use Rattle.std.proofs.Common.{List, [], ◌∷◌, length, slice_get, Option, Some, None, refl, sym, ap}
use Rattle.std.proofs.Common.{◌∙◌, subst, arith}
use Rattle.std.specs.List.{Contains}
use Rattle.std.proofs.lemmas.List.Elements.{Contains-append_cases}
use Rattle.std.proofs.Common.{eqb, ◌≢◌}
use Rattle.std.proofs.lemmas.Bool.{eq-eqb}
use Rattle.std.proofs.lemmas.Bool.Decides.{eqb_tells}
use Rattle.fl_labels.specs.SetBy as set
use Rattle.fl_labels.specs.SetBy.{In}
use Rattle.fl_ops.specs.OpOrder.{op_cmp}
use Rattle.fl_ops.specs.declared.op.Op.{Op}
use Rattle.fl_opset.specs.laws.Members.{listed_member}
use Rattle.fl_jobs.specs.declared.job.Job.{Job}
use Rattle.fl_bench.specs.Bench.{BenchState}
use Rattle.fl_crew_model.specs.declared.record.Reason.{Reason}
use Rattle.fl_crew_model.specs.declared.record.Reason.TheVariants.{Busy, NamesSpent, Memory}
use Rattle.fl_crew_model.specs.declared.record.Ruling.{Ruling}
use Rattle.fl_crew_model.specs.declared.record.Ruling.TheVariants.{Made, Late, GivenUp}
use Rattle.fl_crew_model.specs.declared.record.Entry.{Entry}
use Rattle.fl_crew_model.specs.declared.record.Decision.{Decision}
use Rattle.fl_crew_model.specs.declared.record.Verdict.{Verdict}
use Rattle.fl_crew_model.specs.declared.record.Verdict.TheVariants.{Taken, TakenLate, Declined}
use Rattle.fl_crew_model.specs.declared.record.Delivery.{Delivery}
use Rattle.fl_crew_model.specs.declared.record.Deed.{Deed}
use Rattle.fl_crew_model.specs.declared.record.Deed.TheVariants.{Decided, Delivered}
use Rattle.fl_crew_model.specs.Compared.{IsLater, Matches, AgreesUpTo, Rise, decisions_of}
use Rattle.fl_crew_model.specs.Books.{Books, Changes, GivesUp, TakesBy, Recorded}
use Rattle.fl_crew_model.specs.Crews.{IsWorker, AllOfWorkers, IsFront}
use Rattle.fl_crew_model.specs.Answered.{HasDecision, HasPacket, IsAmong, IsGained, IsOrderFor}
use Rattle.fl_crew_model.specs.Answered.{IsOwn, AreOwn}

-- ---- the record

data Comes (b : Books) (rs : List Deed) (op : Op) : Type 0 where
  before : Contains b.list op → Comes b rs op
  decided : (d : Decision) → HasDecision rs d → d.ruling ≡ Made op → Comes b rs op
  received : (p : Delivery) → HasPacket rs p → p.verdict ≡ Taken
      → In (set.of_list {R = op_cmp} p.ops) op → Comes b rs op

-- what one deed adds
one_only : (x op : Op) → Contains (x ∷ []) op → x ≡ op
one_only x op (zero, inside, at) = at
one_only x op (suc k, inside, at) = absurd (omega (arith, inside))

same_list : (b b' : Books) (op : Op) → b' ≡ b → Contains b'.list op → Contains b.list op
same_list b b' op e h = subst (λ (x : Books). Contains x.list op) e h

reason_adds : (number : ℕ) (b b' : Books) (reason : Reason) (op : Op) → GivesUp number b reason b'
    → Contains b'.list op → Contains b.list op
reason_adds number b b' Busy op h m = same_list b b' op h.same m
reason_adds number b b' NamesSpent op h m = same_list b b' op h.same m
reason_adds number b b' Memory op h m = same_list b b' op h m

ruling_adds : (number : ℕ) (b b' : Books) (worker : ℕ) (ruling : Ruling) (op : Op)
    → Changes number b worker ruling b' → Contains b'.list op → Contains b.list op
    ⊎ (ruling ≡ Made op)
ruling_adds number b b' worker (Made made) op h m =
    elim (Contains-append_cases b.list (made ∷ []) op
    (subst (λ (x : Books). Contains x.list op) h.new m)) [
      | inl old ↦ inl old
      | inr new ↦ inr (ap Made (one_only made op new))
    ]
ruling_adds number b b' worker (Late made pid) op h m =
    inl (subst (λ (x : Books). Contains x.list op) h.new m)
ruling_adds number b b' worker (GivenUp reason) op h m = inl (reason_adds number b b' reason op h m)

packet_adds : (number : ℕ) (b b' : Books) (p : Delivery) (verdict : Verdict) (op : Op)
    → TakesBy number b p verdict b' → Contains b'.list op → Contains b.list op
    ⊎ ((verdict ≡ Taken) × In (set.of_list {R = op_cmp} p.ops) op)
packet_adds number b b' p Taken op h m =
    elim (Contains-append_cases b.list (set.members h.ops) op
    (subst (λ (x : Books). Contains x.list op) h.new m)) [
      | inl old ↦ inl old
      | inr new ↦ inr (refl, ((h.are_new.lacking op).0 (listed_member h.ops op new)).0)
    ]
packet_adds number b b' p TakenLate op h m = inl (subst (λ (x : Books). Contains x.list op) h.new m)
packet_adds number b b' p Declined op h m = inl (same_list b b' op h.same m)

comes : (number : ℕ) (b b' : Books) (rs : List Deed) (op : Op) → Recorded number b rs b'
    → Contains b'.list op → Comes b rs op
comes number b b' [] op h m = Comes.before (same_list b b' op h m)
comes number b b' (Decided d ∷ rs) op (mid, deed, h) m = by (comes number mid b' rs op h m)
  where
    by : Comes mid rs op → Comes b (Decided d ∷ rs) op
    by (Comes.before old) = elim (ruling_adds number b mid d.worker d.ruling op deed.changes old) [
      | inl older ↦ Comes.before older
      | inr made ↦ Comes.decided d (inl refl) made
    ]
    by (Comes.decided x has is) = Comes.decided x (inr has) is
    by (Comes.received p has is there) = Comes.received p has is there
comes number b b' (Delivered q ∷ rs) op (mid, deed, h) m = by (comes number mid b' rs op h m)
  where
    by : Comes mid rs op → Comes b (Delivered q ∷ rs) op
    by (Comes.before old) = elim (packet_adds number b mid q q.verdict op deed.takes old) [
      | inl older ↦ Comes.before older
      | inr new ↦ Comes.received q (inl refl) new.0 new.1
    ]
    by (Comes.decided x has is) = Comes.decided x has is
    by (Comes.received p has is there) = Comes.received p (inr has) is there

-- ---- the worker's entries

among_of : (rs : List Deed) (d : Decision) → HasDecision rs d → IsAmong (decisions_of d.worker rs) d
among_of [] d h = absurd h
among_of (Delivered p ∷ rs) d h = among_of rs d h
among_of (Decided x ∷ rs) d (inl same) =
    let here : x.worker ≡ d.worker = ap (λ (q : Decision). q.worker) same in
    subst (λ t. IsAmong (cond t (x ∷ decisions_of d.worker rs) (decisions_of d.worker rs)) d)
    (sym (eq-eqb x.worker d.worker here)) (inl same)
among_of (Decided x ∷ rs) d (inr h) = by (x.worker == d.worker) (among_of rs d h)
  where
    by : (t : Bool) → IsAmong (decisions_of d.worker rs) d
        → IsAmong (cond t (x ∷ decisions_of d.worker rs) (decisions_of d.worker rs)) d
    by true g = inr g
    by false g = g

worker_of : (workers : ℕ) (rs : List Deed) (d : Decision) → AllOfWorkers workers rs
    → HasDecision rs d → IsWorker workers d.worker
worker_of workers [] d all h = absurd h
worker_of workers (Delivered p ∷ rs) d all h = worker_of workers rs d all h
worker_of workers (Decided x ∷ rs) d all (inl same) =
    subst (λ (q : Decision). IsWorker workers q.worker) same all.0
worker_of workers (Decided x ∷ rs) d all (inr h) = worker_of workers rs d all.1 h

-- a decision is on an entry, or is left
data Stands (es : List Entry) (left : List Decision) (d : Decision) : Type 0 where
  on : (i : ℕ) (e : Entry) → slice_get es i ≡ Some e → e.ruling ≡ Some d.ruling → Stands es left d
  is_left : IsAmong left d → Stands es left d

later : (e : Entry) (es : List Entry) (left : List Decision) (d : Decision) → Stands es left d
    → Stands (e ∷ es) left d
later e es left d (Stands.on i f at is) = Stands.on (suc i) f at is
later e es left d (Stands.is_left h) = Stands.is_left h

step : (ds rest : List Decision) (e : Entry) (es : List Entry) (next : ℕ) (left : List Decision)
    (d : Decision) (a : Option Ruling) → e.ruling ≡ a → Matches ds e a next rest → IsAmong ds d
    → (IsAmong rest d → Stands es left d) → Stands (e ∷ es) left d
step ds rest e es next left d None is m h again =
    later e es left d (again (subst (λ (l : List Decision). IsAmong l d) (sym m.all) h))
step ds rest e es next left d (Some ruling) is m h again =
    by (subst (λ (l : List Decision). IsAmong l d) m.first h)
  where
    by : (m.decision ≡ d) ⊎ IsAmong rest d → Stands (e ∷ es) left d
    by (inl same) =
        Stands.on 0 e refl (is ∙ ap Some (sym m.same ∙ ap (λ (q : Decision). q.ruling) same))
    by (inr g) = later e es left d (again g)

stands : (need last : ℕ) (ds : List Decision) (es : List Entry) (left : List Decision)
    (d : Decision) → AgreesUpTo need ds es last left → IsAmong ds d → Stands es left d
stands need last ds [] left d h m =
    Stands.is_left (subst (λ (l : List Decision). IsAmong l d) (sym h.1) m)
stands need last ds (e ∷ es) left d (next, rest, low, m, h) there =
    step ds rest e es next left d e.ruling refl m there (λ g. stands next last rest es left d h g)

-- ---- what is left is on later places

all_later : (place : ℕ) (ds : List Decision) (d : Decision) → IsLater place ds → Rise ds
    → IsAmong ds d → place < d.place
all_later place [] d low up h = absurd h
all_later place (x ∷ xs) d low up (inl same) = subst (λ (q : Decision). place < q.place) same low
all_later place (x ∷ xs) d low up (inr h) =
    let more = all_later x.place xs d up.0 up.1 h in omega (arith, low, more)

rest_among : (ds rest : List Decision) (e : Entry) (next : ℕ) (a : Option Ruling) (d : Decision)
    → Matches ds e a next rest → IsAmong rest d → IsAmong ds d
rest_among ds rest e next None d m h = subst (λ (l : List Decision). IsAmong l d) m.all h
rest_among ds rest e next (Some ruling) d m h =
    subst (λ (l : List Decision). IsAmong l d) (sym m.first) (inr h)

rest_rise : (ds rest : List Decision) (e : Entry) (next : ℕ) (a : Option Ruling)
    → Matches ds e a next rest → Rise ds → Rise rest
rest_rise ds rest e next None m up = subst (λ (l : List Decision). Rise l) (sym m.all) up
rest_rise ds rest e next (Some ruling) m up = (subst (λ (l : List Decision). Rise l) m.first up).1

left_among : (need last : ℕ) (ds : List Decision) (es : List Entry) (left : List Decision)
    (d : Decision) → AgreesUpTo need ds es last left → IsAmong left d → IsAmong ds d
left_among need last ds [] left d h g = subst (λ (l : List Decision). IsAmong l d) h.1 g
left_among need last ds (e ∷ es) left d (next, rest, low, m, h) g =
    rest_among ds rest e next e.ruling d m (left_among next last rest es left d h g)

here_later : (ds rest : List Decision) (e : Entry) (next : ℕ) (a : Option Ruling) (d : Decision)
    → Matches ds e a next rest → Rise ds → IsAmong rest d → e.place < d.place
here_later ds rest e next None d m up h =
    all_later e.place ds d m.later up (subst (λ (l : List Decision). IsAmong l d) m.all h)
here_later ds rest e next (Some ruling) d m up h =
    let rise : Rise (m.decision ∷ rest) = subst (λ (l : List Decision). Rise l) m.first up in
    subst (λ (p : ℕ). p < d.place) m.place (all_later m.decision.place rest d rise.0 rise.1 h)

later_left : (need last : ℕ) (ds : List Decision) (es : List Entry) (left : List Decision) (i : ℕ)
    (e : Entry) (d : Decision) → AgreesUpTo need ds es last left → Rise ds → slice_get es i ≡ Some e
    → IsAmong left d → e.place < d.place
later_left need last ds [] left i e d h up at g = absurd (cc)
later_left need last ds (f ∷ es) left zero e d (next, rest, low, m, h) up at g =
    let same : f ≡ e = cc in
    subst (λ (x : Entry). x.place < d.place) same
    (here_later ds rest f next f.ruling d m up (left_among next last rest es left d h g))
later_left need last ds (f ∷ es) left (suc i) e d (next, rest, low, m, h) up at g =
    later_left next last rest es left i e d h (rest_rise ds rest f next f.ruling m up) at g

left_rise : (need last : ℕ) (ds : List Decision) (es : List Entry) (left : List Decision)
    → AgreesUpTo need ds es last left → Rise ds → Rise left
left_rise need last ds [] left h up = subst (λ (l : List Decision). Rise l) (sym h.1) up
left_rise need last ds (e ∷ es) left (next, rest, low, m, h) up =
    left_rise next last rest es left h (rest_rise ds rest e next e.ruling m up)

-- ---- a batch

pub once_of : (number workers : ℕ) (b b' : Books) (rs : List Deed) (old new : ℕ → BenchState)
    (es : ℕ → List Entry) (last : ℕ → ℕ) (left : ℕ → List Decision)
    → IsFront number workers b b' rs old new es last left → (w : ℕ)
    → IsWorker workers w → Rise (decisions_of w rs) → Rise (left w)
once_of number workers b b' rs old new es last left batch w its up =
    left_rise (length b.list) (last w) (decisions_of w rs) (es w) (left w)
    (batch.promises w its).agrees up

pub untold_of : (number workers : ℕ) (b b' : Books) (rs : List Deed) (old new : ℕ → BenchState)
    (es : ℕ → List Entry) (last : ℕ → ℕ) (left : ℕ → List Decision)
    → IsFront number workers b b' rs old new es last left → (w i : ℕ) (e : Entry) (d : Decision)
    → IsWorker workers w → slice_get (es w) i ≡ Some e → IsAmong (left w) d
    → Rise (decisions_of w rs) → e.place < d.place
untold_of number workers b b' rs old new es last left batch w i e d its at h up =
    later_left (length b.list) (last w) (decisions_of w rs) (es w) (left w) i e d
    (batch.promises w its).agrees up at h

pub gained_of : (number workers : ℕ) (b b' : Books) (rs : List Deed) (old new : ℕ → BenchState)
    (es : ℕ → List Entry) (last : ℕ → ℕ) (left : ℕ → List Decision)
    → IsFront number workers b b' rs old new es last left → (op : Op) → Contains b'.list op
    → Contains b.list op ⊎ IsGained workers rs es left op
gained_of number workers b b' rs old new es last left batch op m =
    by (comes number b b' rs op batch.recorded m)
  where
    on_it : (d : Decision) → IsWorker workers d.worker → d.ruling ≡ Made op
        → Stands (es d.worker) (left d.worker) d → IsGained workers rs es left op
    on_it d its is (Stands.on i e at same) = IsGained.told d.worker i e its at (same ∙ ap Some is)
    on_it d its is (Stands.is_left h) = IsGained.untold d.worker d its h is

    by : Comes b rs op → Contains b.list op ⊎ IsGained workers rs es left op
    by (Comes.before h) = inl h
    by (Comes.decided d has is) =
        let its = worker_of workers rs d batch.of_workers has in
        inr
        (on_it d its is
        (stands (length b.list) (last d.worker) (decisions_of d.worker rs) (es d.worker)
        (left d.worker) d (batch.promises d.worker its).agrees (among_of rs d has)))
    by (Comes.received p has is there) = inr (IsGained.taken p has is there)

-- ---- whose orders they are

-- a decision on one worker's orders is its own in the record
own_among : (jobs : ℕ → ℕ → Option Job) (w : ℕ) (rs : List Deed) (d : Decision) → AreOwn jobs rs
    → IsAmong (decisions_of w rs) d → IsOwn (jobs w d.place) d.ruling
own_among jobs w [] d all h = absurd h
own_among jobs w (Delivered p ∷ rs) d all h = own_among jobs w rs d all h
own_among jobs w (Decided x ∷ rs) d all h =
    by (eqb_tells x.worker w) (λ g. own_among jobs w rs d all.1 g)
  where
    here : x.worker ≡ w → (x ≡ d) ⊎ IsAmong (decisions_of w rs) d
        → (IsAmong (decisions_of w rs) d → IsOwn (jobs w d.place) d.ruling)
        → IsOwn (jobs w d.place) d.ruling
    here at (inl same) again =
        subst (λ (q : Decision). IsOwn (jobs w q.place) q.ruling) same
        (subst (λ (v : ℕ). IsOwn (jobs v x.place) x.ruling) at all.0)
    here at (inr g) again = again g

    by : ((eqb x.worker w ≡ true) × (x.worker ≡ w)) ⊎ ((eqb x.worker w ≡ false) × (x.worker ≢ w))
        → (IsAmong (decisions_of w rs) d → IsOwn (jobs w d.place) d.ruling)
        → IsOwn (jobs w d.place) d.ruling
    by (inl same) again =
        here same.1
        (subst (λ t. IsAmong (cond t (x ∷ decisions_of w rs) (decisions_of w rs)) d) same.0 h) again
    by (inr other) again =
        again
        (subst (λ t. IsAmong (cond t (x ∷ decisions_of w rs) (decisions_of w rs)) d) other.0 h)

-- and it is in the record
has_among : (w : ℕ) (rs : List Deed) (d : Decision) → IsAmong (decisions_of w rs) d
    → HasDecision rs d × (d.worker ≡ w)
has_among w [] d h = absurd h
has_among w (Delivered p ∷ rs) d h = has_among w rs d h
has_among w (Decided x ∷ rs) d h =
    by (eqb_tells x.worker w) (λ g. let it = has_among w rs d g in (inr it.0, it.1))
  where
    here : x.worker ≡ w → (x ≡ d) ⊎ IsAmong (decisions_of w rs) d
        → (IsAmong (decisions_of w rs) d → HasDecision (Decided x ∷ rs) d × (d.worker ≡ w))
        → HasDecision (Decided x ∷ rs) d × (d.worker ≡ w)
    here at (inl is) again = (inl is, ap (λ (q : Decision). q.worker) (sym is) ∙ at)
    here at (inr g) again = again g

    by : ((eqb x.worker w ≡ true) × (x.worker ≡ w)) ⊎ ((eqb x.worker w ≡ false) × (x.worker ≢ w))
        → (IsAmong (decisions_of w rs) d → HasDecision (Decided x ∷ rs) d × (d.worker ≡ w))
        → HasDecision (Decided x ∷ rs) d × (d.worker ≡ w)
    by (inl same) again =
        here same.1
        (subst (λ t. IsAmong (cond t (x ∷ decisions_of w rs) (decisions_of w rs)) d) same.0 h)
        again
    by (inr other) again =
        again
        (subst (λ t. IsAmong (cond t (x ∷ decisions_of w rs) (decisions_of w rs)) d) other.0 h)

pub there_of : (number workers : ℕ) (b b' : Books) (rs : List Deed) (old new : ℕ → BenchState)
    (es : ℕ → List Entry) (last : ℕ → ℕ) (left : ℕ → List Decision)
    → IsFront number workers b b' rs old new es last left → (w : ℕ) (d : Decision)
    → IsWorker workers w → IsAmong (left w) d → HasDecision rs d × (d.worker ≡ w)
there_of number workers b b' rs old new es last left batch w d its h =
    has_among w rs d
    (left_among (length b.list) (last w) (decisions_of w rs) (es w) (left w) d
    (batch.promises w its).agrees h)

pub own_of : (number workers : ℕ) (b b' : Books) (rs : List Deed) (old new : ℕ → BenchState)
    (es : ℕ → List Entry) (last : ℕ → ℕ) (left : ℕ → List Decision)
    → IsFront number workers b b' rs old new es last left → (jobs : ℕ → ℕ → Option Job)
    → AreOwn jobs rs → (w : ℕ) (d : Decision) (op : Op) → IsWorker workers w → IsAmong (left w) d
    → d.ruling ≡ Made op → IsOrderFor (jobs w d.place) op.body
own_of number workers b b' rs old new es last left batch jobs all w d op its h is =
    let among =
    left_among (length b.list) (last w) (decisions_of w rs) (es w) (left w) d
    (batch.promises w its).agrees h in
    subst (λ (r : Ruling). IsOwn (jobs w d.place) r) is (own_among jobs w rs d all among)
