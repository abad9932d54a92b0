-- An order that was answered a name stands in the list, behind what was seen, and its worker sees
-- it from then on; all names
-- that were given differ. This comes from the same promises as the weave.
use Rattle.std.proofs.Common.{◌≡◌, ◌≢◌, ◌⊎◌, inl, inr, ℕ, zero, suc, ◌+◌, ◌≤◌, ◌<◌, true, false}
use Rattle.std.proofs.Common.{cond, List, [], ◌∷◌, ◌++◌, length, slice_get, take, Option, Some}
use Rattle.std.proofs.Common.{None, Result, Ok, Err, refl, sym, ap, ◌∙◌, subst, arith}
use Rattle.std.specs.List.{Contains}
use Rattle.std.proofs.lemmas.List.{length-append}
use Rattle.std.proofs.lemmas.Bool.{cases_order}
use Rattle.std.proofs.lemmas.Bool.Decides.{eqb_tells}
use Rattle.std.proofs.Common.{eqb}
use Rattle.fl_labels.specs.SetBy as set
use Rattle.fl_labels.specs.SetBy.{In}
use Rattle.fl_labels.specs.declared.name.Name.{Name}
use Rattle.fl_ops.specs.OpOrder.{op_cmp}
use Rattle.fl_ops.specs.declared.op.Op.{Op}
use Rattle.fl_opset.specs.laws.Members.{listed_in, member_listed, Contains-cons}
use Rattle.fl_jobs.specs.declared.job.Job.{Job}
use Rattle.fl_jobs.specs.declared.answer.Refusal.{Refusal}
use Rattle.fl_jobs.specs.declared.answer.Outcome.{Outcome}
use Rattle.fl_bench.specs.Bench.{BenchState}
use Rattle.fl_bench.specs.laws.Orders.{order_at}
use Rattle.fl_system.specs.State.{first_ops}
use Rattle.fl_system_laws.specs.laws.Steps.{with_ops_more, with_ops_new}
use Rattle.fl_crew_model.specs.declared.record.Told.{Told}
use Rattle.fl_crew_model.specs.declared.record.Reason.{Reason}
use Rattle.fl_crew_model.specs.declared.record.Reason.TheVariants.{Busy, NamesSpent, Memory}
use Rattle.fl_crew_model.specs.declared.record.Ruling.{Ruling}
use Rattle.fl_crew_model.specs.declared.record.Ruling.TheVariants.{Made, Late, GivenUp}
use Rattle.fl_crew_model.specs.declared.record.Entry.{Entry}
use Rattle.fl_crew_model.specs.declared.record.Decision.{Decision}
use Rattle.fl_crew_model.specs.declared.record.Verdict.{Verdict}
use Rattle.fl_crew_model.specs.declared.record.Verdict.TheVariants.{Taken, TakenLate, Declined}
use Rattle.fl_crew_model.specs.declared.record.Delivery.{Delivery}
use Rattle.fl_crew_model.specs.declared.record.Deed.{Deed}
use Rattle.fl_crew_model.specs.declared.record.Deed.TheVariants.{Decided, Delivered}
use Rattle.fl_crew_model.specs.Served.{IsTold, Finished, Serves, Served}
use Rattle.fl_crew_model.specs.Compared.{Matches, AgreesUpTo, decisions_of}
use Rattle.fl_crew_model.specs.Books.{Books, Changes, GivesUp, TakesBy, Recorded}
use Rattle.fl_crew_model.specs.Crews.{IsWorker, IsFront}
use Rattle.fl_crew_model.specs.Answered.{HasDecision, IsAnswered, IsAmong, IsOrderFor}
use Rattle.fl_crew_model.proofs.Weaving.{deed_longer, longer_length, recorded_longer}

-- ---- the record

get_here : (xs : List Op) (x : Op) (more : List Op)
    → slice_get ((xs ++ x ∷ []) ++ more) (length xs) ≡ Some x
get_here [] x more = refl
get_here (y ∷ ys) x more = get_here ys x more

-- what a decision that made an operation says of the list
record IsMade (b' : Books) (d : Decision) (op : Op) : Type 0 where
  pub stands : slice_get b'.list d.before ≡ Some op
  pub one : d.after ≡ d.before + 1

made_in : (number : ℕ) (b b' : Books) (rs : List Deed) (d : Decision) (op : Op)
    → Recorded number b rs b' → HasDecision rs d → d.ruling ≡ Made op → IsMade b' d op
made_in number b b' [] d op h has is = absurd has
made_in number b b' (Delivered p ∷ rs) d op (mid, deed, h) has is =
    made_in number mid b' rs d op h has is
made_in number b b' (Decided x ∷ rs) d op (mid, deed, h) (inr has) is =
    made_in number mid b' rs d op h has is
made_in number b b' (Decided x ∷ rs) d op (mid, deed, h) (inl same) is =
    let made : Changes number b x.worker (Made op) mid =
    subst (λ (a : Ruling). Changes number b x.worker a mid)
    (ap (λ (q : Decision). q.ruling) same ∙ is) deed.changes in
    let rest = recorded_longer number mid b' rs h in
    let list : b'.list ≡ (b.list ++ op ∷ []) ++ rest.more =
    rest.list ∙ ap (λ (q : Books). q.list ++ rest.more) made.new in
    let place : d.before ≡ length b.list =
    ap (λ (q : Decision). q.before) (sym same) ∙ deed.before in
    let after : d.after ≡ length mid.list =
    ap (λ (q : Decision). q.after) (sym same) ∙ deed.after in
    let longer : length mid.list ≡ length (b.list ++ op ∷ []) =
    ap (λ (q : Books). length q.list) made.new in
    let sum = length-append b.list (op ∷ []) in
    record {
      stands =
          ap (slice_get b'.list) place
          ∙ (ap (λ l. slice_get l (length b.list)) list ∙ get_here b.list op rest.more);
      one = omega (arith, place, after, longer, sum);
    }

-- the list does not grow shorter
goes_up : (number : ℕ) (b b' : Books) (rs : List Deed) (d : Decision) → Recorded number b rs b'
    → HasDecision rs d → d.before ≤ d.after
goes_up number b b' [] d h has = absurd has
goes_up number b b' (Delivered p ∷ rs) d (mid, deed, h) has = goes_up number mid b' rs d h has
goes_up number b b' (Decided x ∷ rs) d (mid, deed, h) (inr has) = goes_up number mid b' rs d h has
goes_up number b b' (Decided x ∷ rs) d (mid, deed, h) (inl same) =
    let up = longer_length b mid (deed_longer number b mid (Decided x) deed) in
    let before : d.before ≡ length b.list =
    ap (λ (q : Decision). q.before) (sym same) ∙ deed.before in
    let after : d.after ≡ length mid.list =
    ap (λ (q : Decision). q.after) (sym same) ∙ deed.after in
    omega (arith, up, before, after)

-- ---- names

-- what is saved stays saved
same_saved : (b b' : Books) (o : Op) → b' ≡ b → In b.saved o → In b'.saved o
same_saved b b' o e h = subst (λ (x : Books). In x.saved o) (sym e) h

reason_saved : (number : ℕ) (b b' : Books) (reason : Reason) (o : Op) → GivesUp number b reason b'
    → In b.saved o → In b'.saved o
reason_saved number b b' Busy o h m = same_saved b b' o h.same m
reason_saved number b b' NamesSpent o h m = same_saved b b' o h.same m
reason_saved number b b' Memory o h m = same_saved b b' o h m

ruling_saved : (number : ℕ) (b b' : Books) (worker : ℕ) (ruling : Ruling) (o : Op)
    → Changes number b worker ruling b' → In b.saved o → In b'.saved o
ruling_saved number b b' worker (Made op) o h m =
    subst (λ (x : Books). In x.saved o) (sym h.new) (with_ops_more b.saved (op ∷ []) o m)
ruling_saved number b b' worker (Late op pid) o h m =
    subst (λ (x : Books). In x.saved o) (sym h.new) (with_ops_more b.saved (op ∷ []) o m)
ruling_saved number b b' worker (GivenUp reason) o h m = reason_saved number b b' reason o h m

packet_saved : (number : ℕ) (b b' : Books) (p : Delivery) (verdict : Verdict) (o : Op)
    → TakesBy number b p verdict b' → In b.saved o → In b'.saved o
packet_saved number b b' p Taken o h m =
    subst (λ (x : Books). In x.saved o) (sym h.new) (with_ops_more b.saved (set.members h.ops) o m)
packet_saved number b b' p TakenLate o h m =
    subst (λ (x : Books). In x.saved o) (sym h.new) (with_ops_more b.saved (set.members h.ops) o m)
packet_saved number b b' p Declined o h m = same_saved b b' o h.same m

-- a name that is given is one that no saved operation has
new_name : (number : ℕ) (b b' : Books) (rs : List Deed) (d : Decision) (op old : Op)
    → Recorded number b rs b' → HasDecision rs d → d.ruling ≡ Made op → In b.saved old
    → old.name.node ≡ number → old.name ≢ op.name
new_name number b b' [] d op old h has is there own e = absurd has
new_name number b b' (Delivered p ∷ rs) d op old (mid, deed, h) has is there own e =
    new_name number mid b' rs d op old h has is
    (packet_saved number b mid p p.verdict old deed.takes there) own e
new_name number b b' (Decided x ∷ rs) d op old (mid, deed, h) (inr has) is there own e =
    new_name number mid b' rs d op old h has is
    (ruling_saved number b mid x.worker x.ruling old deed.changes there) own e
new_name number b b' (Decided x ∷ rs) d op old (mid, deed, h) (inl same) is there own e =
    let made : Changes number b x.worker (Made op) mid =
    subst (λ (a : Ruling). Changes number b x.worker a mid)
    (ap (λ (q : Decision). q.ruling) same ∙ is) deed.changes in
    let high = made.named.is_last.upper old there own in
    let next = made.named.seq_is in
    let seqs : old.name.seq ≡ op.name.seq = ap (λ (q : Name). q.seq) e in
    omega (arith, high, next, seqs)

-- what a decision made is saved then, under the number of the node
made_saved : (number : ℕ) (b mid : Books) (x d : Decision) (op : Op) → x ≡ d → d.ruling ≡ Made op
    → Changes number b x.worker x.ruling mid → In mid.saved op × (op.name.node ≡ number)
made_saved number b mid x d op same is changes =
    let made : Changes number b x.worker (Made op) mid =
    subst (λ (a : Ruling). Changes number b x.worker a mid)
    (ap (λ (q : Decision). q.ruling) same ∙ is) changes in (
      subst (λ (q : Books). In q.saved op) (sym made.new)
          (with_ops_new b.saved (op ∷ []) op (0, omega arith, refl)),
      made.named.node_is,
    )

-- one name is given by one decision
one_name : (number : ℕ) (b b' : Books) (rs : List Deed) (c d : Decision) (op other : Op)
    → Recorded number b rs b' → HasDecision rs c → HasDecision rs d → c.ruling ≡ Made op
    → d.ruling ≡ Made other → op.name ≡ other.name → c ≡ d
one_name number b b' [] c d op other h has has' is is' e = absurd has
one_name number b b' (Delivered p ∷ rs) c d op other (mid, deed, h) has has' is is' e =
    one_name number mid b' rs c d op other h has has' is is' e
one_name number b b' (Decided x ∷ rs) c d op other (mid, deed, h) (inl same) (inl same') is is' e =
    sym same ∙ same'
one_name number b b' (Decided x ∷ rs) c d op other (mid, deed, h) (inl same) (inr has') is is' e =
    let saved = made_saved number b mid x c op same is deed.changes in
    absurd (new_name number mid b' rs d other op h has' is' saved.0 saved.1 e)
one_name number b b' (Decided x ∷ rs) c d op other (mid, deed, h) (inr has) (inl same') is is' e =
    let saved = made_saved number b mid x d other same' is' deed.changes in
    absurd (new_name number mid b' rs c op other h has is saved.0 saved.1 (sym e))
one_name number b b' (Decided x ∷ rs) c d op other (mid, deed, h) (inr has) (inr has') is is' e =
    one_name number mid b' rs c d op other h has has' is is' e

-- ---- the decisions of one worker

of_has : (w : ℕ) (rs : List Deed) (d : Decision) → IsAmong (decisions_of w rs) d → HasDecision rs d
    × (d.worker ≡ w)
of_has w [] d h = absurd h
of_has w (Delivered p ∷ rs) d h = of_has w rs d h
of_has w (Decided x ∷ rs) d h = by (eqb_tells x.worker w) (λ g. of_has w rs d g)
  where
    by : ((eqb x.worker w ≡ true) × (x.worker ≡ w)) ⊎ ((eqb x.worker w ≡ false) × (x.worker ≢ w))
        → (IsAmong (decisions_of w rs) d → HasDecision rs d × (d.worker ≡ w))
        → ((x ≡ d) ⊎ HasDecision rs d) × (d.worker ≡ w)
    by (inl same) again =
        here (subst (λ t. IsAmong (cond t (x ∷ decisions_of w rs) (decisions_of w rs)) d) same.0 h)
      where
        here : (x ≡ d) ⊎ IsAmong (decisions_of w rs) d → ((x ≡ d) ⊎ HasDecision rs d)
            × (d.worker ≡ w)
        here (inl e) = (inl e, ap (λ (q : Decision). q.worker) (sym e) ∙ same.1)
        here (inr g) = (inr (again g).0, (again g).1)
    by (inr other) again =
        let g =
        again
        (subst (λ t. IsAmong (cond t (x ∷ decisions_of w rs) (decisions_of w rs)) d) other.0
        h) in
        (inr g.0, g.1)

AllUp : List Decision → Type 0
AllUp ds = (d : Decision) → IsAmong ds d → d.before ≤ d.after

-- one entry raises what is to be seen
raised : (need : ℕ) (ds rest : List Decision) (e : Entry) (next : ℕ) (a : Option Ruling)
    → need ≤ e.seen → AllUp ds → Matches ds e a next rest → (need ≤ next) × AllUp rest
unfolding AllUp
raised need ds rest e next None low up m =
    let from = m.from in
    (omega (arith, from, low), λ d h. up d (subst (λ (l : List Decision). IsAmong l d) m.all h))
raised need ds rest e next (Some ruling) low up m =
    let all : AllUp (m.decision ∷ rest) = subst (λ (l : List Decision). AllUp l) m.first up in
    let here = all m.decision (inl refl) in
    let from = m.from in
    let seen = m.seen in
    (omega (arith, here, from, seen, low), λ d h. all d (inr h))

-- each entry has seen what is to be seen
has_seen : (need last : ℕ) (left ds : List Decision) (es : List Entry) (j : ℕ) (f : Entry)
    → AgreesUpTo need ds es last left → AllUp ds → slice_get es j ≡ Some f → need ≤ f.seen
has_seen need last left ds [] j f h up at = absurd (cc)
has_seen need last left ds (e ∷ es) zero f (next, rest, low, m, h) up at =
    let same : e ≡ f = cc in
    subst (λ (x : Entry). need ≤ x.seen) same low
has_seen need last left ds (e ∷ es) (suc j) f (next, rest, low, m, h) up at =
    let step = raised need ds rest e next e.ruling low up m in
    let later = has_seen next last left rest es j f h step.1 at in
    let up_to = step.0 in
    omega (arith, later, up_to)

-- no entry has seen less than one before it
seen_up : (need last : ℕ) (left ds : List Decision) (es : List Entry) (i j : ℕ) (e f : Entry)
    → AgreesUpTo need ds es last left → AllUp ds → i < j → slice_get es i ≡ Some e
    → slice_get es j ≡ Some f → e.seen ≤ f.seen
seen_up need last left ds [] i j e f h up more at at' = absurd (cc)
seen_up need last left ds (x ∷ es) i zero e f h up more at at' = absurd (omega (arith, more))
seen_up need last left ds (x ∷ es) zero (suc j) e f (next, rest, low, m, h) up more at at' =
    let same : x ≡ e = cc in
    let step = raised x.seen ds rest x next x.ruling (omega arith) up m in
    let later = has_seen next last left rest es j f h step.1 at' in
    let high = step.0 in
    subst (λ (y : Entry). y.seen ≤ f.seen) same (omega (arith, later, high))
seen_up need last left ds (x ∷ es) (suc i) (suc j) e f (next, rest, low, m, h) up more at at' =
    seen_up next last left rest es i j e f h (raised need ds rest x next x.ruling low up m).1
    (omega (arith, more)) at at'

-- the decision on an entry, and what its worker has seen after it
record Found (ds : List Decision) (es : List Entry) (i : ℕ) (e : Entry) (ruling : Ruling)
    : Type 0 where
  pub decision : Decision
  pub there : IsAmong ds decision
  pub place : decision.place ≡ e.place
  pub same : decision.ruling ≡ ruling
  pub behind : e.seen ≤ decision.before
  pub later : (j : ℕ) (f : Entry) → i < j → slice_get es j ≡ Some f → decision.after ≤ f.seen

here_found : (last : ℕ) (left ds rest : List Decision) (e : Entry) (es : List Entry) (next : ℕ)
    (a : Option Ruling) (ruling : Ruling) → a ≡ Some ruling → Matches ds e a next rest
    → AgreesUpTo next rest es last left → AllUp rest → Found ds (e ∷ es) 0 e ruling
here_found last left ds rest e es next None ruling is m h up = absurd (cc)
here_found last left ds rest e es next (Some given) ruling is m h up =
    let same : given ≡ ruling = cc in
    record {
      decision = m.decision;
      there = subst (λ (l : List Decision). IsAmong l m.decision) (sym m.first) (inl refl);
      place = m.place;
      same = m.same ∙ same;
      behind = m.seen;
      later = λ j f. after j f;
    }
  where
    after : (j : ℕ) (f : Entry) → 0 < j → slice_get (e ∷ es) j ≡ Some f → m.decision.after ≤ f.seen
    after zero f more at = absurd (omega (arith, more))
    after (suc j) f more at =
        subst (λ (k : ℕ). k ≤ f.seen) m.from (has_seen next last left rest es j f h up at)

rest_in : (ds rest : List Decision) (f : Entry) (next : ℕ) (a : Option Ruling) (d : Decision)
    → Matches ds f a next rest → IsAmong rest d → IsAmong ds d
rest_in ds rest f next None d m h = subst (λ (l : List Decision). IsAmong l d) m.all h
rest_in ds rest f next (Some given) d m h =
    subst (λ (l : List Decision). IsAmong l d) (sym m.first) (inr h)

later_found : (ds rest : List Decision) (f : Entry) (es : List Entry) (i : ℕ) (e : Entry) (next : ℕ)
    (ruling : Ruling) → Matches ds f f.ruling next rest → Found rest es i e ruling
    → Found ds (f ∷ es) (suc i) e ruling
later_found ds rest f es i e next ruling m found =
    record {
      decision = found.decision;
      there = rest_in ds rest f next f.ruling found.decision m found.there;
      place = found.place;
      same = found.same;
      behind = found.behind;
      later = λ j g. after j g;
    }
  where
    after : (j : ℕ) (g : Entry) → suc i < j → slice_get (f ∷ es) j ≡ Some g
        → found.decision.after ≤ g.seen
    after zero g more at = absurd (omega (arith, more))
    after (suc j) g more at = found.later j g (omega (arith, more)) at

found_at : (need last : ℕ) (left ds : List Decision) (es : List Entry) (i : ℕ) (e : Entry)
    (ruling : Ruling) → AgreesUpTo need ds es last left → AllUp ds → slice_get es i ≡ Some e
    → e.ruling ≡ Some ruling → Found ds es i e ruling
found_at need last left ds [] i e ruling h up at is = absurd (cc)
found_at need last left ds (f ∷ es) zero e ruling (next, rest, low, m, h) up at is =
    let same : f ≡ e = cc in
    subst (λ (x : Entry). Found ds (f ∷ es) 0 x ruling) same
    (here_found last left ds rest f es next f.ruling ruling (ap (λ (x : Entry). x.ruling) same ∙ is)
    m h (raised need ds rest f next f.ruling low up m).1)
found_at need last left ds (f ∷ es) (suc i) e ruling (next, rest, low, m, h) up at is =
    later_found ds rest f es i e next ruling m
    (found_at next last left rest es i e ruling h
    (raised need ds rest f next f.ruling low up m).1 at is)

-- ---- what a desk sees

-- an item of a beginning that is long enough
taken_in : (list : List Op) (k v : ℕ) (op : Op) → slice_get list k ≡ Some op → k < v
    → Contains (take v list) op
taken_in [] k v op at below = absurd (cc)
taken_in (y ∷ ys) k zero op at below = absurd (omega (arith, below))
taken_in (y ∷ ys) zero (suc v) op at below = (0, omega arith, cc)
taken_in (y ∷ ys) (suc k) (suc v) op at below =
    Contains-cons y (take v ys) op (taken_in ys k v op at (omega (arith, below)))

seen_in : (list : List Op) (k v : ℕ) (op : Op) → slice_get list k ≡ Some op → k < v
    → first_ops v list op
seen_in list k v op at below =
    let view = set.of_list {R = op_cmp} (take v list) in
    member_listed view op ((listed_in (take v list) view refl op).0 (taken_in list k v op at below))

-- ---- a batch

module _ (number workers : ℕ) (b b' : Books) (rs : List Deed) (old new : ℕ → BenchState)
    (es : ℕ → List Entry) (last : ℕ → ℕ) (left : ℕ → List Decision)
    (batch : IsFront number workers b b' rs old new es last left) where
  all_up : (w : ℕ) → AllUp (decisions_of w rs)
  unfolding AllUp
  all_up w d h = goes_up number b b' rs d batch.recorded (of_has w rs d h).0

  found : (w i : ℕ) (e : Entry) (ruling : Ruling) → IsWorker workers w → slice_get (es w) i ≡ Some e
      → e.ruling ≡ Some ruling → Found (decisions_of w rs) (es w) i e ruling
  found w i e ruling its at is =
      found_at (length b.list) (last w) (left w) (decisions_of w rs) (es w) i e ruling
      (batch.promises w its).agrees (all_up w) at is

  pub low_of : (w i : ℕ) (e : Entry) → IsWorker workers w → slice_get (es w) i ≡ Some e
      → length b.list ≤ e.seen
  low_of w i e its at =
      has_seen (length b.list) (last w) (left w) (decisions_of w rs) (es w) i e
      (batch.promises w its).agrees (all_up w) at

  pub rises_of : (w i j : ℕ) (e f : Entry) → IsWorker workers w → i < j
      → slice_get (es w) i ≡ Some e → slice_get (es w) j ≡ Some f → e.seen ≤ f.seen
  rises_of w i j e f its more at at' =
      seen_up (length b.list) (last w) (left w) (decisions_of w rs) (es w) i j e f
      (batch.promises w its).agrees (all_up w) more at at'

  pub stands_of : (w i : ℕ) (e : Entry) (op : Op) → IsWorker workers w → slice_get (es w) i ≡ Some e
      → e.ruling ≡ Some (Made op) → IsAnswered b'.list rs e op
  stands_of w i e op its at is =
      let f = found w i e (Made op) its at is in
      let there = (of_has w rs f.decision f.there).0 in
      record {
        decision = f.decision;
        there = there;
        place = f.place;
        same = f.same;
        behind = f.behind;
        stands = (made_in number b b' rs f.decision op batch.recorded there f.same).stands;
      }

  pub seen_of : (w i j : ℕ) (e f : Entry) (op : Op) → IsWorker workers w
      → slice_get (es w) i ≡ Some e → e.ruling ≡ Some (Made op) → i < j
      → slice_get (es w) j ≡ Some f → first_ops f.seen b'.list op
  seen_of w i j e f op its at is more at' =
      let it = found w i e (Made op) its at is in
      let there = (of_has w rs it.decision it.there).0 in
      let made = made_in number b b' rs it.decision op batch.recorded there it.same in
      let high = it.later j f more at' in
      let one = made.one in
      seen_in b'.list it.decision.before f.seen op made.stands (omega (arith, high, one))

  pub named_of : (c d : Decision) (op other : Op) → HasDecision rs c → HasDecision rs d
      → c.ruling ≡ Made op → d.ruling ≡ Made other → op.name ≡ other.name → c ≡ d
  named_of c d op other has has' is is' same =
      one_name number b b' rs c d op other batch.recorded has has' is is' same

  -- two decisions of one worker
  earlier : (w i j : ℕ) (e f : Entry) (op other : Op) → IsWorker workers w
      → slice_get (es w) i ≡ Some e → slice_get (es w) j ≡ Some f → (is : e.ruling ≡ Some (Made op))
      → (is' : f.ruling ≡ Some (Made other)) → i < j → op.name ≢ other.name
  earlier w i j e f op other its at at' is is' more same =
      let c = found w i e (Made op) its at is in
      let d = found w j f (Made other) its at' is' in
      let there = (of_has w rs c.decision c.there).0 in
      let one = (made_in number b b' rs c.decision op batch.recorded there c.same).one in
      let high = c.later j f more at' in
      let behind = d.behind in
      let equal =
      ap (λ (q : Decision). q.before)
      (one_name number b b' rs c.decision d.decision op other batch.recorded there
      (of_has w rs d.decision d.there).0 c.same d.same same) in
      omega (arith, one, high, behind, equal)

  pub names_of : (v w i j : ℕ) (e f : Entry) (op other : Op) → IsWorker workers v
      → IsWorker workers w → slice_get (es v) i ≡ Some e → slice_get (es w) j ≡ Some f
      → e.ruling ≡ Some (Made op) → f.ruling ≡ Some (Made other) → (v ≢ w) ⊎ (i ≢ j)
      → op.name ≢ other.name
  names_of v w i j e f op other its its' at at' is is' apart same = by_worker (eqb_tells v w) apart
    where
      workers_are : v ≡ w
      workers_are =
          let c = found v i e (Made op) its at is in
          let d = found w j f (Made other) its' at' is' in
          let here = of_has v rs c.decision c.there in
          let there = of_has w rs d.decision d.there in
          let one =
          one_name number b b' rs c.decision d.decision op other batch.recorded here.0 there.0
          c.same d.same same in
          sym here.1 ∙ (ap (λ (q : Decision). q.worker) one ∙ there.1)

      by_worker : ((eqb v w ≡ true) × (v ≡ w)) ⊎ ((eqb v w ≡ false) × (v ≢ w)) → (v ≢ w) ⊎ (i ≢ j)
          → ⊥
      by_worker (inr other) apart = other.1 workers_are
      by_worker (inl equal) (inl ne) = ne equal.1
      by_worker (inl equal) (inr ne) = by_place (cases_order i j)
        where
          by_place : (i ≡ j) ⊎ ((i < j) ⊎ (j < i)) → ⊥
          by_place (inl at_one) = ne at_one
          by_place (inr (inl less)) =
              earlier v i j e f op other its at
              (subst (λ (k : ℕ). slice_get (es k) j ≡ Some f) (sym equal.1) at') is is' less same
          by_place (inr (inr more)) =
              earlier w j i f e other op its' at'
              (subst (λ (k : ℕ). slice_get (es k) i ≡ Some e) equal.1 at) is' is more (sym same)

  -- who is told a name gave an order whose operation was made
  told_alone : (result : Result Outcome Refusal) (told : Told) (name : Name) → IsTold result told
      → told ≡ Told.Published name → ⊥
  told_alone (Ok (Outcome.Reply reply)) told name h is = cc
  told_alone (Ok (Outcome.Out packet)) told name h is = cc
  told_alone (Ok (Outcome.Order body pid)) told name h is = h
  told_alone (Err refusal) told name h is = cc

  told_by : (V : Op → Type 0) (bench : BenchState) (job : Job) (told : Told) (a : Option Ruling)
      (left : BenchState) (name : Name) → Serves V bench job told a left
      → told ≡ Told.Published name → (op : Op) × (a ≡ Some (Made op)) × (op.name ≡ name)
  told_by V bench job told None left name h is = absurd (told_alone h.result told name h.is_told is)
  told_by V bench job told (Some (Made op)) left name h is = (op, refl, (let e = h.is_told in cc))
  told_by V bench job told (Some (Late op pid)) left name h is = absurd (let e = h.is_told in cc)
  told_by V bench job told (Some (GivenUp reason)) left name h is = absurd (let e = h.is_told in cc)

  told_in : (list : List Op) (bench left : BenchState) (fs : List Entry) (i : ℕ) (e : Entry)
      (name : Name) → Served list bench fs left → slice_get fs i ≡ Some e
      → e.told ≡ Told.Published name → (op : Op) × (e.ruling ≡ Some (Made op)) × (op.name ≡ name)
  told_in list bench left [] i e name h at is = absurd (cc)
  told_in list bench left (f ∷ fs) zero e name (mid, here, h) at is =
      let same : f ≡ e = cc in
      subst (λ (x : Entry). x.told ≡ Told.Published name → (op : Op) × (x.ruling ≡ Some (Made op))
      × (op.name ≡ name)) same
      (λ told. told_by _ bench f.job.value f.told f.ruling mid name here.serves told) is
  told_in list bench left (f ∷ fs) (suc i) e name (mid, here, h) at is =
      told_in list mid left fs i e name h at is

  pub told_of_it : (w i : ℕ) (e : Entry) (name : Name) → IsWorker workers w
      → slice_get (es w) i ≡ Some e → e.told ≡ Told.Published name → (op : Op)
      × (e.ruling ≡ Some (Made op)) × (op.name ≡ name)
  told_of_it w i e name its at is =
      told_in b'.list (old w) (new w) (es w) i e name (batch.promises w its).served at is

  -- and it is the operation of its own order
  order_by : (V : Op → Type 0) (bench : BenchState) (job : Job) (told : Told) (op : Op)
      (left : BenchState) → Finished V bench job told op left → IsOrderFor (Some job) op.body
  order_by V bench job told op left h =
      let order = order_at h.does in
      subst (λ (j : Job). IsOrderFor (Some j) op.body) (sym order.asked) order.body_is

  asked_in : (list : List Op) (bench left : BenchState) (fs : List Entry) (i : ℕ) (e : Entry)
      (op : Op) → Served list bench fs left → slice_get fs i ≡ Some e → e.ruling ≡ Some (Made op)
      → IsOrderFor (Some e.job.value) op.body
  asked_in list bench left [] i e op h at is = absurd (cc)
  asked_in list bench left (f ∷ fs) zero e op (mid, here, h) at is =
      let same : f ≡ e = cc in
      let ruled : f.ruling ≡ Some (Made op) = ap (λ (x : Entry). x.ruling) same ∙ is in
      let served =
      subst (λ (a : Option Ruling). Serves (first_ops f.seen list) bench f.job.value f.told a
      mid) ruled here.serves in
      subst (λ (x : Entry). IsOrderFor (Some x.job.value) op.body) same
      (order_by _ bench f.job.value f.told op mid served)
  asked_in list bench left (f ∷ fs) (suc i) e op (mid, here, h) at is =
      asked_in list mid left fs i e op h at is

  pub asked_of : (w i : ℕ) (e : Entry) (op : Op) → IsWorker workers w → slice_get (es w) i ≡ Some e
      → e.ruling ≡ Some (Made op) → IsOrderFor (Some e.job.value) op.body
  asked_of w i e op its at is =
      asked_in b'.list (old w) (new w) (es w) i e op (batch.promises w its).served at is
