-- What desks see of a list.
use Rattle.std.proofs.Common.{◌≡◌, ◌≤◌, ◌<◌, ◌+◌, ◌-◌, ◌++◌, ◌∙◌, refl, sym, ap, subst, arith, ℕ, zero, suc, List, [], ◌∷◌, length, take, drop, get_or, set, All, Result, None, Some, inl, inr}
use Rattle.std.proofs.Common.{length-append, Bool, true, false, cond}
use Rattle.std.proofs.Math.Seq.{take-length}
use Rattle.std.proofs.lemmas.List.{take-append-le}
use Rattle.std.proofs.lemmas.List.Elements.{All-weaker, All-set, All-get_or, All-nil, All-push}
use Rattle.std.specs.Prelude.{max, min}
use Rattle.std.specs.Ordering.{is_lt, nat_cmp, ord_min}
use Rattle.std.proofs.lemmas.Bool.Decides.{nat_tests}
use Rattle.std.specs.declared.option.Option.{Option}
use Rattle.std.specs.Prelude.{◌⊎◌}
use Rattle.fl_labels.specs.declared.pid.Pid.{Pid}
use Rattle.fl_labels.specs.Found.{Within}
use Rattle.fl_labels.specs.SetBy as sets
use Rattle.fl_labels.specs.SetBy.{of_list}
use Rattle.fl_ops.specs.declared.op.Op.{Op}
use Rattle.fl_ops.specs.OpOrder.{op_cmp}
use Rattle.fl_system.specs.declared.state.Batch.TheVariants.{Ordered}
use Rattle.fl_system.specs.Numbered.{item_at, change_item, with_item, items_to}
use Rattle.fl_jobs.specs.declared.job.Job.{Job}
use Rattle.fl_jobs.specs.declared.answer.Refusal.{Refusal}
use Rattle.fl_jobs.specs.declared.answer.Outcome.{Outcome}
use Rattle.fl_ops.specs.Registry.{Listed}
use Rattle.fl_bench.specs.Bench.{BenchState}
use Rattle.fl_bench_laws.specs.laws.Alike.{does_same}
use Rattle.fl_opset.specs.laws.Members.{listed_member, member_listed, listed_in}
use Rattle.fl_bench.specs.Jobs.{Does}
use Rattle.fl_system.specs.State.{first_ops}
use Rattle.fl_system.specs.Jobs.{procs_after}
use Rattle.fl_desks.specs.Benches.{BenchesState, bench_at, counted}
use Rattle.fl_desks.specs.declared.desk.Desk.{Desk}
use Rattle.fl_desks.specs.Listing.{ListingState, with_seen, extended}
use Rattle.fl_desks.specs.parts.Fronts.{IsFront, IsListing, views_of}

-- the number of an item is one more than its place
pub item_is : {A : Type 0} (xs : List A) (k : ℕ) (d : A) → k < length xs → item_at xs (suc k) ≡ Some (get_or xs k d)
item_is [] k d less = absurd (omega (arith, less))
item_is (x ∷ xs) zero d less = refl
item_is (x ∷ xs) (suc k) d less = item_is xs k d (omega (arith, less))

pub with_item_is : {A : Type 0} (xs : List A) (k : ℕ) (y : A) → with_item xs (suc k) y ≡ set xs k y
with_item_is [] k y = refl
with_item_is (x ∷ xs) zero y = refl
with_item_is (x ∷ xs) (suc k) y = ap (λ ys. x ∷ ys) (with_item_is xs k y)

pub with_item_length : {A : Type 0} (f : A → A) (xs : List A) (k : ℕ) → length (change_item f xs k) ≡ length xs
with_item_length f [] k = refl
with_item_length f (x ∷ xs) zero = refl
with_item_length f (x ∷ xs) (suc zero) = refl
with_item_length f (x ∷ xs) (suc (suc k)) = ap suc (with_item_length f xs (suc k))

-- the item at a place, by its number
pub item_here : {A : Type 0} (xs : List A) (k number : ℕ) (x : A) → suc k ≡ number → k < length xs → x ≡ get_or xs k x → item_at xs number ≡ Some x
item_here xs k number x is less at = ap (item_at xs) (sym is) ∙ item_is xs k x less ∙ ap (λ y. Some y) (sym at)

-- no item has the number 0, nor one beyond the last
pub none_at_zero : {A : Type 0} (xs : List A) → item_at xs 0 ≡ None
none_at_zero [] = refl
none_at_zero (x ∷ xs) = refl

pub none_beyond : {A : Type 0} (xs : List A) (number : ℕ) → length xs < number
    → item_at xs number ≡ None
none_beyond [] number beyond = refl
none_beyond (x ∷ xs) zero beyond = refl
none_beyond (x ∷ xs) (suc zero) beyond = absurd (omega (arith, beyond))
none_beyond (x ∷ xs) (suc (suc k)) beyond = none_beyond xs (suc k) (omega (arith, beyond))

set_change : {A : Type 0} (f : A → A) (xs : List A) (k : ℕ) (x : A) → k < length xs → x ≡ get_or xs k x → set xs k (f x) ≡ change_item f xs (suc k)
set_change f [] k x less at = absurd (omega (arith, less))
set_change f (y ∷ ys) zero x less at = ap (λ z. f z ∷ ys) at
set_change f (y ∷ ys) (suc k) x less at = ap (λ zs. y ∷ zs) (set_change f ys k x (omega (arith, less)) at)

-- the item at a place was changed
pub changed_at : {A : Type 0} (f : A → A) (xs : List A) (k number : ℕ) (x y : A) → suc k ≡ number → k < length xs → x ≡ get_or xs k x → y ≡ f x
    → set xs k y ≡ change_item f xs number
changed_at f xs k number x y is less at changed = ap (set xs k) changed ∙ set_change f xs k x less at ∙ ap (change_item f xs) is

-- there is no other item
pub no_item : {A : Type 0} (f : A → A) (xs : List A) (k : ℕ) → length xs < k → change_item f xs k ≡ xs
no_item f [] k more = refl
no_item f (x ∷ xs) zero more = refl
no_item f (x ∷ xs) (suc zero) more = absurd (omega (arith, more))
no_item f (x ∷ xs) (suc (suc k)) more = ap (λ ys. x ∷ ys) (no_item f xs (suc k) (omega (arith, more)))

pub item_none : {A : Type 0} (f : A → A) (xs : List A) → change_item f xs 0 ≡ xs
item_none f [] = refl
item_none f (x ∷ xs) = refl

some_same : {A : Type 0} {x y : A} → Some x ≡ Some y → x ≡ y
some_same h = cc

pub get_views : (desks : List Desk) (k : ℕ) (d : Desk) → get_or (views_of desks) k d.seen ≡ (get_or desks k d).seen
get_views [] k d = refl
get_views (x ∷ desks) zero d = refl
get_views (x ∷ desks) (suc k) d = get_views desks k d

pub views_length : (desks : List Desk) → length (views_of desks) ≡ length desks
views_length [] = refl
views_length (x ∷ desks) = ap suc (views_length desks)

-- the desk at this place has seen what the list of views says
pub seen_at : (desks : List Desk) (k : ℕ) (d : Desk) (seen : ℕ) → k < length desks → d ≡ get_or desks k d
    → item_at (views_of desks) (suc k) ≡ Some seen → d.seen ≡ seen
seen_at desks k d seen less is at =
    let inside : k < length (views_of desks) = subst (λ n. k < n) (sym (views_length desks)) less in
    ap (λ (x : Desk). x.seen) is ∙ sym (get_views desks k d)
    ∙ some_same (sym (item_is (views_of desks) k d.seen inside) ∙ at)

views_set : (desks : List Desk) (k : ℕ) (d : Desk) → views_of (set desks k d) ≡ set (views_of desks) k d.seen
views_set [] k d = refl
views_set (x ∷ desks) zero d = refl
views_set (x ∷ desks) (suc k) d = ap (λ ys. x.seen ∷ ys) (views_set desks k d)

-- with another desk at this place
pub views_with : (desks : List Desk) (k : ℕ) (d : Desk) → views_of (set desks k d) ≡ with_item (views_of desks) (suc k) d.seen
views_with desks k d = views_set desks k d ∙ sym (with_item_is (views_of desks) k d.seen)

pub set_same : {A : Type 0} (xs : List A) (k : ℕ) (d : A) → d ≡ get_or xs k d → set xs k d ≡ xs
set_same [] k d is = refl
set_same (x ∷ xs) zero d is = ap (λ y. y ∷ xs) is
set_same (x ∷ xs) (suc k) d is = ap (λ ys. x ∷ ys) (set_same xs k d is)

-- what a desk has of a list it has of each longer one
pub front_of_more : (list more : List Op) (d : Desk) → IsFront list d → IsFront (list ++ more) d
front_of_more list more d front = record {
  within = let longer = length-append list more in omega (arith, front.within, longer);
  front = front.front ∙ sym (take-append-le d.seen list more front.within);
}

pub fronts_of_more : (list more : List Op) (desks : List Desk) → All (IsFront list) desks → All (IsFront (list ++ more)) desks
fronts_of_more list more desks = All-weaker (IsFront list) (IsFront (list ++ more)) (front_of_more list more) desks

-- ---- what stays true of a list with its desks

pub set_length : {A : Type 0} (xs : List A) (k : ℕ) (x : A) → length (set xs k x) ≡ length xs
set_length [] k x = refl
set_length (y ∷ ys) zero x = refl
set_length (y ∷ ys) (suc k) x = ap suc (set_length ys k x)

-- there are as many views
pub set_views : (desks : List Desk) (k : ℕ) (d : Desk) → length (views_of (set desks k d)) ≡ length (views_of desks)
set_views desks k d = views_length (set desks k d) ∙ set_length desks k d ∙ sym (views_length desks)

-- a desk at this place has another front
pub with_desk : (list : List Op) (desks : List Desk) (k : ℕ) (d : Desk) → IsListing list desks → IsFront list d
    → IsListing list (set desks k d)
with_desk list desks k d h front = record {
  few = let same = set_length desks k d in omega (arith, h.few, same);
  fronts = All-set (IsFront list) desks k d front h.fronts;
}

-- operations came at the end
with_more : (list more : List Op) (desks : List Desk) → IsListing list desks → IsListing (list ++ more) desks
with_more list more desks h = record { few = h.few; fronts = fronts_of_more list more desks h.fronts }

-- the same, of a list with them at its end
pub grown : (list more list' : List Op) (desks : List Desk) → IsListing list desks → list' ≡ list ++ more → IsListing list' desks
grown list more list' desks h list_is = subst (λ l. IsListing l desks) (sym list_is) (with_more list more desks h)

-- ---- what a desk sees

less_none : (j : ℕ) → j - 0 ≡ j
less_none j = omega arith

less_both : (i j : ℕ) → suc j - suc i ≡ j - i
less_both i j = omega arith

-- the first items, and more
pub take_on : {A : Type 0} (xs : List A) (i j : ℕ) → i ≤ j → take i xs ++ take (j - i) (drop i xs) ≡ take j xs
take_on [] i j le =
    ap (λ ys. ys ++ take (j - i) (drop i [])) (take_nothing i) ∙ ap (take (j - i)) (drop_nothing i) ∙ take_nothing (j - i) ∙ sym (take_nothing j)
  where
    take_nothing : {A : Type 0} (k : ℕ) → take {A = A} k [] ≡ []
    take_nothing zero = refl
    take_nothing (suc k) = refl

    drop_nothing : {A : Type 0} (k : ℕ) → drop {A = A} k [] ≡ []
    drop_nothing zero = refl
    drop_nothing (suc k) = refl
take_on (x ∷ xs) zero j le = ap (λ n. take n (x ∷ xs)) (less_none j)
take_on (x ∷ xs) (suc i) zero le = absurd (omega (arith, le))
take_on (x ∷ xs) (suc i) (suc j) le =
    ap (λ ys. x ∷ ys) (ap (λ n. take i xs ++ take n (drop i xs)) (less_both i j) ∙ take_on xs i j (omega (arith, le)))

pub one_only : {A : Type 0} (xs : List A) (x : A) → 1 ≤ length xs → length xs < 2 → x ≡ get_or xs 0 x → xs ≡ x ∷ []
one_only [] x some few is = absurd (omega (arith, some))
one_only (y ∷ []) x some few is = ap (λ z. z ∷ []) (sym is)
one_only (y ∷ z ∷ zs) x some few is = absurd (omega (arith, few))

-- the desk at this place has a front
pub front_at : (list : List Op) (desks : List Desk) (k : ℕ) (d : Desk) → k < length desks → d ≡ get_or desks k d → All (IsFront list) desks → IsFront list d
front_at list desks k d less is all = subst (IsFront list) (sym is) (All-get_or (IsFront list) desks k d less all)

-- the place of a desk
pub place_of_desk : (desk : ℕ) → 0 < desk → desk ≡ suc (desk - 1)
place_of_desk desk some = omega (arith, some)

pub desk_within : (desks : List Desk) (desk : ℕ) → 0 < desk → desk ≤ length (views_of desks) → desk - 1 < length desks
desk_within desks desk some within = let same = views_length desks in omega (arith, some, within, same)

-- a desk that is to see more
pub lags : (desks : List Desk) (k desk : ℕ) (d : Desk) (seen count length_is upto : ℕ) → desk ≡ suc k → k < length desks → d ≡ get_or desks k d
    → item_at (views_of desks) desk ≡ Some seen → d.seen < count → count ≡ min upto length_is → seen < min upto length_is
lags desks k desk d seen count length_is upto desk_is less is at more counted =
    let was : d.seen ≡ seen = seen_at desks k d seen less is (subst (λ n. item_at (views_of desks) n ≡ Some seen) desk_is at) in
    omega (arith, was, more, counted)

-- a desk that has looked
pub looked : (list : List Op) (desks : List Desk) (k desk : ℕ) (d d' : Desk) (seen upto count : ℕ) → desk ≡ suc k → k < length desks → d ≡ get_or desks k d
    → item_at (views_of desks) desk ≡ Some seen → d'.seen ≡ max d.seen count → count ≡ min upto (length list)
    → ◌≡◌ {A = ListingState} (record { published = list; views = views_of (set desks k d') })
    (with_seen (record { published = list; views = views_of desks }) desk (max seen (min upto (length list))))
looked list desks k desk d d' seen upto count desk_is less is at risen counted =
    let was : d.seen ≡ seen = seen_at desks k d seen less is (subst (λ n. item_at (views_of desks) n ≡ Some seen) desk_is at) in
    let sees : d'.seen ≡ max seen (min upto (length list)) = risen ∙ (λ i. max (was i) (counted i)) in
    λ i. record {
      published = list;
      views = (views_with desks k d' ∙ (λ j. with_item (views_of desks) ((sym desk_is) j) (sees j))) i;
    }

views_push : (desks : List Desk) (d : Desk) → views_of (desks ++ d ∷ []) ≡ views_of desks ++ d.seen ∷ []
views_push [] d = refl
views_push (x ∷ desks) d = ap (λ ys. x.seen ∷ ys) (views_push desks d)

items_length : (count : ℕ) (item : ℕ → ℕ) → length (items_to count item) ≡ count
items_length zero item = refl
items_length (suc last) item =
    let more = length-append (items_to last item) (item (suc last) ∷ []) in
    let before = items_length last item in omega (arith, more, before)

-- so many desks that each see all
pub record AreNew (all : List Op) (count : ℕ) (desks : List Desk) : Type 0 where
  pub views : views_of desks ≡ items_to count (λ desk. length all)
  pub fronts : All (IsFront all) desks

pub none_new : (all : List Op) (desks : List Desk) → desks ≡ [] → AreNew all 0 desks
none_new all desks none = subst (AreNew all 0) (sym none) (record { views = refl; fronts = All-nil (IsFront all) })

-- a desk that sees the whole list
pub sees_whole : (all : List Op) (d : Desk) → d.seen ≡ length all → d.list ≡ all → (d.seen ≡ length all) × IsFront all d
sees_whole all d seen list = (
  seen,
  record {
    within = omega (arith, seen);
    front = list ∙ sym (ap (λ n. take n all) seen ∙ take-length all);
  },
)

pub one_new : (all : List Op) (count : ℕ) (desks desks' : List Desk) (d : Desk) → AreNew all count desks → desks' ≡ desks ++ d ∷ []
    → (d.seen ≡ length all) × IsFront all d → AreNew all (count + 1) desks'
one_new all count desks desks' d h pushed is = subst (AreNew all (count + 1)) (sym pushed) (subst (λ n. AreNew all n (desks ++ d ∷ [])) next (record {
  views = views_push desks d ∙ (λ i. h.views i ++ is.0 i ∷ []);
  fronts = All-push (IsFront all) desks d h.fronts is.1;
}))
  where
    next : suc count ≡ count + 1
    next = omega arith

pub new_count : (all : List Op) (count : ℕ) (desks : List Desk) → AreNew all count desks → length desks ≡ count
new_count all count desks h = sym (views_length desks) ∙ ap length h.views ∙ items_length count (λ desk. length all)

less_of : (m n : ℕ) → is_lt (nat_cmp m n) ≡ true → m < n
less_of m n e = grind (arith, nat_tests)

not_less_of : (m n : ℕ) → is_lt (nat_cmp m n) ≡ false → n ≤ m
not_less_of m n e = grind (arith, nat_tests)

-- the lesser of two numbers
pub least_is : (a b : ℕ) → ord_min nat_cmp a b ≡ min a b
least_is a b = by_test (is_lt (nat_cmp b a)) refl
  where
    by_test : (t : Bool) → is_lt (nat_cmp b a) ≡ t → cond t b a ≡ min a b
    by_test true e = let less = less_of b a e in omega (arith, less)
    by_test false e = let more = not_less_of b a e in omega (arith, more)

pub sees_all : (seen count : ℕ) → seen ≤ count → max seen count ≡ count
sees_all seen count le = omega (arith, le)

-- ---- a job is done at its bench

pub with_here : (b : BenchesState) (next : ℕ) (all : List BenchState) (k : ℕ) (job : Job) (left : BenchState) → suc k ≡ bench_at b job
    → ◌≡◌ {A = BenchesState} (record { procs = next; benches = all }) (counted b job)
    → ◌≡◌ {A = BenchesState} (record { procs = next; benches = set all k left })
    (record { procs = procs_after (length b.benches) b.procs job; benches = with_item b.benches (bench_at b job) left })
with_here b next all k job left place same = λ i. record {
  procs = ap (λ (t : BenchesState). t.procs) same i;
  benches = (ap (λ (t : BenchesState). set t.benches k left) same ∙ sym (with_item_is b.benches k left) ∙ ap (λ n. with_item b.benches n left) place) i;
}

-- ---- what is put at the end

-- nobody is told
pub extended_unseen : (list list' : List Op) (desks : List Desk) (op : Op) (maker : Option Pid) (desk : ℕ) → list' ≡ list ++ op ∷ []
    → (desk ≡ 0) ⊎ (length desks < desk)
    → ◌≡◌ {A = ListingState} (record { published = list'; views = views_of desks })
    (extended (record { published = list; views = views_of desks }) (Ordered op maker (Some desk)))
extended_unseen list list' desks op maker desk list_is none = λ i. record {
  published = list_is i;
  views = sym (unseen none) i;
}
  where
    unseen : (desk ≡ 0) ⊎ (length desks < desk) → with_item (views_of desks) desk (length (list ++ op ∷ [])) ≡ views_of desks
    unseen (inl zero_is) = ap (λ k. with_item (views_of desks) k (length (list ++ op ∷ []))) zero_is ∙ item_none _ (views_of desks)
    unseen (inr more) = let same = views_length desks in no_item _ (views_of desks) desk (omega (arith, more, same))

-- its desk sees all
pub extended_seen : (list list' : List Op) (desks : List Desk) (k : ℕ) (d d' : Desk) (count : ℕ) (op : Op) (maker : Option Pid) (desk : ℕ) → list' ≡ list ++ op ∷ []
    → desk ≡ suc k → IsFront list d → d'.seen ≡ max d.seen count → count ≡ length list'
    → ◌≡◌ {A = ListingState} (record { published = list'; views = views_of (set desks k d') })
    (extended (record { published = list; views = views_of desks }) (Ordered op maker (Some desk)))
extended_seen list list' desks k d d' count op maker desk list_is desk_is front risen counted =
    let longer = length-append list (op ∷ []) in
    let all : d'.seen ≡ length (list ++ op ∷ []) =
    risen ∙ sees_all d.seen count (omega (arith, front.within, counted, ap length list_is, longer)) ∙ counted ∙ ap length list_is in
    λ i. record {
      published = list_is i;
      views = (views_with desks k d' ∙ (λ j. with_item (views_of desks) ((sym desk_is) j) (all j))) i;
    }

pub undone : (list list' : List Op) (desks desks' : List Desk) → IsListing list desks → list' ≡ list → desks' ≡ desks → IsListing list' desks'
undone list list' desks desks' h list_is desks_is =
    subst (λ l. IsListing l desks') (sym list_is) (subst (IsListing list) (sym desks_is) h)

-- ---- what a desk has seen, as a set

listed_all : (list : List Op) → Within (Listed list) (Listed (sets.members (of_list {R = op_cmp} list)))
listed_all list op h = let all = of_list {R = op_cmp} list in member_listed all op ((listed_in list all refl op).0 h)

all_listed : (list : List Op) → Within (Listed (sets.members (of_list {R = op_cmp} list))) (Listed list)
all_listed list op h = let all = of_list {R = op_cmp} list in (listed_in list all refl op).1 (listed_member all op h)

-- a job under what a desk sees
pub does_at : (list : List Op) (desks : List Desk) (desk : ℕ) (d : Desk) (seen : ℕ) → 0 < desk → desk - 1 < length desks → d ≡ get_or desks (desk - 1) d
    → All (IsFront list) desks → item_at (views_of desks) desk ≡ Some seen
    → (b : BenchState) (job : Job) (result : Result Outcome Refusal) (left : BenchState) → Does (Listed d.list) b job result left
    → Does (first_ops seen list) b job result left
does_at list desks desk d seen some less is all at b job result left does =
    let front = front_at list desks (desk - 1) d less is all in
    let was : d.seen ≡ seen = seen_at desks (desk - 1) d seen less is (subst (λ n. item_at (views_of desks) n ≡ Some seen) (place_of_desk desk some) at) in
    subst (λ (l : List Op). Does (Listed (sets.members (of_list {R = op_cmp} l))) b job result left) (front.front ∙ ap (λ n. take n list) was)
    (does_same (listed_all d.list) (all_listed d.list) does)
