-- A finite set of keys in an order, with its members as a list that rises. It is std's finite map with nothing at
-- each key, as `FinSet` is, which hides that its items rise.
--     SetBy R, code        of keys in the order R;  its code, from that of the keys
--     empty, contains, insert, remove, union, members, of_list      as Rust's `BTreeSet`
--     same_set             where only equal keys tie, two sets with the same members are equal
use Rattle.std.specs.Prelude.{◌≡◌, ◌↔◌, ℕ, suc, ◌+◌, Bool, true, false, cond, not, ◌&&◌, ◌||◌, List, [], ◌∷◌, map as mapped, length, Option, Some, None, is_some, refl, T}
use Rattle.std.proofs.Common.{sym, ap, subst, ◌∙◌}
use Rattle.std.specs.Coded.{Coded}
use base.Stored.{coded_unit}
use Rattle.std.specs.declared.cmp.Ordering.{Ordering}
use Rattle.std.specs.declared.cmp.Ordering.TheVariants.{Less, Equal, Greater}
use Rattle.std.specs.Cmp.{IsTotalOrder}
use Rattle.std.specs.FinMap as map
use Rattle.std.specs.FinMap.{FinMap, IsAntisymmetric}
use Rattle.std.specs.FinMap.Entries.{is_sorted, below_all, is_some-find}
use Rattle.std.specs.List.{list_any, AllByRecursion}
use Rattle.std.specs.List.Sorted.{IsStrictlySortedBy}
use Rattle.std.specs.Ordering.{eq_by_cmp, is_lt}

abbrev pub SetBy : {K : Type 0} → (K → K → Ordering) → Type 0
SetBy R = FinMap R (Unit {0})

abbrev pub code : {K : Type 0} {R : K → K → Ordering} → Coded K → Coded (SetBy R)
code k = map.code k coded_unit

abbrev marked : {K : Type 0} → List K → List (K × Unit {0})
marked [] = []
marked (k ∷ ks) = (k, tt) ∷ marked ks

length-keys : {K : Type 0} (es : List (K × Unit {0})) → length (mapped (λ (e : K × Unit {0}). e.0) es) ≡ length es
length-keys [] = refl
length-keys (e ∷ es) = ap suc (length-keys es)

keys-marked : {K : Type 0} (ks : List K) → mapped (λ (e : K × Unit {0}). e.0) (marked ks) ≡ ks
keys-marked [] = refl
keys-marked (k ∷ ks) = ap (λ t. k ∷ t) (keys-marked ks)

Some-or : (b : Bool) (x : Option (Unit {0})) → is_some (cond b (Some tt) x) ≡ (b || is_some x)
Some-or true x = refl
Some-or false x = refl

none_or : (b : Bool) (x : Option (Unit {0})) → is_some (cond b None x) ≡ (not b && is_some x)
none_or true x = refl
none_or false x = refl

mark : (x : Option (Unit {0})) → x ≡ cond (is_some x) (Some tt) None
mark None = refl
mark (Some u) = refl

less : (r : Ordering) → T (is_lt r) → r ≡ Less
less Less h = refl
less Equal h = absurd h
less Greater h = absurd h

both_true : (a b : Bool) → T (a && b) → T a × T b
both_true true b h = (tt, h)
both_true false b h = absurd h

true_of : (b : Bool) → T b → b ≡ true
true_of true h = refl
true_of false h = absurd h

-- a list of entries rises where its keys do
module _ {K : Type 0} (R : K → K → Ordering) where
  below_from : (k : K) (es : List (K × Unit {0})) → T (below_all R k es)
      → AllByRecursion (λ y. R k y ≡ Less) (mapped (λ e. e.0) es)
  below_from k [] h = tt
  below_from k (e ∷ es) h = let h = both_true _ _ h in (less _ h.0, below_from k es h.1)

  rise_from : (es : List (K × Unit {0})) → T (is_sorted R es) → IsStrictlySortedBy R (mapped (λ e. e.0) es)
  unfolding IsStrictlySortedBy
  rise_from [] h = tt
  rise_from (e ∷ es) h = let h = both_true _ _ h in (below_from e.0 es h.0, rise_from es h.1)

  below_to : (k : K) (ks : List K) → AllByRecursion (λ y. R k y ≡ Less) ks → T (below_all R k (marked ks))
  below_to k [] h = tt
  below_to k (x ∷ ks) h = subst (λ r. T (is_lt r && below_all R k (marked ks))) (sym h.0) (below_to k ks h.1)

  rise_to : (ks : List K) → IsStrictlySortedBy R ks → T (is_sorted R (marked ks))
  unfolding IsStrictlySortedBy
  rise_to [] h = tt
  rise_to (k ∷ ks) h =
      subst (λ b. T (b && is_sorted R (marked ks))) (sym (true_of _ (below_to k ks h.0))) (rise_to ks h.1)

module _ {K : Type 0} {R : K → K → Ordering} where
  pub empty : SetBy R
  empty = map.empty

  pub contains : SetBy R → K → Bool
  contains s q = is_some (map.get s q)

  pub insert : SetBy R → K → SetBy R
  insert s k = map.insert s k tt

  pub remove : SetBy R → K → SetBy R
  remove s k = map.remove s k

  -- in order
  pub members : SetBy R → List K
  members s = map.keys s

  pub len : SetBy R → ℕ
  len s = length (members s)

  -- of any list's items
  abbrev pub of_list : List K → SetBy R
  of_list [] = empty
  of_list (k ∷ ks) = insert (of_list ks) k

  abbrev pub insert_all : SetBy R → List K → SetBy R
  insert_all s [] = s
  insert_all s (k ∷ ks) = insert (insert_all s ks) k

  pub union : SetBy R → SetBy R → SetBy R
  union s t = insert_all s (members t)

  pub len-members : (s : SetBy R) → len s ≡ length (members s)
  unfolding len
  len-members s = refl

  pub contains-members : (s : SetBy R) (q : K) → contains s q ≡ list_any (eq_by_cmp R q) (members s)
  unfolding contains members
  contains-members s q = map.contains_key-keys s q

  pub members_rise : (s : SetBy R) → IsStrictlySortedBy R (members s)
  unfolding members
  members_rise s = rise_from R (map.entries s) (map.entries_sorted s)

-- q is a member of s alone
pub record IsMissing {K : Type 0} {R : K → K → Ordering} (s t : SetBy R) (q : K) : Type 0 where
  pub here : contains s q ≡ true
  pub not_there : contains t q ≡ false

pub contains-empty : {K : Type 0} (R : K → K → Ordering) (q : K) → contains (empty {R = R}) q ≡ false
unfolding contains empty
contains-empty R q = ap is_some (map.get-empty R q)

pub len-empty : {K : Type 0} (R : K → K → Ordering) → len (empty {R = R}) ≡ 0
unfolding len members empty
len-empty R = length-keys (map.entries (empty {R = R})) ∙ sym (map.len-entries (empty {R = R})) ∙ map.len-empty R _

module _ {K : Type 0} {R : K → K → Ordering} (o : IsTotalOrder R) where
  pub contains_tied : (s : SetBy R) (q x : K) → R q x ≡ Equal → contains s x ≡ contains s q
  unfolding contains
  contains_tied s q x t = ap is_some (map.get_tied o s q x t)

  pub contains-insert : (s : SetBy R) (k q : K) → contains (insert s k) q ≡ (eq_by_cmp R q k || contains s q)
  unfolding contains insert
  contains-insert s k q = ap is_some (map.get-insert o s k tt q) ∙ Some-or _ _

  pub contains-remove : (s : SetBy R) (k q : K) → contains (remove s k) q ≡ (not (eq_by_cmp R q k) && contains s q)
  unfolding contains remove
  contains-remove s k q = ap is_some (map.get-remove o s k q) ∙ none_or _ _

  pub contains-of_list : (ks : List K) (q : K) → contains (of_list {R = R} ks) q ≡ list_any (eq_by_cmp R q) ks
  contains-of_list [] q = contains-empty R q
  contains-of_list (k ∷ ks) q = contains-insert _ k q ∙ ap (λ b. eq_by_cmp R q k || b) (contains-of_list ks q)

  or_swap : (a b c : Bool) → (a || (b || c)) ≡ (b || (a || c))
  or_swap true true c = refl
  or_swap true false c = refl
  or_swap false b c = refl

  or-false : (a : Bool) → a ≡ (a || false)
  or-false true = refl
  or-false false = refl

  contains-insert_all : (s : SetBy R) (ks : List K) (q : K)
      → contains (insert_all s ks) q ≡ (contains s q || list_any (eq_by_cmp R q) ks)
  contains-insert_all s [] q = or-false _
  contains-insert_all s (k ∷ ks) q =
      contains-insert _ k q
      ∙ ap (λ b. eq_by_cmp R q k || b) (contains-insert_all s ks q)
      ∙ or_swap (eq_by_cmp R q k) (contains s q) _

  pub contains-union : (s t : SetBy R) (q : K) → contains (union s t) q ≡ (contains s q || contains t q)
  unfolding union
  contains-union s t q = contains-insert_all s (members t) q ∙ ap (λ b. contains s q || b) (sym (contains-members t q))

  pub len-insert : (s : SetBy R) (k : K) → len (insert s k) ≡ cond (contains s k) (len s) (len s + 1)
  unfolding len members insert contains
  len-insert s k =
      length-keys (map.entries (map.insert s k tt))
      ∙ sym (map.len-entries (map.insert s k tt))
      ∙ map.len-insert o s k tt
      ∙ ap (λ n. cond (is_some (map.get s k)) n (n + 1)) (map.len-entries s ∙ sym (length-keys (map.entries s)))

  module _ (exact : IsAntisymmetric R) where
    pub same_set : (s t : SetBy R) → ((q : K) → contains s q ≡ contains t q) → s ≡ t
    unfolding contains
    same_set s t is = map.same_map o exact s t (λ q. mark _ ∙ ap (λ b. cond b (Some tt) None) (is q) ∙ sym (mark _))

    -- a set is that of its members
    pub of_list-members : (s : SetBy R) → of_list (members s) ≡ s
    of_list-members s = same_set _ s (λ q. contains-of_list (members s) q ∙ sym (contains-members s q))

    -- a list that rises has the members of its set
    pub members-of_list : (ks : List K) → IsStrictlySortedBy R ks → members (of_list {R = R} ks) ≡ ks
    unfolding members contains
    members-of_list ks up =
        let sorted = rise_to R ks up in
        let same : of_list {R = R} ks ≡ map.from_sorted (marked ks) = same_set _ _ (λ q.
        contains-of_list ks q
        ∙ ap (list_any (eq_by_cmp R q)) (sym (keys-marked ks))
        ∙ sym (is_some-find R q (marked ks))
        ∙ ap is_some (sym (map.get-from_sorted R (marked ks) q sorted))) in
        ap members same
        ∙ ap (mapped (λ (e : K × Unit {0}). e.0)) (map.entries-from_sorted R (marked ks) sorted)
        ∙ keys-marked ks

-- the members of s, as a predicate
abbrev pub In : {K : Type 0} {R : K → K → Ordering} → SetBy R → K → Type 0
In s q = contains s q ≡ true

-- each member of one is a member of the other
abbrev pub SameMembers : {K : Type 0} {R : K → K → Ordering} → SetBy R → SetBy R → Type 0
SameMembers {K} s t = (q : K) → In s q ↔ In t q
