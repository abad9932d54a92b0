-- Operations by node: all of them as one list, and what a search by node says of it.
use Rattle.std.proofs.Common.{◌≡◌, ◌≢◌, inl, inr, ℕ, zero, suc, ◌+◌, ◌-◌, ◌<◌, ◌≤◌, List, [], ◌∷◌, ◌++◌, length, get_or, take, drop, set, refl, sym, ap, subst, ◌∙◌, Ordering, Less, Equal, Greater, Err, append-nil, arith}
use Rattle.std.specs.Cmp.{IsTotalOrder, nat_cmp_is, nat_cmp_total}
use Rattle.std.specs.List.{All, AllByRecursion, Contains, insert}
use Rattle.std.specs.List.Sorted.{IsStrictlySortedBy, IsNonDecreasingBy, IsPartitionPoint, IsSearchInRange, IsBinarySearchResult}
use Rattle.std.specs.Ordering.{is_lt, nat_cmp, ordering_index, ordering_then}
use Rattle.std.proofs.lemmas.Bool.{cases_lt, cases_order}
use Rattle.std.proofs.lemmas.Bool.Decides.{nat_tests}
use Rattle.std.proofs.lemmas.Cmp.{on_total}
use Rattle.std.proofs.lemmas.List.{take-append-drop, drop_more, take_more, set_split, get_or_default}
use Rattle.std.proofs.lemmas.List.Concat.{flat_map-append}
use Rattle.std.proofs.lemmas.List.Elements.{recursion_from_All, All-head, All-tail, All-append, All-cons, All-take, All-drop, All-set, All-contains, Contains-get_or, Contains-append_left, Contains-append_right, Contains-append_cases}
use Rattle.std.proofs.lemmas.List.Sorted.{searchable_from_sorted}
use Rattle.std.proofs.lemmas.Map.Keys.{sorted_head, sorted_tail, Less-from_sorted}
use Rattle.fl_labels.specs.laws.Rising.{rising_insert}
use Rattle.fl_ops.specs.declared.op.Op.{Op}
use Rattle.fl_ops.specs.OpOrder.{op_cmp}
use Rattle.fl_opset.specs.declared.node_ops.NodeOps.{NodeOps}
use Rattle.fl_opset.specs.ByNode.{all_ops, node_order, AreOfNode, AreByNode}

-- ---- lists that rise

all_joined : {K : Type 0} (P : K → Type 0) (xs ys : List K) → AllByRecursion P xs → AllByRecursion P ys → AllByRecursion P (xs ++ ys)
all_joined P [] ys h g = g
all_joined P (x ∷ xs) ys h g = (h.0, all_joined P xs ys h.1 g)

weaker : {K : Type 0} (P Q : K → Type 0) → ((x : K) → P x → Q x) → (xs : List K) → AllByRecursion P xs → AllByRecursion Q xs
weaker P Q f [] h = tt
weaker P Q f (x ∷ xs) h = (f x h.0, weaker P Q f xs h.1)

all_taken : {K : Type 0} (P : K → Type 0) (i : ℕ) (xs : List K) → AllByRecursion P xs → AllByRecursion P (take i xs)
all_taken P zero xs h = tt
all_taken P (suc i) [] h = tt
all_taken P (suc i) (x ∷ xs) h = (h.0, all_taken P i xs h.1)

module _ {K : Type 0} (R : K → K → Ordering) where
  pub rise_none : IsStrictlySortedBy R []
  unfolding IsStrictlySortedBy
  rise_none = tt

  -- two lists that rise, of which each of the first is below each of the second
  pub rise_joined : (xs ys : List K) → IsStrictlySortedBy R xs → IsStrictlySortedBy R ys
      → AllByRecursion (λ x. AllByRecursion (λ y. R x y ≡ Less) ys) xs → IsStrictlySortedBy R (xs ++ ys)
  unfolding IsStrictlySortedBy
  rise_joined [] ys up_xs up_ys below = up_ys
  rise_joined (x ∷ xs) ys up_xs up_ys below = (all_joined _ xs ys up_xs.0 below.0, rise_joined xs ys up_xs.1 up_ys below.1)

  pub front_rises : (i : ℕ) (xs : List K) → IsStrictlySortedBy R xs → IsStrictlySortedBy R (take i xs)
  unfolding IsStrictlySortedBy
  front_rises zero xs up = tt
  front_rises (suc i) [] up = tt
  front_rises (suc i) (x ∷ xs) up = (all_taken _ i xs up.0, front_rises i xs up.1)

  pub back_rises : (i : ℕ) (xs : List K) → IsStrictlySortedBy R xs → IsStrictlySortedBy R (drop i xs)
  back_rises zero xs up = up
  back_rises (suc i) [] up = up
  back_rises (suc i) (x ∷ xs) up = back_rises i xs (sorted_tail R x xs up)

-- ---- all operations

pub all_of_both : (ms ns : List NodeOps) → all_ops (ms ++ ns) ≡ all_ops ms ++ all_ops ns
all_of_both ms ns = flat_map-append (λ (it : NodeOps). it.ops.items) ms ns

pub all_parts : (ns : List NodeOps) (i : ℕ) → all_ops ns ≡ all_ops (take i ns) ++ all_ops (drop i ns)
all_parts ns i = ap (λ l. all_ops l) (sym (take-append-drop i ns)) ∙ all_of_both (take i ns) (drop i ns)

-- about the entry at a place
pub all_split : (ns : List NodeOps) (i : ℕ) (it : NodeOps) → i < length ns → it ≡ get_or ns i it
    → all_ops ns ≡ all_ops (take i ns) ++ (it.ops.items ++ all_ops (drop (i + 1) ns))
all_split ns i it inside is =
    all_parts ns i
    ∙ ap (λ l. all_ops (take i ns) ++ all_ops l) (drop_more ns i it inside ∙ ap (λ x. x ∷ drop (i + 1) ns) (sym is))

-- with another entry there
pub all_set : (ns : List NodeOps) (i : ℕ) (it : NodeOps) → i < length ns
    → all_ops (set ns i it) ≡ all_ops (take i ns) ++ (it.ops.items ++ all_ops (drop (i + 1) ns))
all_set ns i it inside =
    let next : suc i ≡ i + 1 = omega arith in
    ap (λ l. all_ops l) (set_split ns i it inside ∙ ap (λ n. take i ns ++ it ∷ drop n ns) next)
    ∙ all_of_both (take i ns) (it ∷ drop (i + 1) ns)

-- with one more entry there
pub all_insert : (ns : List NodeOps) (i : ℕ) (it : NodeOps)
    → all_ops (insert ns i it) ≡ all_ops (take i ns) ++ (it.ops.items ++ all_ops (drop i ns))
all_insert ns i it = all_of_both (take i ns) (it ∷ drop i ns)

-- and one that has no operation
pub all_insert_none : (ns : List NodeOps) (i : ℕ) (it : NodeOps) → it.ops.items ≡ [] → all_ops (insert ns i it) ≡ all_ops ns
all_insert_none ns i it none =
    all_insert ns i it ∙ ap (λ xs. all_ops (take i ns) ++ (xs ++ all_ops (drop i ns))) none ∙ sym (all_parts ns i)

pub all_push : (ns : List NodeOps) (it : NodeOps) → all_ops (ns ++ it ∷ []) ≡ all_ops ns ++ it.ops.items
all_push ns it = all_of_both ns (it ∷ []) ∙ ap (λ xs. all_ops ns ++ xs) (append-nil it.ops.items)

-- one more entry of a walk
pub all_more : (ns : List NodeOps) (i : ℕ) (it : NodeOps) → i < length ns → it ≡ get_or ns i it
    → all_ops (take (i + 1) ns) ≡ all_ops (take i ns) ++ it.ops.items
all_more ns i it inside is =
    ap (λ l. all_ops l) (take_more ns i it inside ∙ ap (λ x. take i ns ++ x ∷ []) (sym is)) ∙ all_push (take i ns) it

-- ---- entries that are by node

pub node_total : IsTotalOrder node_order
node_total = on_total (λ (it : NodeOps). it.node) nat_cmp_total

nat_less : (m n : ℕ) → m < n → nat_cmp m n ≡ Less
nat_less m n h = sym (nat_cmp_is m n Less h)

nat_greater : (m n : ℕ) → n < m → nat_cmp m n ≡ Greater
nat_greater m n h = sym (nat_cmp_is m n Greater h)

pub from_less : (m n : ℕ) → nat_cmp m n ≡ Less → m < n
from_less m n h = grind (arith, nat_tests)

pub from_equal : (m n : ℕ) → nat_cmp m n ≡ Equal → m ≡ n
from_equal m n h = grind (arith, nat_tests)

pub from_greater : (m n : ℕ) → nat_cmp m n ≡ Greater → n < m
from_greater m n h = grind (arith, nat_tests)

first_part : (p q r : Ordering) → p ≡ Less → ordering_then (ordering_then p q) r ≡ Less
first_part p q r e = ap (λ o. ordering_then (ordering_then o q) r) e

-- operations are compared by node first
pub node_below : (a b : Op) → a.name.node < b.name.node → op_cmp a b ≡ Less
node_below a b h = first_part _ _ _ (nat_less a.name.node b.name.node h)

-- what holds of the nodes holds of those of the operations
all_own : (P : ℕ → Type 0) (ns : List NodeOps) → AllByRecursion (λ it. P it.node) ns → All AreOfNode ns
    → AllByRecursion (λ op. P op.name.node) (all_ops ns)
all_own P [] h each = tt
all_own P (it ∷ ns) h each =
    all_joined (λ op. P op.name.node) it.ops.items (all_ops ns)
    (weaker (λ (op : Op). op.name.node ≡ it.node) (λ op. P op.name.node) (λ op e. subst P (sym e) h.0) it.ops.items
    (recursion_from_All (λ (op : Op). op.name.node ≡ it.node) it.ops.items (All-head AreOfNode it ns each).own))
    (all_own P ns h.1 (All-tail AreOfNode it ns each))

pub tail_by_node : (it : NodeOps) (ns : List NodeOps) → AreByNode (it ∷ ns) → AreByNode ns
tail_by_node it ns a = record { rise = sorted_tail node_order it ns a.rise; each = All-tail AreOfNode it ns a.each }

pub none_by_node : AreByNode []
none_by_node = record { rise = rise_none node_order; each = λ k d inside. absurd (omega arith) }

-- all of them rise
pub all_rise : (ns : List NodeOps) → AreByNode ns → IsStrictlySortedBy op_cmp (all_ops ns)
unfolding IsStrictlySortedBy
all_rise [] a = tt
all_rise (it ∷ ns) a =
    let here = All-head AreOfNode it ns a.each in
    let above = weaker (λ (m : NodeOps). node_order it m ≡ Less) (λ m. it.node < m.node) (λ m e. from_less it.node m.node e) ns (sorted_head node_order it ns a.rise) in
    rise_joined op_cmp it.ops.items (all_ops ns) here.rise (all_rise ns (tail_by_node it ns a))
    (weaker (λ (x : Op). x.name.node ≡ it.node) (λ x. AllByRecursion (λ y. op_cmp x y ≡ Less) (all_ops ns))
    (λ x own. weaker (λ (y : Op). it.node < y.name.node) (λ y. op_cmp x y ≡ Less) (λ y h. node_below x y (omega arith)) (all_ops ns)
    (all_own (λ n. it.node < n) ns above (All-tail AreOfNode it ns a.each)))
    it.ops.items (recursion_from_All (λ (x : Op). x.name.node ≡ it.node) it.ops.items here.own))

below_set : (n : ℕ) (ns : List NodeOps) (i : ℕ) (it m : NodeOps) → i < length ns → it ≡ get_or ns i it → m.node ≡ it.node
    → AllByRecursion (λ y. nat_cmp n y.node ≡ Less) ns → AllByRecursion (λ y. nat_cmp n y.node ≡ Less) (set ns i m)
below_set n [] i it m inside is same h = tt
below_set n (x ∷ ns) zero it m inside is same h = (ap (nat_cmp n) (same ∙ ap (λ (y : NodeOps). y.node) is) ∙ h.0, h.1)
below_set n (x ∷ ns) (suc i) it m inside is same h = (h.0, below_set n ns i it m (omega arith) is same h.1)

rise_set : (ns : List NodeOps) (i : ℕ) (it m : NodeOps) → i < length ns → it ≡ get_or ns i it → m.node ≡ it.node
    → IsStrictlySortedBy node_order ns → IsStrictlySortedBy node_order (set ns i m)
unfolding IsStrictlySortedBy
rise_set [] i it m inside is same up = tt
rise_set (x ∷ ns) zero it m inside is same up =
    let at : m.node ≡ x.node = same ∙ ap (λ (y : NodeOps). y.node) is in
    (weaker (λ (y : NodeOps). node_order x y ≡ Less) (λ y. node_order m y ≡ Less) (λ y e. ap (λ n. nat_cmp n y.node) at ∙ e) ns up.0, up.1)
rise_set (x ∷ ns) (suc i) it m inside is same up =
    (below_set x.node ns i it m (omega arith) is same up.0, rise_set ns i it m (omega arith) is same up.1)

-- an entry is replaced by another one of its node
pub set_by_node : (ns : List NodeOps) (i : ℕ) (it m : NodeOps) → i < length ns → it ≡ get_or ns i it → m.node ≡ it.node → AreOfNode m
    → AreByNode ns → AreByNode (set ns i m)
set_by_node ns i it m inside is same own a = record {
  rise = rise_set ns i it m inside is same a.rise;
  each = All-set AreOfNode ns i m own a.each;
}

-- ---- a search by node

-- the place at which an entry of the node would stand
pub record IsNodePlace (ns : List NodeOps) (node i : ℕ) : Type 0 where
  pub bound : i ≤ length ns
  pub below : (k : ℕ) (d : NodeOps) → k < i → (get_or ns k d).node < node
  pub above : (k : ℕ) (d : NodeOps) → i ≤ k → k < length ns → node < (get_or ns k d).node

node_place : (ns : List NodeOps) (node i : ℕ) → i ≤ length ns
    → IsPartitionPoint (λ it. nat_cmp it.node node ≡ Less) (λ it. nat_cmp it.node node ≡ Greater) ns i → IsNodePlace ns node i
node_place ns node i bound at = record {
  bound = bound;
  below = λ k d low. from_less _ node (at.0 k d (omega arith) low);
  above = λ k d low high. from_greater _ node (at.1 k d low high);
}

node_searchable : (ns : List NodeOps) (node : ℕ) → IsStrictlySortedBy node_order ns → IsNonDecreasingBy (λ it. ordering_index (nat_cmp it.node node)) ns
node_searchable ns node up = searchable_from_sorted nat_cmp_total (λ (it : NodeOps). it.node) ns node
    (λ k d low high. ap is_lt (nat_greater (get_or ns (k + 1) d).node (get_or ns k d).node (from_less (get_or ns k d).node (get_or ns (k + 1) d).node (Less-from_sorted node_order ns k (k + 1) d up (omega arith) high))))

-- where a search ended
pub missed_node : (ns : List NodeOps) (node i : ℕ) → AreByNode ns → IsSearchInRange (Err i) (length ns)
    → IsBinarySearchResult (λ it. nat_cmp it.node node) ns (Err i) → IsNodePlace ns node i
missed_node ns node i a bound at = node_place ns node i bound (at (node_searchable ns node a.rise))

-- each entry is below a node that is above the last
pub last_below : (ns : List NodeOps) (node : ℕ) (last : NodeOps) → IsStrictlySortedBy node_order ns
    → ((d : NodeOps) → last ≡ get_or ns (length ns - 1) d) → last.node < node
    → IsPartitionPoint (λ it. nat_cmp it.node node ≡ Less) (λ it. nat_cmp it.node node ≡ Greater) ns (length ns)
last_below ns node last up is less = (λ k d _ inside. nat_less _ node (under k d inside), λ k d low high. absurd (omega arith))
  where
    under : (k : ℕ) (d : NodeOps) → k < length ns → (get_or ns k d).node < node
    under k d inside =
        let at = ap (λ (it : NodeOps). it.node) (is d) in
        elim (cases_lt k (length ns - 1)) [
          | inl before ↦
              let up_to : (get_or ns k d).node < (get_or ns (length ns - 1) d).node = from_less _ _ (Less-from_sorted node_order ns k (length ns - 1) d up before (omega arith)) in
              omega arith
          | inr end ↦
              let here : k ≡ length ns - 1 = omega arith in
              let same = ap (λ n. (get_or ns n d).node) here in
              omega arith
        ]

-- what was found is the node's
pub found_node : (ns : List NodeOps) (node i : ℕ) (it : NodeOps) → ((d : NodeOps) → nat_cmp (get_or ns i d).node node ≡ Equal) → it ≡ get_or ns i it
    → it.node ≡ node
found_node ns node i it at is = ap (λ (y : NodeOps). y.node) is ∙ from_equal _ node (at it)

-- an entry is put in where a search ended
pub insert_by_node : (ns : List NodeOps) (i : ℕ) (it : NodeOps) → IsNodePlace ns it.node i → AreOfNode it → AreByNode ns → AreByNode (insert ns i it)
insert_by_node ns i it at own a = record {
  rise = rising_insert node_total ns it i a.rise at.bound
      (λ k d _ low. nat_less _ it.node (at.below k d low), λ k d low high. nat_greater _ it.node (at.above k d low high));
  each = All-append AreOfNode (take i ns) (it ∷ drop i ns) (All-take AreOfNode i ns a.each)
      (All-cons AreOfNode it (drop i ns) own (All-drop AreOfNode i ns a.each));
}

-- ---- an operation, and the entry that has it

pub entry_of : (ns : List NodeOps) (op : Op) → Contains (all_ops ns) op → (it : NodeOps) × Contains ns it × Contains it.ops.items op
entry_of [] op c = absurd (omega (arith, c.1))
entry_of (it ∷ ns) op c = elim (Contains-append_cases it.ops.items (all_ops ns) op c) [
  | inl here ↦ (it, (0, omega arith, refl), here)
  | inr later ↦
      let e = entry_of ns op later in
      (e.0, (suc e.1.0, omega (arith, e.1.1), e.1.2), e.2)
]

pub in_all : (ns : List NodeOps) (i : ℕ) (it : NodeOps) (op : Op) → i < length ns → it ≡ get_or ns i it → Contains it.ops.items op
    → Contains (all_ops ns) op
in_all ns i it op inside is c =
    subst (λ xs. Contains xs op) (sym (all_split ns i it inside is))
    (Contains-append_right (all_ops (take i ns)) (it.ops.items ++ all_ops (drop (i + 1) ns)) op
    (Contains-append_left it.ops.items (all_ops (drop (i + 1) ns)) op c))

pub own_node : (ns : List NodeOps) (i : ℕ) (it : NodeOps) (op : Op) → AreByNode ns → i < length ns → it ≡ get_or ns i it
    → Contains it.ops.items op → op.name.node ≡ it.node
own_node ns i it op a inside is c =
    let here : AreOfNode it = subst AreOfNode (sym is) (a.each i it inside) in
    All-contains (λ (op : Op). op.name.node ≡ it.node) it.ops.items op here.own c

-- an operation of the entry's node is the entry's
pub in_entry : (ns : List NodeOps) (i : ℕ) (it : NodeOps) (op : Op) → AreByNode ns → i < length ns → it ≡ get_or ns i it
    → op.name.node ≡ it.node → Contains (all_ops ns) op → Contains it.ops.items op
in_entry ns i it op a inside is of c =
    let e = entry_of ns op c in
    let own = own_node ns e.1.0 e.0 op a e.1.1 (sym e.1.2) e.2 in
    let here : get_or ns i e.0 ≡ it = get_or_default ns i e.0 it inside ∙ sym is in
    let there : (get_or ns e.1.0 e.0).node ≡ e.0.node = ap (λ (m : NodeOps). m.node) e.1.2 in
    let of_it : (get_or ns i e.0).node ≡ it.node = ap (λ (m : NodeOps). m.node) here in
    elim (cases_order e.1.0 i) [
      | inl same ↦
          let at : e.0 ≡ it = sym e.1.2 ∙ ap (λ k. get_or ns k e.0) same ∙ here in
          subst (λ (m : NodeOps). Contains m.ops.items op) at e.2
      | inr (inl before) ↦
          let less : (get_or ns e.1.0 e.0).node < (get_or ns i e.0).node = from_less _ _ (Less-from_sorted node_order ns e.1.0 i e.0 a.rise before inside) in
          absurd (omega arith)
      | inr (inr after) ↦
          let less : (get_or ns i e.0).node < (get_or ns e.1.0 e.0).node = from_less _ _ (Less-from_sorted node_order ns i e.1.0 e.0 a.rise after e.1.1) in
          absurd (omega arith)
    ]

-- where there is no entry of the node, there is no operation of it
pub none_of_node : (ns : List NodeOps) (node i : ℕ) (op : Op) → AreByNode ns → IsNodePlace ns node i → Contains (all_ops ns) op → op.name.node ≢ node
none_of_node ns node i op a at c same =
    let e = entry_of ns op c in
    let own = own_node ns e.1.0 e.0 op a e.1.1 (sym e.1.2) e.2 in
    let named = ap (λ (m : NodeOps). m.node) e.1.2 in
    elim (cases_lt e.1.0 i) [
      | inl before ↦ let less = at.below e.1.0 e.0 before in absurd (omega arith)
      | inr after ↦ let more = at.above e.1.0 e.0 after e.1.1 in absurd (omega arith)
    ]

pub all_none_of_node : (ns : List NodeOps) (node i : ℕ) → AreByNode ns → IsNodePlace ns node i → All (λ op. op.name.node ≢ node) (all_ops ns)
all_none_of_node ns node i a at k d inside = none_of_node ns node i _ a at (Contains-get_or (all_ops ns) k d inside)

pub empty_of_node : (it : NodeOps) → it.ops.items ≡ [] → AreOfNode it
empty_of_node it none = record {
  rise = subst (IsStrictlySortedBy op_cmp) (sym none) (rise_none op_cmp);
  own = λ k d inside. absurd (omega (arith, ap length none));
}

-- each entry stays where one is put in
pub each_kept : (ns : List NodeOps) (i : ℕ) (it : NodeOps) → All (Contains (insert ns i it)) ns
each_kept ns i it = λ k d inside.
    let x = get_or ns k d in
    let here : Contains ns x = (k, inside, get_or_default ns k x d inside) in
    elim (Contains-append_cases (take i ns) (drop i ns) x (subst (λ l. Contains l x) (sym (take-append-drop i ns)) here)) [
      | inl front ↦ Contains-append_left (take i ns) (it ∷ drop i ns) x front
      | inr back ↦ Contains-append_right (take i ns) (it ∷ drop i ns) x (suc back.0, omega (arith, back.1), back.2)
    ]
