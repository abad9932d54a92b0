-- The least clash and the least stray, among operations that rise.
use Rattle.std.proofs.Common.{◌≡◌, inl, inr, zero, suc, ℕ, ◌+◌, ◌<◌, ◌≤◌, false, List, [], ◌∷◌, length, get_or, refl, sym, ap, subst, ◌∙◌, arith, Option, None, Ordering, Less, Equal, Greater}
use Rattle.std.specs.Cmp.{tied_itself}
use Rattle.std.specs.List.{All, Contains, flat_map}
use Rattle.std.specs.List.Sorted.{IsStrictlySortedBy}
use Rattle.std.specs.Ordering.{is_gt, nat_cmp, ordering_then, ordering_reverse}
use Rattle.std.proofs.lemmas.Bool.{cases_lt, false≢true}
use Rattle.std.proofs.lemmas.Bool.Decides.{nat_tests}
use Rattle.std.proofs.lemmas.List.{get_or_default}
use Rattle.std.proofs.lemmas.List.Elements.{All-contains, Contains-append_cases, Contains-append_left, Contains-append_right}
use Rattle.std.proofs.lemmas.Map.Keys.{Less-from_sorted}
use Rattle.fl_labels.specs.Name.{name_cmp}
use Rattle.fl_labels.specs.NameOrder.{name_total}
use Rattle.fl_labels.specs.declared.name.Name.{Name}
use Rattle.fl_labels.specs.SetBy.{SetBy, In, members}
use Rattle.fl_ops.specs.declared.op.Op.{Op}
use Rattle.fl_ops.specs.OpOrder.{op_cmp}
use Rattle.fl_ops.specs.Registry.{Listed}
use Rattle.fl_opset.specs.ByNode.{all_ops, node_order, AreByNode}
use Rattle.fl_opset.specs.declared.node_ops.NodeOps.{NodeOps}
use Rattle.fl_opset.specs.laws.Members.{member_listed, listed_member}
use Rattle.fl_gossip.specs.Meeting.{IsLeastOf, FindsLeast, IsClashOf, IsStrayOf}
use Rattle.fl_gossip.specs.laws.Leasts.{least_same}

-- ---- the first one found has the least name

pub first_part : (p q : Ordering) → ordering_then p q ≡ Less → is_gt p ≡ false
first_part Less q e = refl
first_part Equal q e = refl
first_part Greater q e = absurd (cc)

not_after : (m n : Name) → is_gt (name_cmp m n) ≡ false → name_cmp n m ≡ Less → ⊥
not_after m n h e = false≢true (sym h ∙ ap is_gt (name_total.antisymm m n ∙ ap ordering_reverse e))

-- the items before a place are as P says
abbrev pub SoFar : {X : Type 0} → (X → Type 0) → List X → ℕ → Type 0
SoFar {X} P xs i = (k : ℕ) (d : X) → k < i → P (get_or xs k d)

module _ {X : Type 0} (P : X → Type 0) (xs : List X) where
  pub so_far_none : SoFar P xs 0
  so_far_none k d below = absurd (omega arith)

  pub so_far_more : (i : ℕ) (x : X) → i < length xs → x ≡ get_or xs i x → SoFar P xs i → P x → SoFar P xs (i + 1)
  so_far_more i x inside at so here k d below = elim (cases_lt k i) [
    | inl before ↦ so k d before
    | inr last ↦
        let same : k ≡ i = omega arith in
        subst P (at ∙ get_or_default xs i x d inside ∙ ap (λ n. get_or xs n d) (sym same)) here
  ]

  pub so_far_all : (i : ℕ) → length xs ≤ i → SoFar P xs i → (x : X) → Contains xs x → P x
  so_far_all i done so x c = subst P c.2 (so c.0 x (omega (arith, c.1)))

module _ (P : Op → Type 0) (ops : List Op) where
  -- an operation of a lesser name stands before
  pub so_far_less : IsStrictlySortedBy op_cmp ops → (i : ℕ) (x : Op) → i < length ops → x ≡ get_or ops i x → SoFar P ops i → (op : Op) → Listed ops op → name_cmp op.name x.name ≡ Less → P op
  so_far_less up i x inside at so op c less = elim (cases_lt c.0 i) [
    | inl before ↦ subst P c.2 (so c.0 op before)
    | inr after ↦ elim (cases_lt i c.0) [
      | inl later ↦
          let up_to : op_cmp (get_or ops i op) (get_or ops c.0 op) ≡ Less = Less-from_sorted op_cmp ops i c.0 op up later c.1 in
          let here : get_or ops i op ≡ x = get_or_default ops i op x inside ∙ sym at in
          let back : op_cmp x op ≡ Less = (λ j. op_cmp (sym here j) (sym c.2 j)) ∙ up_to in
          absurd (not_after x.name op.name (first_part _ _ back) less)
      | inr same ↦
          let index : c.0 ≡ i = omega arith in
          let is : op ≡ x = sym c.2 ∙ ap (λ k. get_or ops k op) index ∙ get_or_default ops i op x inside ∙ sym at in
          let level : name_cmp x.name op.name ≡ name_cmp x.name x.name = ap (λ (y : Op). name_cmp x.name y.name) is in
          absurd (not_after x.name op.name (ap is_gt (level ∙ tied_itself name_total x.name)) less)
    ]
  ]

-- none of the registry clashes with the operation
abbrev pub Agrees : (Op → Type 0) → Op → Type 0
Agrees V op = (other : Op) → V other → other.name ≡ op.name → other ≡ op

module _ (V : Op → Type 0) (ops : List Op) where
  agreed : (k : Name) (c : IsClashOf (Listed ops) V k) → Agrees V c.ours → ⊥
  agreed k c h = c.differ (sym (h c.theirs c.in_theirs (c.their_name ∙ sym c.our_name)))

  pub no_clash : (i : ℕ) → length ops ≤ i → SoFar (Agrees V) ops i → FindsLeast (IsClashOf (Listed ops) V) None
  no_clash i done so = λ k c. agreed k c (so_far_all (Agrees V) ops i done so c.ours c.in_ours)

  pub first_is_least : IsStrictlySortedBy op_cmp ops → (i : ℕ) (x : Op) → i < length ops → x ≡ get_or ops i x → SoFar (Agrees V) ops i
      → (other : Op) → V other → other.name ≡ x.name → ¬ (other ≡ x) → IsLeastOf (IsClashOf (Listed ops) V) x.name
  first_is_least up i x inside at so other there same apart = record {
    holds = record { ours = x; theirs = other; in_ours = (i, inside, sym at); in_theirs = there; our_name = refl; their_name = same; differ = λ e. apart (sym e) };
    least = λ k c less. agreed k c (so_far_less (Agrees V) ops up i x inside at so c.ours c.in_ours (ap (λ n. name_cmp n x.name) c.our_name ∙ less));
  }

-- strays among the operations of a number
module _ (U V : Op → Type 0) (number : ℕ) (ops : List Op) (only : (op : Op) → Listed ops op → U op × (op.name.node ≡ number)) (all : (op : Op) → U op → op.name.node ≡ number → Listed ops op) where
  pub no_stray : (i : ℕ) → length ops ≤ i → SoFar V ops i → FindsLeast (IsStrayOf U V number) None
  no_stray i done so = λ k c. c.unknown (so_far_all V ops i done so c.op (all c.op c.in_there c.of))

  pub first_stray : IsStrictlySortedBy op_cmp ops → (i : ℕ) (x : Op) → i < length ops → x ≡ get_or ops i x → SoFar V ops i → ¬ V x → IsLeastOf (IsStrayOf U V number) x.name
  first_stray up i x inside at so apart =
      let here = only x (i, inside, sym at) in
      record {
        holds = record { op = x; op_name = refl; of = here.1; in_there = here.0; unknown = apart };
        least = λ k c less. c.unknown (so_far_less V ops up i x inside at so c.op (all c.op c.in_there c.of) (ap (λ n. name_cmp n x.name) c.op_name ∙ less));
      }

-- ---- the operations of each node in turn

module _ {X A : Type 0} (f : X → List A) where
  from_part : (xs : List X) (k : ℕ) (d : X) (y : A) → k < length xs → Contains (f (get_or xs k d)) y → Contains (flat_map f xs) y
  from_part [] k d y within h = absurd (omega arith)
  from_part (x ∷ xs) zero d y within h = Contains-append_left (f x) (flat_map f xs) y h
  from_part (x ∷ xs) (suc k) d y within h = Contains-append_right (f x) (flat_map f xs) y (from_part xs k d y (omega arith) h)

  in_part : (xs : List X) (y : A) → Contains (flat_map f xs) y → (k : ℕ) × (k < length xs) × ((d : X) → Contains (f (get_or xs k d)) y)
  in_part [] y h = absurd (omega (arith, h.1))
  in_part (x ∷ xs) y h = elim (Contains-append_cases (f x) (flat_map f xs) y h) [
    | inl here ↦ (0, omega arith, λ d. here)
    | inr there ↦ let part = in_part xs y there in (suc part.0, omega (arith, part.1), part.2)
  ]

-- an item of a list that has one
some_item : {X : Type 0} (xs : List X) (k : ℕ) → k < length xs → X
some_item [] k within = absurd (omega arith)
some_item (x ∷ xs) k within = x

not_above : (m n i j : ℕ) → ordering_then (nat_cmp m n) (nat_cmp i j) ≡ Less → m ≤ n
not_above m n i j h = elim (cases_lt n m) [
  | inl above ↦ absurd (grind (arith, nat_tests))
  | inr low ↦ low
]

is_below : (m n : ℕ) → nat_cmp m n ≡ Less → m < n
is_below m n h = grind (arith, nat_tests)

-- a node's operations against those of the other set that have its number are against all of that set
least_at_node : (s : SetBy op_cmp) (node : ℕ) (xs ys : List Op) → All (λ op. op.name.node ≡ node) xs
    → ((op : Op) → Contains ys op → In s op × (op.name.node ≡ node)) → ((op : Op) → In s op → op.name.node ≡ node → Contains ys op)
    → (r : Option Name) → FindsLeast (IsClashOf (Listed xs) (Listed ys)) r → FindsLeast (IsClashOf (Listed xs) (In s)) r
least_at_node s node xs ys own only all r h = least_same (IsClashOf (Listed xs) (Listed ys)) (IsClashOf (Listed xs) (In s)) there back r h
  where
    there : (k : Name) → IsClashOf (Listed xs) (Listed ys) k → IsClashOf (Listed xs) (In s) k
    there k c = record { ours = c.ours; theirs = c.theirs; in_ours = c.in_ours; in_theirs = (only c.theirs c.in_theirs).0; our_name = c.our_name; their_name = c.their_name; differ = c.differ }

    back : (k : Name) → IsClashOf (Listed xs) (In s) k → IsClashOf (Listed xs) (Listed ys) k
    back k c =
        let of : c.theirs.name.node ≡ node = ap (λ (n : Name). n.node) (c.their_name ∙ sym c.our_name) ∙ All-contains (λ (op : Op). op.name.node ≡ node) xs c.ours own c.in_ours in
        record { ours = c.ours; theirs = c.theirs; in_ours = c.in_ours; in_theirs = all c.theirs c.in_theirs of; our_name = c.our_name; their_name = c.their_name; differ = c.differ }

pub least_at_entry : (s : SetBy op_cmp) (x : NodeOps) (xs ys : List Op) (node : ℕ) → All (λ op. op.name.node ≡ x.node) x.ops.items → xs ≡ x.ops.items → node ≡ x.node
    → ((op : Op) → Contains ys op → In s op × (op.name.node ≡ node)) → ((op : Op) → In s op → op.name.node ≡ node → Contains ys op)
    → (r : Option Name) → FindsLeast (IsClashOf (Listed xs) (Listed ys)) r → FindsLeast (IsClashOf (Listed x.ops.items) (In s)) r
least_at_entry s x xs ys node own e f only all r h =
    subst (λ l. FindsLeast (IsClashOf (Listed l) (In s)) r) e
    (least_at_node s node xs ys (subst (λ l. All (λ (op : Op). op.name.node ≡ node) l) (sym e) (subst (λ n. All (λ (op : Op). op.name.node ≡ n) x.ops.items) (sym f) own)) only all r h)

-- none of the node's operations clashes
abbrev pub IsClean : (Op → Type 0) → NodeOps → Type 0
IsClean V it = (name : Name) → ¬ IsClashOf (Listed it.ops.items) V name

module _ (V : Op → Type 0) (nodes : List NodeOps) (s : SetBy op_cmp) (whole : all_ops nodes ≡ members s) (by : AreByNode nodes) where
  in_set : (k : ℕ) (d : NodeOps) → k < length nodes → (op : Op) → Contains (get_or nodes k d).ops.items op → In s op
  in_set k d within op h = listed_member s op (subst (λ l. Contains l op) whole (from_part (λ (it : NodeOps). it.ops.items) nodes k d op within h))

  of_set : (op : Op) → In s op → (k : ℕ) × (k < length nodes) × ((d : NodeOps) → Contains (get_or nodes k d).ops.items op)
  of_set op h = in_part (λ (it : NodeOps). it.ops.items) nodes op (subst (λ l. Contains l op) (sym whole) (member_listed s op h))

  -- a clash in the one set, where an operation of it is in this list
  abbrev with_ours : (U : Op → Type 0) (name : Name) (c : IsClashOf (In s) V name) → U c.ours → IsClashOf U V name
  with_ours U name c h = record { ours = c.ours; theirs = c.theirs; in_ours = h; in_theirs = c.in_theirs; our_name = c.our_name; their_name = c.their_name; differ = c.differ }

  pub all_clean : (i : ℕ) → length nodes ≤ i → SoFar (IsClean V) nodes i → FindsLeast (IsClashOf (In s) V) None
  all_clean i done so name c =
      let there = of_set c.ours c.in_ours in
      let it = some_item nodes there.0 there.1 in
      so there.0 it (omega (arith, there.1)) name (with_ours (Listed (get_or nodes there.0 it).ops.items) name c (there.2 it))

  module _ (i : ℕ) (x : NodeOps) (inside : i < length nodes) (at : x ≡ get_or nodes i x) where
    pub own_number : All (λ op. op.name.node ≡ x.node) x.ops.items
    own_number = subst (λ (it : NodeOps). All (λ op. op.name.node ≡ it.node) it.ops.items) (sym at) (by.each i x inside).own

    pub own_rise : IsStrictlySortedBy op_cmp x.ops.items
    own_rise = subst (λ (it : NodeOps). IsStrictlySortedBy op_cmp it.ops.items) (sym at) (by.each i x inside).rise

    -- the first node with a clash has the least one
    pub first_of_nodes : SoFar (IsClean V) nodes i → (name : Name) → IsLeastOf (IsClashOf (Listed x.ops.items) V) name → IsLeastOf (IsClashOf (In s) V) name
    first_of_nodes so name found = record {
      holds = let c = found.holds in record { ours = c.ours; theirs = c.theirs; in_ours = in_set i x inside c.ours (subst (λ (it : NodeOps). Contains it.ops.items c.ours) at c.in_ours); in_theirs = c.in_theirs; our_name = c.our_name; their_name = c.their_name; differ = c.differ };
      least = λ other c less.
          let there = of_set c.ours c.in_ours in
          elim (cases_lt there.0 i) [
            | inl before ↦ so there.0 x before other (with_ours (Listed (get_or nodes there.0 x).ops.items) other c (there.2 x))
            | inr after ↦ elim (cases_lt i there.0) [
              | inl later ↦
                  let up : nat_cmp (get_or nodes i x).node (get_or nodes there.0 x).node ≡ Less = Less-from_sorted node_order nodes i there.0 x by.rise later there.1 in
                  let low : x.node < (get_or nodes there.0 x).node = is_below _ _ (ap (λ (it : NodeOps). nat_cmp it.node (get_or nodes there.0 x).node) at ∙ up) in
                  let mine : found.holds.ours.name.node ≡ x.node = All-contains (λ (op : Op). op.name.node ≡ x.node) x.ops.items found.holds.ours own_number found.holds.in_ours in
                  let its : c.ours.name.node ≡ (get_or nodes there.0 x).node = All-contains (λ (op : Op). op.name.node ≡ (get_or nodes there.0 x).node) (get_or nodes there.0 x).ops.items c.ours (by.each there.0 x there.1).own (there.2 x) in
                  let most = not_above other.node name.node other.seq name.seq less in
                  absurd (omega (arith, low, mine, its, most, ap (λ (n : Name). n.node) found.holds.our_name, ap (λ (n : Name). n.node) c.our_name))
              | inr same ↦
                  let index : there.0 ≡ i = omega arith in
                  found.least other (with_ours (Listed x.ops.items) other c (subst (λ (it : NodeOps). Contains it.ops.items c.ours) (ap (λ k. get_or nodes k x) index ∙ sym at) (there.2 x))) less
            ]
          ];
    }
