-- Operations by node, put together.
use Rattle.std.proofs.Common.{◌≡◌, ◌≢◌, ◌⊎◌, ℕ, false, ◌+◌, ◌<◌, ◌≤◌, true, Bool, ◌||◌, List, ◌++◌, length, get_or, take, drop, set, vec_len, vec_capacity, inl, inr, refl, sym, ap, subst, ◌∙◌, arith}
use Rattle.std.specs.List.{All, Contains, list_any}
use Rattle.std.specs.List.Sorted.{IsStrictlySortedBy}
use Rattle.std.specs.Cmp.{Equal-is, tied_itself}
use Rattle.std.specs.Ordering.{eq_by_cmp, is_eq}
use Rattle.std.specs.Set.{sorted_merge}
use Rattle.std_collections.proofs.SortedSets.{sorted_merged, merge_is_union, length_merged}
use Rattle.std.proofs.lemmas.Bool.{cases_lt, cases_order}
use Rattle.std.proofs.lemmas.List.{length-set, length-drop, length-append, length-take-le, take_all, get_or-drop, get_or-set_same, get_or-set_other, get_or-take, get_or_read}
use Rattle.std.proofs.lemmas.List.Elements.{All-contains}
use Rattle.std.proofs.lemmas.List.Folds.{list_any-append, list_any_at}
use Rattle.std.proofs.Math.Bool.{or_assoc}
use Rattle.std.proofs.lemmas.Map.Views.{Contains-from_any}
use Rattle.std.proofs.lemmas.Map.Keys.{Less-from_sorted}
use Rattle.fl_labels.specs.Arranged.{IsArranged}
use Rattle.fl_labels.specs.SetBy.{of_list, members, members-of_list, contains-of_list, same_set}
use Rattle.fl_ops.specs.declared.op.Op.{Op}
use Rattle.fl_ops.specs.OpLaws.{op_total, op_exact}
use Rattle.fl_ops.specs.OpOrder.{op_cmp}
use Rattle.fl_opset.specs.declared.node_ops.NodeOps.{NodeOps}
use Rattle.fl_opset.specs.ByNode.{all_ops, node_order, AreOfNode, AreByNode}
use Rattle.fl_opset.specs.parts.Room.{HasRoom}
use Rattle.fl_opset.proofs.ByNode.{IsNodePlace, all_set, all_split, all_more, all_rise, set_by_node, from_less}

-- ---- merges of operations

-- whether the operation is one of the list
abbrev pub has : List Op → Op → Bool
has xs q = list_any (eq_by_cmp op_cmp q) xs

-- lists that rise and have the same operations are equal
pub same_rising : (xs ys : List Op) → IsStrictlySortedBy op_cmp xs → IsStrictlySortedBy op_cmp ys → ((q : Op) → has xs q ≡ has ys q) → xs ≡ ys
same_rising xs ys up_xs up_ys same =
    sym (members-of_list op_total op_exact xs up_xs)
    ∙ ap members (same_set op_total op_exact (of_list xs) (of_list ys) (λ q. contains-of_list op_total xs q ∙ same q ∙ sym (contains-of_list op_total ys q)))
    ∙ members-of_list op_total op_exact ys up_ys

-- a list that rises with the operations of both is their merge
pub is_merge : (xs ys zs : List Op) → IsStrictlySortedBy op_cmp xs → IsStrictlySortedBy op_cmp ys → IsStrictlySortedBy op_cmp zs
    → ((q : Op) → has zs q ≡ (has xs q || has ys q)) → zs ≡ sorted_merge op_cmp true xs ys
is_merge xs ys zs up_xs up_ys up_zs both =
    same_rising zs (sorted_merge op_cmp true xs ys) up_zs (sorted_merged op_total true xs ys up_xs up_ys)
    (λ q. both q ∙ sym (merge_is_union op_total xs ys q))

-- both lists put in order are their merge
pub arranged_merge : (xs ys zs : List Op) → IsStrictlySortedBy op_cmp xs → IsStrictlySortedBy op_cmp ys → IsArranged op_cmp (xs ++ ys) zs
    → zs ≡ sorted_merge op_cmp true xs ys
arranged_merge xs ys zs up_xs up_ys arranged =
    is_merge xs ys zs up_xs up_ys arranged.rises
    (λ q. sym (contains-of_list op_total zs q) ∙ arranged.same q ∙ contains-of_list op_total (xs ++ ys) q ∙ list_any-append (eq_by_cmp op_cmp q) xs ys)

-- ---- room

-- where each entry stays, there is the room that there was
pub room_kept : (ns ms : List NodeOps) (other : NodeOps) → All (Contains ms) ns → HasRoom ns other → HasRoom ms other
room_kept ns ms other kept room =
    let at = All-contains (Contains ms) ns room.at.1 kept (room.at.0, room.at.2, room.at.3) in
    record { at = (at.0, room.at.1, at.1, at.2, room.at.4) }

-- another entry of its node is in an entry's place
module _ (ns : List NodeOps) (i : ℕ) (it m : NodeOps) (inside : i < length ns) (is : it ≡ get_or ns i it) (same : m.node ≡ it.node) where
  -- those of other nodes stay
  others_stay : (x : NodeOps) → x.node ≢ it.node → Contains ns x → Contains (set ns i m) x
  others_stay x apart c =
      let here : it ≡ get_or ns i x = get_or_read ns i it inside is x in
      let away : c.0 ≢ i = λ e. apart (ap (λ (y : NodeOps). y.node) (sym c.2 ∙ ap (λ k. get_or ns k x) e ∙ sym here)) in
      (c.0, omega (arith, c.1, length-set ns i m), get_or-set_other ns i c.0 m x away ∙ c.2)

  pub room_stays : (other : NodeOps) → other.node ≢ it.node → HasRoom ns other → HasRoom (set ns i m) other
  room_stays other apart room =
      let stays = others_stay room.at.1 (λ e. apart (sym room.at.4.0 ∙ e)) (room.at.0, room.at.2, room.at.3) in
      record { at = (stays.0, room.at.1, stays.1, stays.2, room.at.4) }

  pub room_here : (other : NodeOps) → it.node ≡ other.node → vec_len m.ops + length other.ops.items ≤ vec_capacity m.ops → HasRoom (set ns i m) other
  room_here other of fits = record {
    at = (i, m, omega (arith, length-set ns i m), get_or-set_same ns i m m inside, (same ∙ of, fits));
  }

  -- with the same operations
  pub same_all : m.ops.items ≡ it.ops.items → all_ops (set ns i m) ≡ all_ops ns
  same_all ops = all_set ns i m inside ∙ ap (λ xs. all_ops (take i ns) ++ (xs ++ all_ops (drop (i + 1) ns))) ops ∙ sym (all_split ns i it inside is)

  pub same_by_node : m.ops.items ≡ it.ops.items → AreByNode ns → AreByNode (set ns i m)
  same_by_node ops a =
      let own : AreOfNode it = subst AreOfNode (sym is) (a.each i it inside) in
      set_by_node ns i it m inside is same (record {
        rise = subst (IsStrictlySortedBy op_cmp) (sym ops) own.rise;
        own = subst (λ xs. All (λ (op : Op). op.name.node ≡ m.node) xs) (sym ops) (subst (λ n. All (λ (op : Op). op.name.node ≡ n) it.ops.items) (sym same) own.own);
      }) a

-- one more of a walk has room
pub ready_more : (old new others : List NodeOps) (j : ℕ) (other : NodeOps) → IsStrictlySortedBy node_order others → j < length others → other ≡ get_or others j other
    → ((x : NodeOps) → x.node < other.node → HasRoom old x → HasRoom new x)
    → All (HasRoom old) (take j others) → HasRoom new other → All (HasRoom new) (take (j + 1) others)
ready_more old new others j other up inside is step ready here = λ k d within.
    let more : length (take (j + 1) others) ≡ j + 1 = length-take-le (j + 1) others (omega arith) in
    let read : get_or (take (j + 1) others) k d ≡ get_or others k d = get_or-take (j + 1) others k d (omega arith) in
    let at : other ≡ get_or others j d = get_or_read others j other inside is d in
    elim (cases_lt k j) [
      | inl before ↦
          let less : (get_or others k d).node < other.node = from_less _ _ (ap (λ (y : NodeOps). node_order (get_or others k d) y) at ∙ Less-from_sorted node_order others k j d up before inside) in
          let room : HasRoom old (get_or others k d) = subst (HasRoom old) (get_or-take j others k d before) (ready k d (omega (arith, length-take-le j others))) in
          subst (HasRoom new) (sym read) (step (get_or others k d) less room)
      | inr after ↦
          let last : j ≡ k = omega arith in
          subst (HasRoom new) (at ∙ ap (λ n. get_or others n d) last ∙ sym read) here
    ]

-- ---- operations that come

-- the entries have their operations and those of the others so far, and room for those to come
pub record IsJoined (old done now : List NodeOps) (added : ℕ) (others : List NodeOps) (i : ℕ) : Type 0 where
  pub by_node : AreByNode now
  pub both : (q : Op) → has (all_ops now) q ≡ (has (all_ops old) q || has (all_ops done) q)
  pub count : length (all_ops now) ≡ length (all_ops old) + added
  pub few : added ≤ length (all_ops done)
  pub ready : All (HasRoom now) (drop i others)

-- the next one has room
pub next_ready : (ns others : List NodeOps) (i : ℕ) (other : NodeOps) → i < length others → other ≡ get_or others i other
    → All (HasRoom ns) (drop i others) → HasRoom ns other
next_ready ns others i other inside is ready =
    let at : get_or (drop i others) 0 other ≡ other = get_or-drop i others 0 other ∙ ap (λ n. get_or others n other) (omega arith) ∙ sym is in
    subst (HasRoom ns) at (ready 0 other (omega (arith, length-drop i others)))

-- where there is room, there is an entry
pub some_entry : (ns : List NodeOps) (other : NodeOps) (i : ℕ) → HasRoom ns other → IsNodePlace ns other.node i → ⊥
some_entry ns other i room place =
    let k = room.at.0 in
    let x = room.at.1 in
    let named : (get_or ns k x).node ≡ other.node = ap (λ (y : NodeOps). y.node) room.at.3 ∙ room.at.4.0 in
    elim (cases_lt k i) [
      | inl before ↦ let less = place.below k x before in omega arith
      | inr after ↦ let more = place.above k x after room.at.2 in omega arith
    ]

-- it is the one that is found
pub room_found : (ns : List NodeOps) (other it : NodeOps) (i : ℕ) → AreByNode ns → i < length ns → it ≡ get_or ns i it → it.node ≡ other.node → HasRoom ns other
    → vec_len it.ops + length other.ops.items ≤ vec_capacity it.ops
room_found ns other it i a inside is of room =
    let k = room.at.0 in
    let x = room.at.1 in
    let here : it ≡ get_or ns i x = get_or_read ns i it inside is x in
    let of_it : (get_or ns i x).node ≡ it.node = ap (λ (y : NodeOps). y.node) (sym here) in
    let of_x : (get_or ns k x).node ≡ x.node = ap (λ (y : NodeOps). y.node) room.at.3 in
    let named : x.node ≡ other.node = room.at.4.0 in
    elim (cases_order k i) [
      | inl same ↦
          let one : x ≡ it = sym room.at.3 ∙ ap (λ n. get_or ns n x) same ∙ sym here in
          subst (λ (m : NodeOps). vec_len m.ops + length other.ops.items ≤ vec_capacity m.ops) one room.at.4.1
      | inr (inl before) ↦
          let less : (get_or ns k x).node < (get_or ns i x).node = from_less _ _ (Less-from_sorted node_order ns k i x a.rise before inside) in
          absurd (omega arith)
      | inr (inr after) ↦
          let less : (get_or ns i x).node < (get_or ns k x).node = from_less _ _ (Less-from_sorted node_order ns i k x a.rise after room.at.2) in
          absurd (omega arith)
    ]

-- how many are new
pub new_ones : (own more merge more' : List Op) (new : ℕ) → merge ≡ sorted_merge op_cmp true own more → more ≡ more' → length merge ≡ length own + new → new ≤ length more'
new_ones own more merge more' new is same count = omega (arith, length_merged op_cmp true own more, ap length is, ap length same)

moved : (a x y r : Bool) → (a || ((x || y) || r)) ≡ ((a || (x || r)) || y)
moved true x y r = refl
moved false true y r = refl
moved false false true true = refl
moved false false true false = refl
moved false false false true = refl
moved false false false false = refl

either : (a b : Bool) → (a || b) ≡ true → (a ≡ true) ⊎ (b ≡ true)
either true b h = inl refl
either false b h = inr h

module _ (P : Op → Type 0) where
  all_had : (xs : List Op) (q : Op) → All P xs → has xs q ≡ true → P q
  all_had xs q all h = All-contains P xs q all (Contains-from_any {eq = eq_by_cmp op_cmp} (λ x y e. op_exact x y ((Equal-is (op_cmp x y)).0 e)) q xs h)

  all_merged : (xs ys : List Op) → All P xs → All P ys → All P (sorted_merge op_cmp true xs ys)
  all_merged xs ys in_xs in_ys = λ k d within.
      let zs = sorted_merge op_cmp true xs ys in
      let z = get_or zs k d in
      let member : has zs z ≡ true = list_any_at (eq_by_cmp op_cmp z) zs k d within (ap is_eq (tied_itself op_total z)) in
      elim (either (has xs z) (has ys z) (sym (merge_is_union op_total xs ys z) ∙ member)) [
        | inl first ↦ all_had xs z in_xs first
        | inr second ↦ all_had ys z in_ys second
      ]

pub own_merged : (it m other : NodeOps) (more : List Op) → AreOfNode it → AreOfNode other → it.node ≡ other.node → m.node ≡ it.node → more ≡ other.ops.items
    → m.ops.items ≡ sorted_merge op_cmp true it.ops.items more → AreOfNode m
own_merged it m other more own theirs of same_node same is =
    let whole : m.ops.items ≡ sorted_merge op_cmp true it.ops.items other.ops.items = is ∙ ap (λ l. sorted_merge op_cmp true it.ops.items l) same in
    record {
      rise = subst (IsStrictlySortedBy op_cmp) (sym whole) (sorted_merged op_total true it.ops.items other.ops.items own.rise theirs.rise);
      own = subst (λ xs. All (λ (op : Op). op.name.node ≡ m.node) xs) (sym whole)
          (subst (λ n. All (λ (op : Op). op.name.node ≡ n) (sorted_merge op_cmp true it.ops.items other.ops.items)) (sym same_node)
          (all_merged (λ op. op.name.node ≡ it.node) it.ops.items other.ops.items own.own
          (subst (λ n. All (λ (op : Op). op.name.node ≡ n) other.ops.items) (sym of) theirs.own)));
    }

-- the operations of one more of the others have come
module _ (old ns others : List NodeOps) (i p : ℕ) (other it m : NodeOps) (more : List Op) (added new : ℕ)
    (theirs : AreByNode others) (inside : i < length others) (is : other ≡ get_or others i other)
    (within : p < length ns) (here : it ≡ get_or ns p it) (of : it.node ≡ other.node) (same_node : m.node ≡ it.node)
    (same : more ≡ other.ops.items) (merge : m.ops.items ≡ sorted_merge op_cmp true it.ops.items more)
    (count : length m.ops.items ≡ length it.ops.items + new) (so_far : IsJoined old (take i others) ns added others i) where
  at_others : AreOfNode other
  at_others = subst AreOfNode (sym is) (theirs.each i other inside)

  at_own : AreOfNode it
  at_own = subst AreOfNode (sym here) (so_far.by_node.each p it within)

  join_by_node : AreByNode (set ns p m)
  join_by_node = set_by_node ns p it m within here same_node (own_merged it m other more at_own at_others of same_node same merge) so_far.by_node

  join_all : (q : Op) → has (all_ops (set ns p m)) q ≡ (has (all_ops ns) q || has other.ops.items q)
  join_all q =
      let three : (xs : List Op) → has (all_ops (take p ns) ++ (xs ++ all_ops (drop (p + 1) ns))) q ≡ (has (all_ops (take p ns)) q || (has xs q || has (all_ops (drop (p + 1) ns)) q))
      = λ xs. list_any-append (eq_by_cmp op_cmp q) (all_ops (take p ns)) (xs ++ all_ops (drop (p + 1) ns))
      ∙ ap (λ b. has (all_ops (take p ns)) q || b) (list_any-append (eq_by_cmp op_cmp q) xs (all_ops (drop (p + 1) ns))) in
      let united : has m.ops.items q ≡ (has it.ops.items q || has other.ops.items q) = ap (λ l. has l q) merge ∙ merge_is_union op_total it.ops.items more q ∙ ap (λ l. has it.ops.items q || has l q) same in
      ap (λ l. has l q) (all_set ns p m within) ∙ three m.ops.items
      ∙ ap (λ b. has (all_ops (take p ns)) q || (b || has (all_ops (drop (p + 1) ns)) q)) united
      ∙ moved (has (all_ops (take p ns)) q) (has it.ops.items q) (has other.ops.items q) (has (all_ops (drop (p + 1) ns)) q)
      ∙ ap (λ b. b || has other.ops.items q) (sym (three it.ops.items) ∙ ap (λ l. has l q) (sym (all_split ns p it within here)))

  join_both : (q : Op) → has (all_ops (set ns p m)) q ≡ (has (all_ops old) q || has (all_ops (take (i + 1) others)) q)
  join_both q =
      join_all q ∙ ap (λ b. b || has other.ops.items q) (so_far.both q)
      ∙ or_assoc (has (all_ops old) q) (has (all_ops (take i others)) q) (has other.ops.items q)
      ∙ ap (λ b. has (all_ops old) q || b) (sym (list_any-append (eq_by_cmp op_cmp q) (all_ops (take i others)) other.ops.items) ∙ ap (λ l. has l q) (sym (all_more others i other inside is)))

  join_count : length (all_ops (set ns p m)) ≡ length (all_ops old) + (added + new)
  join_count =
      let three : (xs : List Op) → length (all_ops (take p ns) ++ (xs ++ all_ops (drop (p + 1) ns))) ≡ length (all_ops (take p ns)) + (length xs + length (all_ops (drop (p + 1) ns)))
      = λ xs. length-append (all_ops (take p ns)) (xs ++ all_ops (drop (p + 1) ns)) ∙ ap (λ n. length (all_ops (take p ns)) + n) (length-append xs (all_ops (drop (p + 1) ns))) in
      omega (arith, ap length (all_set ns p m within), three m.ops.items, ap length (all_split ns p it within here), three it.ops.items, count, so_far.count)

  join_few : added + new ≤ length (all_ops (take (i + 1) others))
  join_few =
      omega (
        arith,
        so_far.few,
        new_ones it.ops.items more m.ops.items other.ops.items new merge same count,
        ap length (all_more others i other inside is),
        length-append (all_ops (take i others)) other.ops.items,
      )

  join_ready : All (HasRoom (set ns p m)) (drop (i + 1) others)
  join_ready = λ k d low.
      let far : (i + 1) + k < length others = omega (arith, length-drop (i + 1) others) in
      let read : get_or (drop (i + 1) others) k d ≡ get_or others ((i + 1) + k) d = get_or-drop (i + 1) others k d in
      let less : (get_or others i d).node < (get_or others ((i + 1) + k) d).node = from_less _ _ (Less-from_sorted node_order others i ((i + 1) + k) d theirs.rise (omega arith) far) in
      let at : (get_or others i d).node ≡ other.node = ap (λ (y : NodeOps). y.node) (sym (get_or_read others i other inside is d)) in
      let room : HasRoom ns (get_or others ((i + 1) + k) d) = subst (HasRoom ns) (get_or-drop i others (k + 1) d ∙ ap (λ n. get_or others n d) (omega arith)) (so_far.ready (k + 1) d (omega (arith, length-drop i others))) in
      subst (HasRoom (set ns p m)) (sym read) (room_stays ns p it m within here same_node (get_or others ((i + 1) + k) d) (omega arith) room)

  pub joined_more : IsJoined old (take (i + 1) others) (set ns p m) (added + new) others (i + 1)
  joined_more = record { by_node = join_by_node; both = join_both; count = join_count; few = join_few; ready = join_ready }

-- the operations of all of the others have come
pub joined_all : (old others now : List NodeOps) (added i : ℕ) → AreByNode old → AreByNode others → length others ≤ i
    → IsJoined old (take i others) now added others i → all_ops now ≡ sorted_merge op_cmp true (all_ops old) (all_ops others)
joined_all old others now added i a b done joined =
    is_merge (all_ops old) (all_ops others) (all_ops now) (all_rise old a) (all_rise others b) (all_rise now joined.by_node)
    (λ q. joined.both q ∙ ap (λ l. has (all_ops old) q || has (all_ops l) q) (take_all i others done))

-- no more are new than there are
pub few_more : (others : List NodeOps) (i : ℕ) (other : NodeOps) → i < length others → other ≡ get_or others i other
    → length (all_ops (take i others)) + length other.ops.items ≤ length (all_ops others)
few_more others i other inside is =
    omega (arith, ap length (all_split others i other inside is), length-append (all_ops (take i others)) (other.ops.items ++ all_ops (drop (i + 1) others)), length-append other.ops.items (all_ops (drop (i + 1) others)))
