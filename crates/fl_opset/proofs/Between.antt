-- The entries of the nodes that a window has names of.
use Rattle.std.proofs.Common.{◌≡◌, inl, inr, ℕ, ◌+◌, ◌<◌, ◌≤◌, Bool, true, false, ◌&&◌, List, [], ◌∷◌, ◌++◌, length, get_or, take, drop, refl, sym, ap, subst, ◌∙◌, append-nil, arith, ltb, leb, cond, Less}
use Rattle.std.specs.List.{All, AllWithin, AllByRecursion, filter}
use Rattle.std.specs.List.Sorted.{IsStrictlySortedBy, IsNonDecreasingBy, IsPartitionPoint}
use Rattle.std.specs.Ordering.{nat_cmp}
use Rattle.std.proofs.lemmas.Bool.{cases_lt, false≢true}
use Rattle.std.proofs.lemmas.Bool.Decides.{nat_tests}
use Rattle.std.proofs.lemmas.List.{take-append-drop, length-take-le, length-drop, get_or-take, get_or-drop, take_more, take_all, flat_map_more}
use Rattle.std.proofs.lemmas.List.Concat.{flat_map-append}
use Rattle.std.proofs.lemmas.List.Elements.{recursion_from_All, filter-append, All-drop, All-same}
use Rattle.std.proofs.lemmas.List.Sorted.{IsNonDecreasingBy-take}
use Rattle.std.proofs.lemmas.Map.Keys.{Less-from_sorted}
use Rattle.fl_ops.specs.declared.op.Op.{Op}
use Rattle.fl_opset.specs.declared.intervals.Intervals.{Intervals}
use Rattle.fl_opset.specs.declared.node_ops.NodeOps.{NodeOps}
use Rattle.fl_opset.specs.ByNode.{all_ops, node_order, AreOfNode}
use Rattle.fl_opset.specs.Rank.{name_rank, op_rank}
use Rattle.fl_opset.specs.Windows.{is_lacking}
use Rattle.fl_opset.specs.laws.Fits.{within, too_low, too_high}
use Rattle.fl_opset.proofs.Rising.{ranks_rise}
use Rattle.fl_opset.proofs.Front.{front_kept, front_grows, front_full}
use Rattle.fl_opset.proofs.Lacks.{outside, all_kept, none_kept, weaker}

-- ---- the two searches

below : (m n : ℕ) → nat_cmp m n ≡ Less → m < n
below m n h = grind (arith, nat_tests)

-- entries that rise have numbers that do not fall
pub numbers_rise : (ns : List NodeOps) → IsStrictlySortedBy node_order ns → IsNonDecreasingBy (λ it. it.node) ns
numbers_rise ns up i j d order inside = elim (cases_lt i j) [
  | inl before ↦
      let less : (get_or ns i d).node < (get_or ns j d).node = below _ _ (Less-from_sorted node_order ns i j d up before inside) in
      omega arith
  | inr after ↦
      let same : i ≡ j = omega arith in
      let here = ap (λ k. (get_or ns k d).node) same in
      omega arith
]

pub front_numbers : (ns front : List NodeOps) (i : ℕ) → front ≡ take i ns → IsNonDecreasingBy (λ it. it.node) ns → IsNonDecreasingBy (λ it. it.node) front
front_numbers ns front i is rise = subst (IsNonDecreasingBy (λ it. it.node)) (sym is) (IsNonDecreasingBy-take (λ (it : NodeOps). it.node) i ns rise)

module _ {X : Type 0} (P : X → Type 0) (xs : List X) (i : ℕ) (bound : i ≤ length xs) where
  taken : AllWithin P xs 0 i → AllByRecursion P (take i xs)
  taken h = recursion_from_All P (take i xs) (λ k d inside.
      let here : k < i = omega (arith, length-take-le i xs bound) in
      subst P (sym (get_or-take i xs k d here)) (h k d (omega arith) here))

  dropped : AllWithin P xs i (length xs) → All P (drop i xs)
  dropped h k d inside = subst P (sym (get_or-drop i xs k d)) (h (i + k) d (omega arith) (omega (arith, length-drop i xs)))

-- whether the node's number is one of those from the first to the last
abbrev pub is_between : ℕ → ℕ → NodeOps → Bool
is_between first last it = leb first it.node && leb it.node last

too_far : (a b c : ℕ) → leb b c ≡ false → (leb a b && leb b c) ≡ false
too_far a b c h = grind (arith, nat_tests)

too_near : (a b c : ℕ) → ltb b a ≡ true → (leb a b && leb b c) ≡ false
too_near a b c h = grind (arith, nat_tests)

just : (a b c : ℕ) → ltb b a ≡ false → leb b c ≡ true → (leb a b && leb b c) ≡ true
just a b c h k = grind (arith, nat_tests)

both : {X : Type 0} (P Q : X → Type 0) (xs : List X) → AllByRecursion P xs → AllByRecursion Q xs → AllByRecursion (λ x. P x × Q x) xs
both P Q [] h k = tt
both P Q (x ∷ xs) h k = ((h.0, k.0), both P Q xs h.1 k.1)

-- what two searches cut out
pub kept_between : (first last : ℕ) (ns front mid : List NodeOps) (end start : ℕ) → end ≤ length ns → start ≤ length front → front ≡ take end ns → mid ≡ drop start front
    → IsPartitionPoint (λ it. leb it.node last ≡ true) (λ it. leb it.node last ≡ false) ns end
    → IsPartitionPoint (λ it. ltb it.node first ≡ true) (λ it. ltb it.node first ≡ false) front start
    → mid ≡ filter (is_between first last) ns
kept_between first last ns front mid end start bound inside is_front is_mid upto from =
    let p = is_between first last in
    let behind : filter p (drop end ns) ≡ [] =
    none_kept p (drop end ns) (weaker (λ (it : NodeOps). leb it.node last ≡ false) (λ it. p it ≡ false) (λ it h. too_far first it.node last h) (drop end ns)
    (recursion_from_All (λ (it : NodeOps). leb it.node last ≡ false) (drop end ns) (dropped (λ (it : NodeOps). leb it.node last ≡ false) ns end bound upto.1))) in
    let before : filter p (take start front) ≡ [] =
    none_kept p (take start front) (weaker (λ (it : NodeOps). ltb it.node first ≡ true) (λ it. p it ≡ false) (λ it h. too_near first it.node last h) (take start front)
    (taken (λ (it : NodeOps). ltb it.node first ≡ true) front start inside from.0)) in
    let low : AllByRecursion (λ (it : NodeOps). leb it.node last ≡ true) (drop start front) =
    recursion_from_All (λ (it : NodeOps). leb it.node last ≡ true) (drop start front)
    (All-drop (λ (it : NodeOps). leb it.node last ≡ true) start front
    (All-same (λ (it : NodeOps). leb it.node last ≡ true) front (take end ns) is_front
    (λ k d here.
    let long : k < end = omega (arith, length-take-le end ns bound) in
    ap (λ (it : NodeOps). leb it.node last) (get_or-take end ns k d long) ∙ upto.0 k d (omega arith) long))) in
    let high : AllByRecursion (λ (it : NodeOps). ltb it.node first ≡ false) (drop start front) =
    recursion_from_All (λ (it : NodeOps). ltb it.node first ≡ false) (drop start front) (dropped (λ (it : NodeOps). ltb it.node first ≡ false) front start inside from.1) in
    let here : filter p (drop start front) ≡ drop start front =
    all_kept p (drop start front) (weaker (λ (it : NodeOps). (ltb it.node first ≡ false) × (leb it.node last ≡ true)) (λ it. p it ≡ true) (λ it h. just first it.node last h.0 h.1) (drop start front)
    (both (λ (it : NodeOps). ltb it.node first ≡ false) (λ it. leb it.node last ≡ true) (drop start front) high low)) in
    is_mid
    ∙ sym (ap (filter p) (sym (take-append-drop end ns)) ∙ filter-append p (take end ns) (drop end ns)
    ∙ (λ i. filter p (sym is_front i) ++ behind i) ∙ append-nil (filter p front)
    ∙ ap (filter p) (sym (take-append-drop start front)) ∙ filter-append p (take start front) (drop start front)
    ∙ (λ i. before i ++ here i))

-- ---- what is lacking of the others

module _ (w : Intervals) where
  -- an operation of a node below the window or above it
  not_in : (op : Op) (n : ℕ) → op.name.node ≡ n → (leb w.from.node n && leb n w.to.node) ≡ false → is_lacking w op ≡ false
  not_in op n own h = elim (cases_lt n w.from.node) [
    | inl low ↦
        ap (λ b. b && outside w.spans op) (too_low (name_rank w.from) (op_rank op) (name_rank w.to)
        (omega (arith, op.name.node_in_range.0, op.name.seq_in_range.1, w.from.seq_in_range.0)))
    | inr least ↦ elim (cases_lt w.to.node n) [
      | inl high ↦
          ap (λ b. b && outside w.spans op) (too_high (name_rank w.from) (op_rank op) (name_rank w.to)
          (omega (arith, w.to.node_in_range.0, w.to.seq_in_range.1, op.name.seq_in_range.0)))
      | inr most ↦ absurd (false≢true (sym h ∙ within w.from.node n w.to.node least most))
    ]
  ]

  none_of : (it : NodeOps) → AreOfNode it → is_between w.from.node w.to.node it ≡ false → filter (is_lacking w) it.ops.items ≡ []
  none_of it own h =
      none_kept (is_lacking w) it.ops.items (weaker (λ (op : Op). op.name.node ≡ it.node) (λ op. is_lacking w op ≡ false) (λ op e. not_in op it.node e h) it.ops.items
      (recursion_from_All (λ (op : Op). op.name.node ≡ it.node) it.ops.items own.own))

  lacking_between : (ns : List NodeOps) → AllByRecursion AreOfNode ns
      → filter (is_lacking w) (all_ops (filter (is_between w.from.node w.to.node) ns)) ≡ filter (is_lacking w) (all_ops ns)
  lacking_between [] own = refl
  lacking_between (it ∷ ns) own = go (is_between w.from.node w.to.node it) refl (lacking_between ns own.1)
    where
      go : (b : Bool) → is_between w.from.node w.to.node it ≡ b
          → filter (is_lacking w) (all_ops (filter (is_between w.from.node w.to.node) ns)) ≡ filter (is_lacking w) (all_ops ns)
          → filter (is_lacking w) (all_ops (cond b (it ∷ filter (is_between w.from.node w.to.node) ns) (filter (is_between w.from.node w.to.node) ns))) ≡ filter (is_lacking w) (it.ops.items ++ all_ops ns)
      go true e h =
          filter-append (is_lacking w) it.ops.items (all_ops (filter (is_between w.from.node w.to.node) ns))
          ∙ ap (λ l. filter (is_lacking w) it.ops.items ++ l) h ∙ sym (filter-append (is_lacking w) it.ops.items (all_ops ns))
      go false e h =
          h ∙ (λ i. sym (none_of it own.0 e) i ++ filter (is_lacking w) (all_ops ns)) ∙ sym (filter-append (is_lacking w) it.ops.items (all_ops ns))

  -- what entries lack in parts
  lacking_parted : (ns : List NodeOps) (i : ℕ)
      → filter (is_lacking w) (all_ops ns) ≡ filter (is_lacking w) (all_ops (take i ns)) ++ filter (is_lacking w) (all_ops (drop i ns))
  lacking_parted ns i =
      ap (λ l. filter (is_lacking w) (all_ops l)) (sym (take-append-drop i ns))
      ∙ ap (filter (is_lacking w)) (flat_map-append (λ (it : NodeOps). it.ops.items) (take i ns) (drop i ns))
      ∙ filter-append (is_lacking w) (all_ops (take i ns)) (all_ops (drop i ns))

  -- of one entry more
  module _ (most : ℕ) (ns : List NodeOps) (i : ℕ) (it : NodeOps) (inside : i < length ns) (is : it ≡ get_or ns i it) (ops taken : List Op) (same : ops ≡ it.ops.items)
      (was : taken ≡ take most (filter (is_lacking w) (all_ops (take i ns)))) where
    one_more : all_ops (take (i + 1) ns) ≡ all_ops (take i ns) ++ ops
    one_more =
        ap all_ops (take_more ns i it inside ∙ ap (λ y. take i ns ++ y ∷ []) (sym is)) ∙ sym (flat_map_more (λ (it : NodeOps). it.ops.items) [] (take i ns) it)
        ∙ ap (λ l. all_ops (take i ns) ++ l) (sym same)

    pub node_more : take most (taken ++ filter (is_lacking w) ops) ≡ take most (filter (is_lacking w) (all_ops (take (i + 1) ns)))
    node_more =
        ap (λ l. take most (l ++ filter (is_lacking w) ops)) was ∙ front_kept most (filter (is_lacking w) (all_ops (take i ns))) (filter (is_lacking w) ops)
        ∙ ap (take most) (sym (filter-append (is_lacking w) (all_ops (take i ns)) ops)) ∙ ap (λ l. take most (filter (is_lacking w) l)) (sym one_more)

    pub some_of_node : length taken < length (take most (taken ++ filter (is_lacking w) ops)) → 0 < length (take most (filter (is_lacking w) (all_ops ns)))
    some_of_node some =
        let grows = front_grows most (filter (is_lacking w) (all_ops (take (i + 1) ns))) (filter (is_lacking w) (all_ops (drop (i + 1) ns))) in
        omega (arith, some, ap length node_more, grows, ap (λ l. length (take most l)) (lacking_parted ns (i + 1)))

  module _ (ns mid : List NodeOps) (own : All AreOfNode ns) (is : mid ≡ filter (is_between w.from.node w.to.node) ns) where
    same_lacking : filter (is_lacking w) (all_ops mid) ≡ filter (is_lacking w) (all_ops ns)
    same_lacking = ap (λ l. filter (is_lacking w) (all_ops l)) is ∙ lacking_between ns (recursion_from_All AreOfNode ns own)

    module _ (most i : ℕ) (taken : List Op) (was : taken ≡ take most (filter (is_lacking w) (all_ops (take i mid)))) where
      -- after the walk over the entries of the window's nodes
      pub lacking_walked : length mid ≤ i → taken ≡ take most (filter (is_lacking w) (all_ops ns))
      lacking_walked done = was ∙ ap (λ l. take most (filter (is_lacking w) (all_ops l))) (take_all i mid done) ∙ ap (take most) same_lacking

      -- once there are as many as are wanted
      pub lacking_full : length taken ≡ most → taken ≡ take most (filter (is_lacking w) (all_ops ns))
      lacking_full full =
          let front = filter (is_lacking w) (all_ops (take i mid)) in
          let behind = filter (is_lacking w) (all_ops (drop i mid)) in
          sym (front_full most taken behind full) ∙ ap (λ l. take most (l ++ behind)) was ∙ front_kept most front behind
          ∙ ap (take most) (sym (lacking_parted mid i) ∙ same_lacking)

    -- what the nodes of the window lack is lacking of all
    pub some_between : (most : ℕ) → 0 < length (take most (filter (is_lacking w) (all_ops mid))) → 0 < length (take most (filter (is_lacking w) (all_ops ns)))
    some_between most some = omega (arith, some, ap (λ l. length (take most l)) same_lacking)

pub ranks_of_entry : (ns : List NodeOps) (i : ℕ) (it : NodeOps) (ops : List Op) → All AreOfNode ns → i < length ns → it ≡ get_or ns i it → ops ≡ it.ops.items → IsNonDecreasingBy op_rank ops
ranks_of_entry ns i it ops own inside is same =
    let here : AreOfNode it = subst AreOfNode (sym is) (own i it inside) in
    subst (IsNonDecreasingBy op_rank) (sym same) (ranks_rise it.ops.items here.rise)
