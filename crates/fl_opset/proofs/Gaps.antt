-- Operations that fit between two others.
use Rattle.std.proofs.Common.{◌≡◌, inl, inr, ℕ, ◌+◌, ◌-◌, ◌<◌, ◌≤◌, zero, suc, true, Bool, List, [], ◌∷◌, ◌++◌, length, take, drop, get_or, refl, sym, ap, ◌∙◌, Ordering, Less, Equal, Greater, append-nil, append_assoc, arith}
use Rattle.std.specs.List.{All, insert_slice, HoldsAt}
use Rattle.std.specs.List.Sorted.{IsStrictlySortedBy, IsPartitionPoint}
use Rattle.std.specs.Set.{sorted_merge}
use Rattle.std.proofs.lemmas.Bool.{cases_lt}
use Rattle.std.proofs.lemmas.List.{take-append-drop, get_or-take, get_or-drop, length-take-le, length-drop}
use Rattle.std.proofs.lemmas.Map.Keys.{Less-from_sorted, sorted_tail}
use Rattle.fl_labels.specs.laws.Rising.{turned, turned_back}
use Rattle.fl_ops.specs.declared.op.Op.{Op}
use Rattle.fl_ops.specs.OpLaws.{op_total}
use Rattle.fl_ops.specs.OpOrder.{op_cmp}
use Rattle.fl_opset.specs.parts.Gap.{IsGap}

-- the rest of a list that rises does so
pub rest_rises : {K : Type 0} (R : K → K → Ordering) (xs : List K) (i : ℕ) → IsStrictlySortedBy R xs → IsStrictlySortedBy R (drop i xs)
rest_rises R xs zero up = up
rest_rises R [] (suc i) up = up
rest_rises R (x ∷ xs) (suc i) up = rest_rises R xs i (sorted_tail R x xs up)

-- ---- merges

module _ {K : Type 0} (R : K → K → Ordering) (b : Bool) where
  -- where each of the first list is above each of the second, the first follows the second
  merge_above : (xs ys : List K) → All (λ x. All (λ y. R x y ≡ Greater) ys) xs → sorted_merge R b xs ys ≡ ys ++ xs
  merge_above [] ys above = sym (append-nil ys)
  merge_above (x ∷ xs) [] above = refl
  merge_above (x ∷ xs) (y ∷ ys) above =
      let rest : All (λ z. All (λ y. R z y ≡ Greater) ys) (x ∷ xs) = λ k d within j e inside. above k d within (suc j) e (omega arith) in
      rw (above 0 x (omega arith) 0 y (omega arith)) (ap (λ l. y ∷ l) (merge_above (x ∷ xs) ys rest))

  -- where the second list fits between a front and a back, it stands there
  merge_between : (front back ys : List K) → All (λ x. All (λ y. R x y ≡ Less) ys) front → All (λ x. All (λ y. R x y ≡ Greater) ys) back → sorted_merge R b (front ++ back) ys ≡ front ++ (ys ++ back)
  merge_between [] back ys below above = merge_above back ys above
  merge_between (x ∷ front) back [] below above = refl
  merge_between (x ∷ front) back (y ∷ ys) below above =
      let rest : All (λ x. All (λ y. R x y ≡ Less) (y ∷ ys)) front = λ k d within. below (suc k) d (omega arith) in
      rw (below 0 x (omega arith) 0 y (omega arith)) (ap (λ l. x ∷ l) (merge_between front back (y ∷ ys) rest above))

module _ (xs ys : List Op) (place : ℕ) (gap : IsGap xs ys place) where
  front_below : All (λ x. All (λ y. op_cmp x y ≡ Less) ys) (take place xs)
  front_below k d within j e inside =
      let here : k < place = omega (arith, length-take-le place xs gap.inside) in
      ap (λ x. op_cmp x (get_or ys j e)) (get_or-take place xs k d here) ∙ gap.parted.0 k d (omega arith) here j e inside

  back_above : All (λ x. All (λ y. op_cmp x y ≡ Greater) ys) (drop place xs)
  back_above k d within j e inside =
      let here : place + k < length xs = omega (arith, length-drop place xs) in
      ap (λ x. op_cmp x (get_or ys j e)) (get_or-drop place xs k d) ∙ gap.parted.1 (place + k) d (omega arith) here j e inside

  pub gap_merged : insert_slice xs place ys ≡ sorted_merge op_cmp true xs ys
  gap_merged =
      append_assoc (take place xs) ys (drop place xs)
      ∙ sym (merge_between op_cmp true (take place xs) (drop place xs) ys front_below back_above)
      ∙ ap (λ l. sorted_merge op_cmp true l ys) (take-append-drop place xs)

-- ---- searches

module _ (xs ys : List Op) (first : Op) (is : (d : Op) → first ≡ get_or ys 0 d) (some : 0 < length ys) where
  -- one of the first operations is the least of the second ones, so they fit nowhere
  pub tied : (k : ℕ) → k < length xs → HoldsAt (λ y. op_cmp y first ≡ Equal) xs k → (place : ℕ) → ¬ IsGap xs ys place
  tied k within at place gap =
      let ties : op_cmp (get_or xs k first) (get_or ys 0 first) ≡ Equal = ap (op_cmp (get_or xs k first)) (sym (is first)) ∙ at first in
      elim (cases_lt k place) [
        | inl before ↦ let less = gap.parted.0 k first (omega arith) before 0 first some in cc
        | inr after ↦ let greater = gap.parted.1 k first after within 0 first some in cc
      ]

  module _ (place : ℕ) (at : IsPartitionPoint (λ y. op_cmp y first ≡ Less) (λ y. op_cmp y first ≡ Greater) xs place) where
    -- all are below those from the place on, so they fit there
    pub fits : place ≤ length xs → IsStrictlySortedBy op_cmp ys → All (λ y. All (λ x. op_cmp y x ≡ Less) (drop place xs)) ys → IsGap xs ys place
    fits bound up below = record {
      inside = bound;
      parted = (
        λ k d low high j e inside. elim (cases_lt 0 j) [
          | inl after ↦ op_total.trans (get_or xs k d) first (get_or ys j e) (at.0 k d low high) (ap (λ (y : Op). op_cmp y (get_or ys j e)) (is e) ∙ Less-from_sorted op_cmp ys 0 j e up after inside)
          | inr start ↦
              let here : j ≡ 0 = omega arith in
              ap (op_cmp (get_or xs k d)) (ap (λ n. get_or ys n e) here ∙ sym (is e)) ∙ at.0 k d low high
        ],
        λ k d low high j e inside.
            let here : place + (k - place) ≡ k = omega arith in
            let reach : k - place < length (drop place xs) = omega (arith, length-drop place xs) in
            turned_back op_total (get_or ys j e) (get_or xs k d) (ap (op_cmp (get_or ys j e)) (ap (λ n. get_or xs n d) (sym here) ∙ sym (get_or-drop place xs (k - place) d)) ∙ below j e inside (k - place) d reach),
      );
    }

    -- some are not, so they fit nowhere
    pub too_wide : ¬ All (λ y. All (λ x. op_cmp y x ≡ Less) (drop place xs)) ys → (q : ℕ) → ¬ IsGap xs ys q
    too_wide wide q gap = wide (λ j e inside k d within.
        let reach : place + k < length xs = omega (arith, length-drop place xs) in
        let greater : op_cmp (get_or xs (place + k) d) (get_or ys j e) ≡ Greater = elim (cases_lt (place + k) q) [
          | inl before ↦
              let less = gap.parted.0 (place + k) d (omega arith) before 0 first some in
              let above = at.1 (place + k) d (omega arith) reach in
              let same : op_cmp (get_or xs (place + k) d) first ≡ Less = ap (op_cmp (get_or xs (place + k) d)) (is first) ∙ less in
              cc
          | inr after ↦ gap.parted.1 (place + k) d after reach j e inside
        ] in
        ap (op_cmp (get_or ys j e)) (get_or-drop place xs k d) ∙ turned op_total (get_or xs (place + k) d) (get_or ys j e) greater)
