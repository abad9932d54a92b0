-- A walk along two rising lists, for the least of the one that is not in the other.
use Rattle.std.proofs.Common.{arith, ℕ, ◌+◌, ◌<◌, ◌≤◌, length, get_or, ◌≡◌, inl, inr, true, List, sym, ap, ◌∙◌, Some, None, Ordering, Less, Equal, Greater}
use Rattle.std.specs.Cmp.{IsTotalOrder, Equal-is, tied_itself, tied_back, alike_right, eq_by_cmp_equiv}
use Rattle.std.specs.List.{list_any}
use Rattle.std.specs.List.Sorted.{IsStrictlySortedBy}
use Rattle.std.specs.Ordering.{eq_by_cmp, is_eq, is_gt}
use Rattle.std.proofs.lemmas.Bool.{cases_order, cases_lt, false≢true}
use Rattle.std.proofs.lemmas.List.{get_or_default}
use Rattle.std.proofs.lemmas.List.Folds.{list_any_at, Any-from_list_any}
use Rattle.std.proofs.lemmas.Map.Keys.{Less-from_sorted}
use Rattle.std.proofs.lemmas.Map.Steps.{list_any_congr}
use Rattle.fl_labels.specs.SetBy.{of_list, contains-of_list, In}
use Rattle.fl_labels.specs.Found.{Found}
use Rattle.fl_labels.specs.laws.Rising.{missed_by_search, turned, turned_back}

-- the walk is at i in xs and at j in ys: what it passed of xs is in ys, and what it passed of ys is below the rest of xs
pub record Passed {K : Type 0} (R : K → K → Ordering) (xs ys : List K) (i j : ℕ) : Type 0 where
  pub i_within : i ≤ length xs
  pub j_within : j ≤ length ys
  pub among : (k : ℕ) (d : K) → k < i → list_any (eq_by_cmp R (get_or xs k d)) ys ≡ true
  pub below : (m k : ℕ) (d : K) → m < j → i ≤ k → k < length xs → R (get_or ys m d) (get_or xs k d) ≡ Less

module _ {K : Type 0} {R : K → K → Ordering} (o : IsTotalOrder R) (xs ys : List K) where
  -- each member of the first is in the second, once the walk has passed all of it
  pub none_outside : (i j : ℕ) → Passed R xs ys i j → length xs ≤ i → Found R (In (of_list {R = R} xs)) (In (of_list {R = R} ys)) None
  none_outside i j p end = record {
    is = λ q h.
        let at = Any-from_list_any (eq_by_cmp R q) xs (sym (contains-of_list o xs q) ∙ h) in
        contains-of_list o ys q ∙ list_any_congr (eq_by_cmp_equiv o) q at.1 ys at.4 ∙ ap (λ x. list_any (eq_by_cmp R x) ys) (sym at.3) ∙ p.among at.0 at.1 (omega (arith, at.2));
  }

  module _ (i j : ℕ) (p : Passed R xs ys i j) (ups : IsStrictlySortedBy R xs) (x : K) (here : i < length xs) (is : x ≡ get_or xs i x) where
    x_at : (d : K) → get_or xs i d ≡ x
    x_at d = get_or_default xs i d x here ∙ sym is

    -- the second is passed, or its next is above
    found : ((m : ℕ) (d : K) → j ≤ m → m < length ys → R (get_or ys m d) x ≡ Greater) → Found R (In (of_list {R = R} xs)) (In (of_list {R = R} ys)) (Some x)
    found over = record {
      is = record {
        member = contains-of_list o xs x ∙ list_any_at (eq_by_cmp R x) xs i x here (ap (eq_by_cmp R x) (sym is) ∙ ap is_eq (tied_itself o x));
        lacking = λ h. absurd (false≢true (sym (contains-of_list o ys x ∙ missed_by_search o ys x j ((λ m d _ h. ap (R (get_or ys m d)) (sym (x_at d)) ∙ p.below m i d h (omega arith) here), over)) ∙ h));
        least = λ q h n.
            let at = Any-from_list_any (eq_by_cmp R q) xs (sym (contains-of_list o xs q) ∙ h) in
            let tie : R q at.1 ≡ Equal = (Equal-is (R q at.1)).0 at.4 in
            ap is_gt (alike_right o q at.1 x tie) ∙ elim (cases_order at.0 i) [
              | inl same ↦ ap is_gt (ap (R x) (sym at.3 ∙ ap (λ m. get_or xs m at.1) same ∙ x_at at.1) ∙ tied_itself o x)
              | inr (inl before) ↦ absurd (n (contains-of_list o ys q ∙ list_any_congr (eq_by_cmp_equiv o) q at.1 ys at.4 ∙ ap (λ x. list_any (eq_by_cmp R x) ys) (sym at.3) ∙ p.among at.0 at.1 before))
              | inr (inr after) ↦ ap is_gt (ap (λ y. R y at.1) (sym (x_at at.1)) ∙ ap (R (get_or xs i at.1)) (sym at.3) ∙ Less-from_sorted R xs i at.0 at.1 ups after at.2)
            ];
      };
    }

    pub past_the_end : length ys ≤ j → Found R (In (of_list {R = R} xs)) (In (of_list {R = R} ys)) (Some x)
    past_the_end end = found (λ m d above high. absurd (omega (arith, above, high)))

    module _ (upt : IsStrictlySortedBy R ys) (y : K) (there : j < length ys) (is_y : y ≡ get_or ys j y) where
      y_at : (d : K) → get_or ys j d ≡ y
      y_at d = get_or_default ys j d y there ∙ sym is_y

      -- what comes in the second from here on, against what is below its next
      later : (z : K) → R z y ≡ Less → (m : ℕ) (d : K) → j ≤ m → m < length ys → R z (get_or ys m d) ≡ Less
      later z less m d above high = elim (cases_lt j m) [
        | inl after ↦ o.trans z y _ less (ap (λ u. R u (get_or ys m d)) (sym (y_at d)) ∙ Less-from_sorted R ys j m d upt after high)
        | inr same ↦ let at : m ≡ j = omega (arith, above) in ap (R z) (ap (λ n. get_or ys n d) at ∙ y_at d) ∙ less
      ]

      pub next_above : R x y ≡ Less → Found R (In (of_list {R = R} xs)) (In (of_list {R = R} ys)) (Some x)
      next_above less = found (λ m d above high. turned_back o _ _ (later x less m d above high))

      -- the next of the second is below the rest of the first
      passes : (k : ℕ) (d : K) → R y x ≡ Less → i ≤ k → k < length xs → R y (get_or xs k d) ≡ Less
      passes k d less above high = elim (cases_lt i k) [
        | inl after ↦ o.trans y x _ less (ap (λ u. R u (get_or xs k d)) (sym (x_at d)) ∙ Less-from_sorted R xs i k d ups after high)
        | inr same ↦ let at : k ≡ i = omega (arith, above) in ap (R y) (ap (λ n. get_or xs n d) at ∙ x_at d) ∙ less
      ]

      -- what is in both
      pub both_more : R x y ≡ Equal → Passed R xs ys (i + 1) (j + 1)
      both_more tie = record {
        i_within = omega arith;
        j_within = omega arith;
        among = λ k d h. elim (cases_lt k i) [
          | inl before ↦ p.among k d before
          | inr same ↦ let at : k ≡ i = omega (arith, h) in
              list_any_at (eq_by_cmp R (get_or xs k d)) ys j y there (ap is_eq (ap (λ u. R u (get_or ys j y)) (ap (λ n. get_or xs n d) at ∙ x_at d) ∙ ap (R x) (sym is_y) ∙ tie))
        ];
        below = λ m k d lower above high. elim (cases_lt m j) [
          | inl before ↦ p.below m k d before (omega (arith, above)) high
          | inr same ↦ let at : m ≡ j = omega (arith, lower) in
              ap (λ u. R u (get_or xs k d)) (ap (λ n. get_or ys n d) at ∙ y_at d)
              ∙ o.congr y x _ (tied_back o x y tie)
              ∙ ap (λ u. R u (get_or xs k d)) (sym (x_at d))
              ∙ Less-from_sorted R xs i k d ups (omega (arith, above)) high
        ];
      }

      -- what is only in the second
      pub second_more : R x y ≡ Greater → Passed R xs ys i (j + 1)
      second_more more = record {
        i_within = p.i_within;
        j_within = omega arith;
        among = p.among;
        below = λ m k d lower above high. elim (cases_lt m j) [
          | inl before ↦ p.below m k d before above high
          | inr same ↦ let at : m ≡ j = omega (arith, lower) in
              ap (λ u. R u (get_or xs k d)) (ap (λ n. get_or ys n d) at ∙ y_at d) ∙ passes k d (turned o x y more) above high
        ];
      }
