-- Lists that strictly rise in a total order, and the finite sets that they list.
use Rattle.std.proofs.Common.{◌≡◌, ℕ, ◌+◌, ◌-◌, ◌<◌, ◌≤◌, Bool, true, false, not, ◌||◌, ◌&&◌, List, [], ◌∷◌, ◌++◌, length, get_or, refl, sym, ap, ◌∙◌, inl, inr, arith, Result, Ok, Err, is_ok, Ordering, Less, Equal, Greater}
use Rattle.std.specs.Cmp.{IsTotalOrder, tied_itself, eq_by_cmp_equiv}
use Rattle.std.specs.FinMap.{IsAntisymmetric}
use Rattle.fl_labels.specs.SetBy.{SetBy, contains, of_list, contains_tied, contains-of_list, contains-insert, contains-remove, same_set, len, len-insert}
use Rattle.fl_labels.specs.SetBy as set
use Rattle.std.specs.List.{insert, remove, list_any, IsAllAdjacentAnswer}
use Rattle.std.specs.List.Sorted.{IsStrictlySortedBy, IsBinarySearchResult, IsSearchInRange, IsNonDecreasingBy, IsPartitionPoint}
use Rattle.std.specs.Ordering.{eq_by_cmp, is_eq, is_lt, ordering_index, ordering_reverse}
use Rattle.std.proofs.lemmas.List.Edits.{insert_end, length-insert, get_or-insert_below, get_or-insert_at, get_or-insert_above, length-remove, get_or-remove_below, get_or-remove_above}
use Rattle.std.proofs.lemmas.List.Folds.{list_any_at, list_any_none}
use Rattle.std.proofs.lemmas.List.Sorted.{searchable_from_sorted, IsPermutation-insert, IsPermutation-remove, list_any-IsPermutation}
use Rattle.std.proofs.lemmas.Map.Keys.{Less-from_sorted, sorted_from_all_adjacent}
use Rattle.std.proofs.lemmas.Bool.{cases_order, cases_lt, false≢true}
use Rattle.std.specs.Bool.{IsTrue}

not_less : (o : Ordering) → o ≡ Greater → is_lt o ≡ false
not_less o e = ap is_lt e

is_less : (o : Ordering) → true ≡ is_lt o → o ≡ Less
is_less Less e = refl
is_less Equal e = absurd (cc)
is_less Greater e = absurd (cc)

module _ {K : Type 0} {R : K → K → Ordering} (o : IsTotalOrder R) where
  pub turned : (x y : K) → R x y ≡ Greater → R y x ≡ Less
  turned x y e = o.antisymm y x ∙ ap ordering_reverse e

  pub turned_back : (x y : K) → R x y ≡ Less → R y x ≡ Greater
  turned_back x y e = o.antisymm y x ∙ ap ordering_reverse e

  -- what a binary search wants
  pub searchable : (xs : List K) (x : K) → IsStrictlySortedBy R xs
      → IsNonDecreasingBy (λ y. ordering_index (R y x)) xs
  searchable xs x up = searchable_from_sorted o (λ y. y) xs x
      (λ k d low high. not_less _
      (turned_back _ _ (Less-from_sorted R xs k (k + 1) d up (omega arith) high)))

  -- what it found is a member
  pub found_by_search : (xs : List K) (x : K) (i : ℕ) → i < length xs
      → ((d : K) → R (get_or xs i d) x ≡ Equal) → list_any (eq_by_cmp R x) xs ≡ true
  found_by_search xs x i h at =
      list_any_at (eq_by_cmp R x) xs i x h
      ((eq_by_cmp_equiv o).symm x (get_or xs i x) ∙ ap is_eq (at x))

  no_tie : (y x : K) (r : Ordering) → R y x ≡ r → is_eq r ≡ false → eq_by_cmp R x y ≡ false
  no_tie y x r e q = (eq_by_cmp_equiv o).symm x y ∙ ap is_eq e ∙ q

  -- what it did not find is none
  pub missed_by_search : (xs : List K) (x : K) (i : ℕ)
      → IsPartitionPoint (λ y. R y x ≡ Less) (λ y. R y x ≡ Greater) xs i
      → list_any (eq_by_cmp R x) xs ≡ false
  missed_by_search xs x i p = list_any_none (eq_by_cmp R x) xs (λ k d h.
      elim (cases_lt k i) [
        | inl below ↦ no_tie _ x Less (p.0 k d (omega arith) below) refl
        | inr above ↦ no_tie _ x Greater (p.1 k d above h) refl
      ])

  -- a binary search tells whether the key is a member
  pub search_answers : (xs : List K) (x : K) (r : Result ℕ ℕ) → IsStrictlySortedBy R xs
      → IsSearchInRange r (length xs) → IsBinarySearchResult (λ y. R y x) xs r
      → contains (of_list {R = R} xs) x ≡ is_ok r
  search_answers xs x (Ok i) up within at = contains-of_list o xs x
      ∙ found_by_search xs x i within at
  search_answers xs x (Err i) up within at = contains-of_list o xs x
      ∙ missed_by_search xs x i (at (searchable xs x up))

  along : {a b c d : K} → a ≡ c → b ≡ d → R c d ≡ Less → R a b ≡ Less
  along p q h = cc

  -- the place that a search gives keeps the order
  pub rising_insert : (xs : List K) (x : K) (i : ℕ) → IsStrictlySortedBy R xs → i ≤ length xs
      → IsPartitionPoint (λ y. R y x ≡ Less) (λ y. R y x ≡ Greater) xs i
      → IsStrictlySortedBy R (insert xs i x)
  rising_insert xs x i up h p = sorted_from_all_adjacent o (insert xs i x) x (λ k high.
      let n = length-insert xs i x h in
      elim (cases_order k i) [
        | inl at ↦ along (ap (λ m. get_or (insert xs i x) m x) at ∙ get_or-insert_at xs i x x h)
            (get_or-insert_above xs i x x k (omega arith) h)
            (turned _ _ (p.1 k x (omega arith) (omega arith)))
        | inr (inl below) ↦ elim (cases_lt (k + 1) i) [
          | inl next ↦ along (get_or-insert_below xs i x x k below h)
              (get_or-insert_below xs i x x (k + 1) next h)
              (Less-from_sorted R xs k (k + 1) x up (omega arith) (omega arith))
          | inr last ↦ let at : k + 1 ≡ i = omega arith in
              along (get_or-insert_below xs i x x k below h)
              (ap (λ m. get_or (insert xs i x) m x) at ∙ get_or-insert_at xs i x x h)
              (p.0 k x (omega arith) below)
        ]
        | inr (inr above) ↦ let at : k ≡ (k - 1) + 1 = omega arith in
            along (ap (λ m. get_or (insert xs i x) m x) at
            ∙ get_or-insert_above xs i x x (k - 1) (omega arith) h)
            (get_or-insert_above xs i x x k (omega arith) h)
            (Less-from_sorted R xs (k - 1) k x up (omega arith) (omega arith))
      ])

  pub rising_remove : (xs : List K) (x : K) (i : ℕ) → IsStrictlySortedBy R xs → i < length xs
      → IsStrictlySortedBy R (remove xs i)
  rising_remove xs x i up h = sorted_from_all_adjacent o (remove xs i) x (λ k high.
      let n = length-remove xs i h in
      elim (cases_lt (k + 1) i) [
        | inl next ↦ along (get_or-remove_below xs i x k (omega arith) h)
            (get_or-remove_below xs i x (k + 1) next h)
            (Less-from_sorted R xs k (k + 1) x up (omega arith) (omega arith))
        | inr past ↦ elim (cases_lt k i) [
          | inl below ↦ along (get_or-remove_below xs i x k below h)
              (get_or-remove_above xs i x (k + 1) past h)
              (Less-from_sorted R xs k (k + 1 + 1) x up (omega arith) (omega arith))
          | inr above ↦ along (get_or-remove_above xs i x k above h)
              (get_or-remove_above xs i x (k + 1) past h)
              (Less-from_sorted R xs (k + 1) (k + 1 + 1) x up (omega arith) (omega arith))
        ]
      ])

  module _ (exact : IsAntisymmetric R) where
    -- to insert at any place is to insert into the set
    pub of_list-insert : (xs : List K) (i : ℕ) (x : K)
        → of_list {R = R} (insert xs i x) ≡ set.insert (of_list xs) x
    of_list-insert xs i x = same_set o exact _ _ (λ q.
        contains-of_list o (insert xs i x) q
        ∙ sym (list_any-IsPermutation (eq_by_cmp R q) (x ∷ xs) (insert xs i x)
        (IsPermutation-insert xs i x))
        ∙ sym (contains-insert o (of_list xs) x q
        ∙ ap (λ b. eq_by_cmp R q x || b) (contains-of_list o xs q)))

    -- what is a member already changes nothing
    pub insert_member : (s : SetBy R) (x : K) → contains s x ≡ true → set.insert s x ≡ s
    insert_member s x h = same_set o exact _ s (λ q. contains-insert o s x q ∙ go q (R q x) refl)
      where
        go : (q : K) (r : Ordering) → R q x ≡ r → (is_eq (R q x) || contains s q) ≡ contains s q
        go q Less e = rw e
        go q Equal e = rw e (sym h ∙ contains_tied o s q x e)
        go q Greater e = rw e

    -- the others at a place, in a list that rises, do not tie with what stands there
    others : (xs : List K) (i : ℕ) (x : K) → IsStrictlySortedBy R xs → i < length xs
        → ((d : K) → get_or xs i d ≡ x) → list_any (eq_by_cmp R x) (remove xs i) ≡ false
    others xs i x up h at = list_any_none (eq_by_cmp R x) (remove xs i) (λ k d high.
        let n = length-remove xs i h in
        elim (cases_lt k i) [
          | inl below ↦ no_tie _ x Less
              (along (get_or-remove_below xs i d k below h) (sym (at d))
              (Less-from_sorted R xs k i d up below h)) refl
          | inr above ↦
              let later : R x (get_or (remove xs i) k d) ≡ Less =
              along (sym (at d)) (get_or-remove_above xs i d k above h)
              (Less-from_sorted R xs i (k + 1) d up (omega arith) (omega arith)) in
              ap is_eq later
        ])

    -- to remove what stands at a place is to remove it from the set
    pub of_list-remove : (xs : List K) (i : ℕ) (x : K) → IsStrictlySortedBy R xs → i < length xs
        → ((d : K) → get_or xs i d ≡ x) → of_list {R = R} (remove xs i) ≡ set.remove (of_list xs) x
    of_list-remove xs i x up h at = same_set o exact _ _ (λ q.
        contains-of_list o (remove xs i) q ∙ go q (R q x) refl
        ∙ sym (contains-remove o (of_list xs) x q))
      where
        whole : (q : K) → contains
            (of_list {R = R} xs) q ≡ (eq_by_cmp R q x || list_any (eq_by_cmp R q) (remove xs i))
        whole q = contains-of_list o xs q
            ∙ list_any-IsPermutation (eq_by_cmp R q) xs (x ∷ remove xs i)
            (IsPermutation-remove xs i x h (sym (at x)))

        go : (q : K) (r : Ordering) → R q x ≡ r
            → list_any (eq_by_cmp R q)
            (remove xs i) ≡ (not (is_eq (R q x)) && contains (of_list {R = R} xs) q)
        go q Less e = rw (whole q, e)
        go q Equal e = rw (exact q x e, tied_itself o x) (others xs i x up h at)
        go q Greater e = rw (whole q, e)

    -- what is no member is not there to be removed
    pub remove_other : (s : SetBy R) (x : K) → contains s x ≡ false → set.remove s x ≡ s
    remove_other s x h = same_set o exact _ s (λ q. contains-remove o s x q ∙ go q (R q x) refl)
      where
        go : (q : K) (r : Ordering) → R q x ≡ r
            → (not (is_eq (R q x)) && contains s q) ≡ contains s q
        go q Less e = rw e
        go q Equal e = rw e (sym (sym (contains_tied o s q x e) ∙ h))
        go q Greater e = rw e

    -- to push is to insert
    pub of_list-push : (xs : List K) (x : K)
        → of_list {R = R} (xs ++ x ∷ []) ≡ set.insert (of_list xs) x
    of_list-push xs x = ap of_list (sym (insert_end xs x)) ∙ of_list-insert xs (length xs) x

  -- a test of each item and the next tells whether a list rises
  rises_where : (xs : List K) → IsAllAdjacentAnswer (λ x y b. b ≡ is_lt (R x y)) xs true
      → IsStrictlySortedBy R xs
  unfolding IsStrictlySortedBy
  rises_where [] h = tt
  rises_where (x ∷ xs) h = sorted_from_all_adjacent o (x ∷ xs) x (λ k high. is_less _ (h k x high))

  falls_where : (xs : List K) → IsAllAdjacentAnswer (λ x y b. b ≡ is_lt (R x y)) xs false
      → IsStrictlySortedBy R xs → IsTrue false
  falls_where [] h up = absurd (omega (arith, h.1))
  falls_where (x ∷ xs) h up = h.2 x
      ∙ ap is_lt (Less-from_sorted R (x ∷ xs) h.0 (h.0 + 1) x up (omega arith) h.1)

  pub rises_answer : (xs : List K) (b : Bool)
      → IsAllAdjacentAnswer (λ x y b. b ≡ is_lt (R x y)) xs b
      → (IsTrue b → IsStrictlySortedBy R xs) × (IsStrictlySortedBy R xs → IsTrue b)
  rises_answer xs true h = (λ _. rises_where xs h, λ _. refl)
  rises_answer xs false h = (λ e. absurd (false≢true e), falls_where xs h)
