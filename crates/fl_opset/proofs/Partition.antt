-- Binary searches in a list that strictly rises: at its end, and by a name that its order compares first.
use Rattle.std.proofs.Common.{◌≡◌, ◌≢◌, inl, inr, ℕ, ◌+◌, ◌-◌, ◌<◌, ◌≤◌, Bool, true, false, List, length, get_or, take, drop, refl, not, sym, ap, ◌∙◌, arith, Ordering, Less, Equal, Greater}
use Rattle.std.specs.Cmp.{IsTotalOrder, Equal-is, tied_itself}
use Rattle.std.specs.FinMap.{IsAntisymmetric}
use Rattle.std.specs.List.{All}
use Rattle.std.specs.List.Sorted.{IsStrictlySortedBy, IsPartitionPoint, IsPartitionedBy}
use Rattle.std.specs.Ordering.{eq_by_cmp, is_eq, is_lt, is_gt}
use Rattle.std.proofs.lemmas.Bool.{cases_lt, false≢true}
use Rattle.std.proofs.lemmas.List.{get_or_default, get_or-drop, take_rest, length-drop}
use Rattle.std.proofs.lemmas.Map.Keys.{Less-from_sorted}

-- an item of what follows a place
pub rest_item : {K : Type 0} (xs : List K) (start i : ℕ) (x : K) → i < length (take (length xs - start) (drop start xs)) → x ≡ get_or (take (length xs - start) (drop start xs)) i x → (start + i < length xs) × ((d : K) → get_or xs (start + i) d ≡ x)
rest_item xs start i x within at =
    let rest = take_rest xs start in
    let reach : start + i < length xs = omega (arith, length-drop start xs, ap length rest) in
    (reach, λ d. get_or_default xs (start + i) d x reach ∙ sym (at ∙ ap (λ l. get_or l i x) rest ∙ get_or-drop start xs i x))

module _ {K : Type 0} {R : K → K → Ordering} (o : IsTotalOrder R) where
  -- what `!=` answers
  pub apart : (a b : K) (r : Bool) → r ≡ not (eq_by_cmp R a b) → r ≡ true → a ≢ b
  apart a b r is h e = false≢true (ap not (sym (ap is_eq (ap (R a) (sym e) ∙ tied_itself o a))) ∙ sym is ∙ h)

  pub alike : IsAntisymmetric R → (a b : K) (r : Bool) → r ≡ not (eq_by_cmp R a b) → r ≡ false → a ≡ b
  alike exact a b r is h = exact a b ((Equal-is (R a b)).0 (holds _ (sym is ∙ h)))
    where
      holds : (b : Bool) → not b ≡ false → b ≡ true
      holds true e = refl
      holds false e = sym e

  less : (r : Ordering) → is_lt r ≡ true → r ≡ Less
  less Less e = refl
  less Equal e = absurd (cc)
  less Greater e = absurd (cc)

  -- each item is below what is above the last
  pub all_below : (xs : List K) (x last : K) → IsStrictlySortedBy R xs → ((d : K) → last ≡ get_or xs (length xs - 1) d) → is_lt (R last x) ≡ true → (k : ℕ) (d : K) → k < length xs → R (get_or xs k d) x ≡ Less
  all_below xs x last up at above k d within = elim (cases_lt k (length xs - 1)) [
    | inl before ↦ o.trans _ last x (ap (R (get_or xs k d)) (at d) ∙ Less-from_sorted R xs k (length xs - 1) d up before (omega arith)) (less _ above)
    | inr end ↦
        let here : k ≡ length xs - 1 = omega arith in
        ap (λ (y : K). R y x) (ap (λ n. get_or xs n d) here ∙ sym (at d)) ∙ less _ above
  ]

  -- so a search for it ends at the end
  pub at_end : (xs : List K) (x last : K) → IsStrictlySortedBy R xs → ((d : K) → last ≡ get_or xs (length xs - 1) d) → is_lt (R last x) ≡ true → IsPartitionPoint (λ y. R y x ≡ Less) (λ y. R y x ≡ Greater) xs (length xs)
  at_end xs x last up at above = (λ k d _ high. all_below xs x last up at above k d high, λ k d low high. absurd (omega arith))

-- R compares names first, by S
module _ {K N : Type 0} (R : K → K → Ordering) {S : N → N → Ordering} (s : IsTotalOrder S) (name : K → N) (first : (x y : K) → R x y ≡ Less → is_gt (S (name x) (name y)) ≡ false) (xs : List K) (up : IsStrictlySortedBy R xs) where
  -- the name of an item is not above that of a later one
  pub names_rise : (i j : ℕ) (d : K) → i ≤ j → j < length xs → is_gt (S (name (get_or xs i d)) (name (get_or xs j d))) ≡ false
  names_rise i j d order within = elim (cases_lt i j) [
    | inl before ↦ first _ _ (Less-from_sorted R xs i j d up before within)
    | inr after ↦
        let same : i ≡ j = omega arith in
        ap is_gt (ap (λ n. S (name (get_or xs n d)) (name (get_or xs j d))) same ∙ tied_itself s _)
  ]

  chain : (a b c : N) (r : Ordering) → S a b ≡ r → is_gt r ≡ false → is_lt (S b c) ≡ true → is_lt (S a c) ≡ true
  chain a b c Less e g h = ap is_lt (s.trans a b c e (less s _ h))
  chain a b c Equal e g h = ap is_lt (s.congr a b c e) ∙ h
  chain a b c Greater e g h = absurd (cc)

  pub below_parted : (n : N) → IsPartitionedBy (λ y. is_lt (S (name y) n)) xs
  below_parted n i j d order within h = chain _ _ n _ refl (names_rise i j d order within) h

  module _ (exact : IsAntisymmetric S) (n : N) (start : ℕ) (at : IsPartitionPoint (λ y. is_lt (S (name y) n) ≡ true) (λ y. is_lt (S (name y) n) ≡ false) xs start) where
    tie : (r : Ordering) → is_gt r ≡ false → is_lt r ≡ false → r ≡ Equal
    tie Less g h = absurd (cc)
    tie Equal g h = refl
    tie Greater g h = absurd (cc)

    -- where all items of that name that stand before m are x, and no item from m on has the name
    pub none_other : (x : K) (m : ℕ) → start ≤ m → ((k : ℕ) (d : K) → start ≤ k → k < m → get_or xs k d ≡ x) → ((d : K) → m < length xs → name (get_or xs m d) ≢ n) → All (λ y. name y ≡ n → y ≡ x) xs
    none_other x m high seen past k d within same = elim (cases_lt k start) [
      | inl before ↦ absurd (false≢true (ap is_lt (sym (ap (λ a. S a n) same ∙ tied_itself s n)) ∙ at.0 k d (omega arith) before))
      | inr after ↦ elim (cases_lt k m) [
        | inl known ↦ seen k d after known
        | inr late ↦
            let reach : m < length xs = omega arith in
            let rise : is_gt (S (name (get_or xs m d)) n) ≡ false = ap (λ a. is_gt (S (name (get_or xs m d)) a)) (sym same) ∙ names_rise m k d late within in
            absurd (past d reach (exact _ n (tie _ rise (at.1 m d high reach))))
      ]
    ]
