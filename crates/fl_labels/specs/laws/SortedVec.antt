-- What the methods of a set in a sorted `Vec` owe: xs are the items as they were, s the set that they list, ys what
-- the search read.
use Rattle.std.proofs.Common.{Bool, ◌==◌, IsTrue, arith, true, ◌≡◌, ℕ, ◌<◌, ◌≤◌, List, length, get_or, sym, ap, subst, ◌∙◌, Result, Ok, Err, Ordering, Equal, is_ok}
use Rattle.std.proofs.lemmas.Bool.Decides.{nat_tests}
use Rattle.std.specs.Cmp.{IsTotalOrder, Equal-is, tied_itself}
use Rattle.std.specs.Ordering.{eq_by_cmp, is_eq}
use Rattle.std.proofs.lemmas.Map.Views.{Contains-from_any}
use Rattle.std.proofs.lemmas.List.Folds.{list_any_at}
use Rattle.std.specs.FinMap.{IsAntisymmetric}
use Rattle.std.specs.List.{insert, remove, All}
use Rattle.std.specs.List.Sorted.{IsStrictlySortedBy, IsBinarySearchResult, IsSearchInRange}
use Rattle.fl_labels.specs.SetBy.{SetBy, contains, of_list, members, len, members-of_list, len-members, contains-of_list}
use Rattle.fl_labels.specs.SetBy as set
use Rattle.fl_labels.specs.laws.Rising.{search_answers, searchable, rising_insert, rising_remove, of_list-insert, of_list-remove, insert_member, remove_other}

-- a set after one change: its items still rise, and they are the set that is wanted
pub record Lists {K : Type 0} (R : K → K → Ordering) (xs : List K) (s : SetBy R) : Type 0 where
  pub rises : IsStrictlySortedBy R xs
  pub view : of_list xs ≡ s

module _ {K : Type 0} {R : K → K → Ordering} (o : IsTotalOrder R) (exact : IsAntisymmetric R) where
  pub len_listed : (xs : List K) (s : SetBy R) → IsStrictlySortedBy R xs → of_list xs ≡ s
      → len s ≡ length xs
  len_listed xs s up view = len-members s
      ∙ ap length (ap members (sym view) ∙ members-of_list o exact xs up)

  pub short_listed : (n : ℕ) (xs : List K) (s : SetBy R) → IsStrictlySortedBy R xs → of_list xs ≡ s
      → length xs ≤ n → len s ≤ n
  short_listed n xs s up view short = omega (arith, len_listed xs s up view)

  module _ (xs : List K) (s : SetBy R) (up : IsStrictlySortedBy R xs) (view : of_list xs ≡ s)
      (ys : List K) (same : ys ≡ xs) (x : K) where
    pub answers : (r : Result ℕ ℕ) → IsSearchInRange r (length ys)
        → IsBinarySearchResult (λ y. R y x) ys r → contains s x ≡ is_ok r
    answers r within at = ap (λ t. contains t x) (sym view ∙ ap of_list (sym same))
        ∙ search_answers o ys x r (subst (IsStrictlySortedBy R) (sym same) up) within at

    pub inserted : (i : ℕ) (zs : List K) → i ≤ length ys
        → IsBinarySearchResult (λ y. R y x) ys (Err i) → zs ≡ insert xs i x
        → Lists R zs (set.insert s x)
    inserted i zs within at new =
        let up' = subst (IsStrictlySortedBy R) (sym same) up in
        let new' : insert ys i x ≡ zs = ap (λ l. insert l i x) same ∙ sym new in
        record {
          rises = subst (IsStrictlySortedBy R) new'
              (rising_insert o ys x i up' within (at (searchable o ys x up')));
          view = ap of_list new ∙ of_list-insert o exact xs i x ∙ ap (λ t. set.insert t x) view;
        }

    pub removed : (i : ℕ) (zs : List K) → i < length ys
        → IsBinarySearchResult (λ y. R y x) ys (Ok i) → zs ≡ remove xs i
        → Lists R zs (set.remove s x)
    removed i zs within at new =
        let here : i < length xs = subst (λ l. i < length l) same within in
        record {
          rises = subst (IsStrictlySortedBy R) (sym new) (rising_remove o xs x i up here);
          view = ap of_list new ∙ of_list-remove o exact xs i x up here
              (λ d. exact _ x (subst (λ l. R (get_or l i d) x ≡ Equal) same (at d)))
              ∙ ap (λ t. set.remove t x) view;
        }

    pub kept_insert : (i : ℕ) → i < length ys → IsBinarySearchResult (λ y. R y x) ys (Ok i)
        → s ≡ set.insert s x
    kept_insert i within at = sym (insert_member o exact s x (answers (Ok i) within at))

    pub kept_remove : (i : ℕ) → i ≤ length ys → IsBinarySearchResult (λ y. R y x) ys (Err i)
        → s ≡ set.remove s x
    kept_remove i within at = sym (remove_other o exact s x (answers (Err i) within at))

  -- what holds of each item holds of each member
  pub every_member : (P : K → Type 0) (xs : List K) (s : SetBy R) → of_list xs ≡ s → All P xs
      → (q : K) → contains s q ≡ true → P q
  every_member P xs s view all q h =
      let at = Contains-from_any {eq = eq_by_cmp R}
      (λ x y e. exact x y ((Equal-is (R x y)).0 e)) q xs
      (sym (contains-of_list o xs q) ∙ ap (λ t. contains t q) view ∙ h) in
      subst P at.2 (all at.0 q at.1)

  -- an item is a member
  pub item_member : (xs : List K) (s : SetBy R) → of_list xs ≡ s → (q : K) (k : ℕ) → k < length xs
      → get_or xs k q ≡ q → contains s q ≡ true
  item_member xs s view q k within at =
      ap (λ t. contains t q) (sym view) ∙ contains-of_list o xs q
      ∙ list_any_at (eq_by_cmp R q) xs k q within
      (ap (λ y. eq_by_cmp R q y) at ∙ ap is_eq (tied_itself o q))

-- a test of a length that is m tells whether the set is empty
pub empty_test : (b : Bool) (n m k : ℕ) → b ≡ (n == 0) → n ≡ m → k ≡ m
    → (IsTrue b → k ≡ 0) × (k ≡ 0 → IsTrue b)
empty_test b n m k test e f = (λ t. grind (arith, nat_tests), λ z. grind (arith, nat_tests))
