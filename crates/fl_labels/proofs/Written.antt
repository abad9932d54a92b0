-- The text of items in braces, an item at a time.
use Rattle.std.proofs.Common.{◌≡◌, ℕ, List, [], ◌∷◌, ◌++◌, ◌≤◌, length, take, map, sym, ap, ◌∙◌, append-nil, arith, Ordering}
use Rattle.std.specs.Cmp.{IsTotalOrder}
use Rattle.std.specs.FinMap.{IsAntisymmetric}
use Rattle.std.specs.List.{join_with_byte, flat_map}
use Rattle.std.specs.List.Sorted.{IsStrictlySortedBy}
use Rattle.std.proofs.lemmas.List.{take_all}
use Rattle.fl_labels.specs.SetBy.{SetBy, of_list, members, members-of_list}
use Rattle.fl_labels.specs.Text.{braces}

module _ {K : Type 0} (text : K → List ℕ) where
  joined : (x : K) (xs : List K) → join_with_byte 44 (map text (x ∷ xs)) ≡ text x ++ flat_map (λ y. 44 ∷ text y) xs
  joined x [] = sym (append-nil _)
  joined x (y ∷ ys) = ap (λ bs. text x ++ 44 ∷ bs) (joined y ys)

  braces_first : (x : K) (xs : List K) → braces text (x ∷ xs) ≡ ((123 ∷ text x) ++ flat_map (λ y. 44 ∷ text y) xs) ++ 125 ∷ []
  braces_first x xs = ap (λ bs. 123 ∷ (bs ++ 125 ∷ [])) (joined x xs)

  module _ {R : K → K → Ordering} (o : IsTotalOrder R) (exact : IsAntisymmetric R) (xs : List K) (s : SetBy R) (up : IsStrictlySortedBy R xs) (view : of_list xs ≡ s) (ys : List K) (same : ys ≡ xs) where
    -- the text of a set is that of its items as they are kept
    set_text : braces text (members s) ≡ braces text xs
    set_text = ap (λ u. braces text (members u)) (sym view) ∙ ap (braces text) (members-of_list o exact xs up)

    pub set_text_none : length ys ≡ 0 → 123 ∷ 125 ∷ [] ≡ braces text (members s)
    set_text_none e = go ys same e
      where
        go : (ys : List K) → ys ≡ xs → length ys ≡ 0 → 123 ∷ 125 ∷ [] ≡ braces text (members s)
        go [] same e = ap (braces text) same ∙ sym set_text
        go (y ∷ ys) same e = absurd (omega arith)

    pub set_text_some : (x : K) (rest : List K) (n : ℕ) → ys ≡ x ∷ rest → length rest ≤ n → ((123 ∷ text x) ++ flat_map (λ y. 44 ∷ text y) (take n rest)) ++ 125 ∷ [] ≡ braces text (members s)
    set_text_some x rest n parts all = ap (λ us. ((123 ∷ text x) ++ flat_map (λ y. 44 ∷ text y) us) ++ 125 ∷ []) (take_all n rest all) ∙ sym (braces_first x rest) ∙ ap (braces text) (sym parts ∙ same) ∙ sym set_text
