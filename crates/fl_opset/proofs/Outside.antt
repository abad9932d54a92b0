-- The pieces of items that a test keeps, one item after another.
use Rattle.std.proofs.Common.{◌≡◌, ◌∙◌, ◌<◌, ◌+◌, sym, ap, ℕ, List, [], ◌∷◌, ◌++◌, Bool, true, false, length, take, drop, get_or, cond}
use Rattle.std.proofs.lemmas.List.{append-nil, take-append-drop, take_more, drop_more}
use Rattle.std.proofs.lemmas.List.Concat.{flat_map-append}
use Rattle.std.proofs.lemmas.List.Elements.{filter-append}
use Rattle.std.specs.List.{flat_map, filter}

module _ {X : Type 0} (f : X → List ℕ) (p : X → Bool) where
  pub pieces-append : (xs ys : List X) → flat_map f (filter p (xs ++ ys)) ≡ flat_map f (filter p xs) ++ flat_map f (filter p ys)
  pieces-append xs ys = ap (flat_map f) (filter-append p xs ys) ∙ flat_map-append f (filter p xs) (filter p ys)

  one_kept : (x : X) → p x ≡ true → flat_map f (filter p (x ∷ [])) ≡ f x
  one_kept x kept = ap (λ b. flat_map f (cond b (x ∷ []) [])) kept ∙ append-nil (f x)

  one_lost : (x : X) → p x ≡ false → flat_map f (filter p (x ∷ [])) ≡ []
  one_lost x lost = ap (λ b. flat_map f (cond b (x ∷ []) [])) lost

  -- one more item, which is kept
  pub kept_more : (xs : List X) (i : ℕ) (d : X) → i < length xs → p (get_or xs i d) ≡ true
      → flat_map f (filter p (take (i + 1) xs)) ≡ flat_map f (filter p (take i xs)) ++ f (get_or xs i d)
  kept_more xs i d inside kept =
      ap (λ ys. flat_map f (filter p ys)) (take_more xs i d inside)
      ∙ pieces-append (take i xs) (get_or xs i d ∷ [])
      ∙ ap (λ t. flat_map f (filter p (take i xs)) ++ t) (one_kept (get_or xs i d) kept)

  -- one more item, which is not
  pub lost_more : (xs : List X) (i : ℕ) (d : X) → i < length xs → p (get_or xs i d) ≡ false
      → flat_map f (filter p (take (i + 1) xs)) ≡ flat_map f (filter p (take i xs))
  lost_more xs i d inside lost =
      ap (λ ys. flat_map f (filter p ys)) (take_more xs i d inside)
      ∙ pieces-append (take i xs) (get_or xs i d ∷ [])
      ∙ ap (λ t. flat_map f (filter p (take i xs)) ++ t) (one_lost (get_or xs i d) lost)
      ∙ append-nil (flat_map f (filter p (take i xs)))

  -- the pieces about one item that is kept
  pub kept_at : (xs : List X) (i : ℕ) (d : X) → i < length xs → p (get_or xs i d) ≡ true
      → flat_map f (filter p xs) ≡ flat_map f (filter p (take i xs)) ++ (f (get_or xs i d) ++ flat_map f (filter p (drop (i + 1) xs)))
  kept_at xs i d inside kept =
      ap (λ ys. flat_map f (filter p ys)) (sym (take-append-drop i xs))
      ∙ pieces-append (take i xs) (drop i xs)
      ∙ ap (λ ys. flat_map f (filter p (take i xs)) ++ flat_map f (filter p ys)) (drop_more xs i d inside)
      ∙ ap (λ t. flat_map f (filter p (take i xs)) ++ t)
      (pieces-append (get_or xs i d ∷ []) (drop (i + 1) xs) ∙ ap (λ t. t ++ flat_map f (filter p (drop (i + 1) xs))) (one_kept (get_or xs i d) kept))
