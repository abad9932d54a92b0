-- Pieces that are put one after another.
use Rattle.std.specs.Prelude.{◌≡◌, ◌++◌, ◌+◌, ◌<◌, List, [], ◌∷◌, ℕ, length, take}
use Rattle.std.proofs.Common.{◌∙◌, sym, ap, drop, get_or}
use Rattle.std.proofs.lemmas.List.{append-nil, take-append-drop, take_more, drop_more}
use Rattle.std.proofs.lemmas.List.Concat.{flat_map-append}
use Rattle.std.specs.List.{flat_map}

-- one more piece
pub flat_map_more : {X : Type 0} (f : X → List ℕ) (xs : List X) (i : ℕ) (d : X) → i < length xs → flat_map f (take (i + 1) xs) ≡ flat_map f (take i xs) ++ f (get_or xs i d)
flat_map_more f xs i d inside = ap (flat_map f) (take_more xs i d inside) ∙ flat_map-append f (take i xs) (get_or xs i d ∷ []) ∙ ap (λ y. flat_map f (take i xs) ++ y) (append-nil (f (get_or xs i d)))

-- the pieces about one
pub flat_map_at : {X : Type 0} (f : X → List ℕ) (xs : List X) (i : ℕ) (d : X) → i < length xs → flat_map f xs ≡ flat_map f (take i xs) ++ (f (get_or xs i d) ++ flat_map f (drop (i + 1) xs))
flat_map_at f xs i d inside = ap (flat_map f) (sym (take-append-drop i xs)) ∙ flat_map-append f (take i xs) (drop i xs) ∙ ap (λ y. flat_map f (take i xs) ++ flat_map f y) (drop_more xs i d inside)
