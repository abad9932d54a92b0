-- Items in braces.
use Rattle.std.proofs.Common.{◌≡◌, ◌∙◌, ◌++◌, [], ◌∷◌, List, ℕ, sym, ap, map}
use Rattle.std.proofs.lemmas.List.{append_assoc, append-nil}
use Rattle.std.specs.List.{flat_map, join_with_byte}
use Rattle.fl_labels.specs.Text.{braces}

module _ {A : Type 0} (text : A → List ℕ) where
  abbrev pub behind_comma : A → List ℕ
  behind_comma a = 44 ∷ text a

  joined : (a : A) (items : List A)
      → join_with_byte 44 (map text (a ∷ items)) ≡ text a ++ flat_map behind_comma items
  joined a [] = sym (append-nil _)
  joined a (b ∷ items) = ap (λ bytes. text a ++ 44 ∷ bytes) (joined b items)

  pub braces_some : (a : A) (items : List A)
      → braces text (a ∷ items) ≡ (123 ∷ text a) ++ (flat_map behind_comma items ++ 125 ∷ [])
  braces_some a items =
      ap (λ bytes. 123 ∷ (bytes ++ 125 ∷ [])) (joined a items)
      ∙ ap (λ bytes. 123 ∷ bytes) (append_assoc (text a) (flat_map behind_comma items) (125 ∷ []))
