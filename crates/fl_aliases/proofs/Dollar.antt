-- A text is cut where a `$` stands.
use Rattle.std.proofs.Common.{◌≡◌, ◌∙◌, ◌<◌, ◌+◌, ◌++◌, ℕ, List, ◌∷◌, length, take, drop, slice_index, sym, ap}
use Rattle.std.proofs.lemmas.List.{take-append-drop, drop_more}

pub cut_dollar : (text : List ℕ) (at : ℕ) → at < length text → slice_index text at ≡ 36 → text ≡ take at text ++ 36 ∷ drop (at + 1) text
cut_dollar text at inside found =
    sym (take-append-drop at text)
    ∙ ap (λ x. take at text ++ x) (drop_more text at 0 inside ∙ ap (λ b. b ∷ drop (at + 1) text) found)
