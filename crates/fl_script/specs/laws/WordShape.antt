-- What holds of the bytes of a line holds of those of its words.
use Rattle.std.proofs.Common.{◌≡◌, ◌≢◌, ◌==◌, ℕ, Bool, true, false, not, List, [], ◌∷◌, length, sym, subst, refl}
use Rattle.std.specs.List.{All, slice_split, onto_first}
use Rattle.std.proofs.lemmas.List.Elements.{All-nil, All-cons, All-head, All-tail, All-weaker, All-filter}
use Rattle.std.proofs.lemmas.List.Splits.{slice_split-cons_yes, slice_split-cons_no}
use Rattle.fl_aliases.specs.Expansion.{NoDollar}
use Rattle.fl_aliases.specs.Words.{Word, words_of}

abbrev is_space : ℕ → Bool
is_space b = b == 32

abbrev pieces : List ℕ → List Word
pieces line = slice_split is_space line

module _ (P : ℕ → Type 0) where
  first_more : (b : ℕ) (ps : List Word) → P b → All (λ p. All P p) ps → All (λ p. All P p) (onto_first b ps)
  first_more b [] h hs = All-cons (λ p. All P p) (b ∷ []) [] (All-cons P b [] h (All-nil P)) (All-nil (λ p. All P p))
  first_more b (p ∷ ps) h hs = All-cons (λ p. All P p) (b ∷ p) ps (All-cons P b p h (All-head (λ p. All P p) p ps hs)) (All-tail (λ p. All P p) p ps hs)

  piece_more : (b : ℕ) (line : List ℕ) (r : Bool) → is_space b ≡ r → (is_space b ≡ false → P b) → All (λ p. All P p) (pieces line) → All (λ p. All P p) (pieces (b ∷ line))
  piece_more b line true e h hs = subst (λ ps. All (λ p. All P p) ps) (sym (slice_split-cons_yes is_space b line e)) (All-cons (λ p. All P p) [] (pieces line) (All-nil P) hs)
  piece_more b line false e h hs = subst (λ ps. All (λ p. All P p) ps) (sym (slice_split-cons_no is_space b line e)) (first_more b (pieces line) (h e) hs)

  -- what holds of the bytes that are no spaces holds of those of the pieces
  in_pieces : (line : List ℕ) → All (λ b. is_space b ≡ false → P b) line → All (λ p. All P p) (pieces line)
  in_pieces [] h = All-cons (λ p. All P p) [] [] (All-nil P) (All-nil (λ p. All P p))
  in_pieces (b ∷ line) h = piece_more b line (is_space b) refl (All-head (λ b. is_space b ≡ false → P b) b line h) (in_pieces line (All-tail (λ b. is_space b ≡ false → P b) b line h))

-- no `$` in a line, none in its words
pub clean_words : (line : List ℕ) → NoDollar line → All NoDollar (words_of line)
clean_words line clean = All-filter (λ piece. not (length piece == 0)) NoDollar (pieces line) (in_pieces (λ b. b ≢ 36) line (All-weaker (λ b. b ≢ 36) (λ b. is_space b ≡ false → b ≢ 36) (λ b h e. h) line clean))
