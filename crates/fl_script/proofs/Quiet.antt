-- Which lines are quiet, and which are texts.
use Rattle.std.proofs.Common.{◌≡◌, ◌≤◌, ◌<◌, ◌∙◌, ◌⊎◌, ◌↔◌, ◌==◌, inl, inr, refl, sym, ap, ℕ, Bool, true, false, not, cond, List, [], ◌∷◌, length, Option, None, Some, arith}
use Rattle.std.proofs.lemmas.Str.{IsUtf8-from_is_utf8, is_utf8-from_IsUtf8}
use Rattle.std.proofs.lemmas.Bool.{cases_lt, cases_eq, ne_eqb, false≢true}
use Rattle.std.specs.Str.{is_utf8}
use Rattle.std.specs.List.{slice_split, onto_first}
use Rattle.fl_aliases.specs.Words.{words_of, full_pieces}
use Rattle.fl_script.specs.Reading.{first_mark, IsQuiet, IsText, SaysNothing}

-- bytes are a text or not
pub text_or_not : (bytes : List ℕ) → IsText bytes ⊎ (¬ IsText bytes)
text_or_not bytes = by_tests (is_utf8 bytes) refl (cases_lt 20000 (length bytes))
  where
    by_tests : (b : Bool) → is_utf8 bytes ≡ b → (20000 < length bytes) ⊎ (length bytes ≤ 20000) → IsText bytes ⊎ (¬ IsText bytes)
    by_tests b e (inl long) = inr (λ t. let short = t.short in absurd (omega arith))
    by_tests true e (inr short) = inl (record { short = short; utf8 = IsUtf8-from_is_utf8 bytes e })
    by_tests false e (inr short) = inr (λ t. false≢true (sym e ∙ is_utf8-from_IsUtf8 bytes t.utf8))

-- a line is quiet or not
pub quiet_or_not : (bytes : List ℕ) → IsQuiet bytes ⊎ (¬ IsQuiet bytes)
quiet_or_not bytes = by_mark (first_mark bytes) refl
  where
    by_byte : (b : ℕ) → first_mark bytes ≡ Some b → (b ≡ 35) ⊎ (b ≡ 35 → ⊥) → IsQuiet bytes ⊎ (¬ IsQuiet bytes)
    by_byte b e (inl f) = inl (record { is = inr (e ∙ ap Some f) })
    by_byte b e (inr n) = inr (λ q. elim q.is [ inl f ↦ absurd (cc) | inr f ↦ n (cc) ])

    by_mark : (o : Option ℕ) → first_mark bytes ≡ o → IsQuiet bytes ⊎ (¬ IsQuiet bytes)
    by_mark None e = inl (record { is = inl e })
    by_mark (Some b) e = by_byte b e (cases_eq b 35)

-- the mark is none, or that of a comment
record IsQuietMark (mark : Option ℕ) : Type 0 where
  is : (mark ≡ None) ⊎ (mark ≡ Some 35)

-- a word is a full piece
full : (b : ℕ) (p : List ℕ) → not (length (b ∷ p) == 0) ≡ true
full b p = ap not (ne_eqb (length (b ∷ p)) 0 (λ e. absurd (omega (arith, e))))

word_says : (b : ℕ) (pieces : List (List ℕ)) → IsQuietMark (Some b) → SaysNothing (full_pieces (onto_first b pieces))
word_says b [] m = elim m.is [ inl e ↦ absurd (cc) | inr e ↦ e ]
word_says b (p ∷ ps) m = rw (full b p) (elim m.is [ inl e ↦ absurd (cc) | inr e ↦ e ])

word_quiet : (b : ℕ) (pieces : List (List ℕ)) → SaysNothing (full_pieces (onto_first b pieces)) → IsQuietMark (Some b)
word_quiet b [] e = record { is = inr e }
word_quiet b (p ∷ ps) e = record { is = inr (rw (full b p) at e) }

-- the pieces of a line whose first byte is b, a space or not
abbrev onto : Bool → ℕ → List (List ℕ) → List (List ℕ)
onto is_space b pieces = full_pieces (cond is_space ([] ∷ pieces) (onto_first b pieces))

says_onto : (is_space : Bool) (b : ℕ) (mark : Option ℕ) (pieces : List (List ℕ)) → (IsQuietMark mark → SaysNothing (full_pieces pieces)) → IsQuietMark (cond (not is_space) (Some b) mark) → SaysNothing (onto is_space b pieces)
says_onto true b mark pieces below m = below m
says_onto false b mark pieces below m = word_says b pieces m

quiet_onto : (is_space : Bool) (b : ℕ) (mark : Option ℕ) (pieces : List (List ℕ)) → (SaysNothing (full_pieces pieces) → IsQuietMark mark) → SaysNothing (onto is_space b pieces) → IsQuietMark (cond (not is_space) (Some b) mark)
quiet_onto true b mark pieces below s = below s
quiet_onto false b mark pieces below s = word_quiet b pieces s

says : (bytes : List ℕ) → IsQuietMark (first_mark bytes) → SaysNothing (words_of bytes)
says [] m = tt
says (b ∷ bytes) m = says_onto (b == 32) b (first_mark bytes) (slice_split (λ x. x == 32) bytes) (says bytes) m

quiet : (bytes : List ℕ) → SaysNothing (words_of bytes) → IsQuietMark (first_mark bytes)
quiet [] s = record { is = inl refl }
quiet (b ∷ bytes) s = quiet_onto (b == 32) b (first_mark bytes) (slice_split (λ x. x == 32) bytes) (quiet bytes) s

-- a line is quiet where its words say nothing
pub quiet_by_words : (bytes : List ℕ) → IsQuiet bytes ↔ SaysNothing (words_of bytes)
quiet_by_words bytes = ((λ q. says bytes (record { is = q.is })), (λ s. record { is = (quiet bytes s).is }))
