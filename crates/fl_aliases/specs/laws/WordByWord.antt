-- Words expand one by one.
use Rattle.std.proofs.Common.{◌≡◌, ◌≢◌, ℕ, ◌<◌, Bool, true, false, cond, not, Some, List, [], ◌∷◌, ◌++◌, length, filter, slice_get, sym, ap, subst, refl, ◌∙◌, true≢false, arith, length-append, ◌↔◌}
use Rattle.std.specs.Bool.{◌==◌}
use Rattle.std.specs.List.{All, AllZip, slice_split, onto_first}
use Rattle.std.proofs.lemmas.Bool.{ne_eqb}
use Rattle.std.proofs.lemmas.Bool.Decides.{nat_tests}
use Rattle.std.proofs.lemmas.Option.{same_Some}
use Rattle.std.proofs.lemmas.List.Splits.{slice_split-cons_yes, slice_split-cons_no}
use Rattle.std.proofs.lemmas.List.Elements.{All-head, All-tail, All-weaker, All-cons}
use Rattle.fl_aliases.specs.Alias.{is_letter, AllLetters, IsAlias, alias_text}
use Rattle.fl_aliases.specs.Expansion.{Expands, ends, stays, becomes, NoLetterFirst}
use Rattle.fl_aliases.specs.Table.{Table, target_of}
use Rattle.fl_aliases.specs.TargetText.{target_text}
use Rattle.fl_aliases.specs.Words.{words_of}
use Rattle.fl_aliases.specs.declared.target.Target.{Target}
use Rattle.fl_aliases.specs.laws.TargetWords.{target_in_word, target_some, Begins, target_begins}

abbrev is_space : ℕ → Bool
is_space b = b == 32

abbrev pieces : List ℕ → List (List ℕ)
pieces line = slice_split is_space line

abbrev NoSpace : List ℕ → Type 0
NoSpace bytes = All (λ b. is_space b ≡ false) bytes

-- the first of a line's pieces, and those after it
record Shape (line : List ℕ) : Type 0 where
  first : List ℕ
  more : List (List ℕ)
  cut : pieces line ≡ first ∷ more
  no_letter : NoLetterFirst line → NoLetterFirst first

shape_on : (b : ℕ) (line : List ℕ) (r : Bool) → is_space b ≡ r → Shape line → Shape (b ∷ line)
shape_on b line true e s = record { first = []; more = pieces line; cut = slice_split-cons_yes is_space b line e; no_letter = λ h. tt }
shape_on b line false e s = record { first = b ∷ s.first; more = s.more; cut = slice_split-cons_no is_space b line e ∙ ap (onto_first b) s.cut; no_letter = λ h. h }

shape : (line : List ℕ) → Shape line
shape [] = record { first = []; more = []; cut = refl; no_letter = λ h. tt }
shape (b ∷ line) = shape_on b line (is_space b) refl (shape line)

-- bytes with no space stand before the first piece
before : (bytes line first : List ℕ) (more : List (List ℕ)) → NoSpace bytes → pieces line ≡ first ∷ more → pieces (bytes ++ line) ≡ (bytes ++ first) ∷ more
before [] line first more none cut = cut
before (b ∷ bytes) line first more none cut =
    slice_split-cons_no is_space b (bytes ++ line) (All-head (λ b. is_space b ≡ false) b bytes none)
    ∙ ap (onto_first b) (before bytes line first more (All-tail (λ b. is_space b ≡ false) b bytes none) cut)

zipped : (R : List ℕ → List ℕ → Type 0) {ps ps' qs qs' : List (List ℕ)} → ps ≡ ps' → qs ≡ qs' → AllZip R ps' qs' → AllZip R ps qs
zipped R {ps} {ps'} {qs} {qs'} e f h = subst (λ xs. AllZip R xs qs) (sym e) (subst (λ ys. AllZip R ps' ys) (sym f) h)

letter_no_space : (b : ℕ) → is_letter b ≡ true → is_space b ≡ false
letter_no_space b h = grind (arith, nat_tests)

alias_no_space : (letters : List ℕ) → AllLetters letters → NoSpace (36 ∷ letters)
alias_no_space letters h = All-cons (λ b. is_space b ≡ false) 36 letters refl (All-weaker (λ b. is_letter b ≡ true) (λ b. is_space b ≡ false) letter_no_space letters h)

target_no_space : (t : Target) → NoSpace (target_text t)
target_no_space t = All-weaker (λ b. (b ≢ 32) × (b ≢ 36)) (λ b. is_space b ≡ false) (λ b h. ne_eqb b 32 h.0) _ (target_in_word t)

full : List ℕ → Bool
full piece = not (length piece == 0)

full_some : (bytes : List ℕ) → 0 < length bytes → full bytes ≡ true
unfolding full
full_some [] h = absurd (omega (arith, h))
full_some (b ∷ bytes) h = ap not (ne_eqb (length (b ∷ bytes)) 0 (λ e. absurd (omega (arith, e))))

module _ (table : Table) where
  stays_by_piece : (b : ℕ) (line out : List ℕ) (r : Bool) → is_space b ≡ r → b ≢ 36 → AllZip (Expands table) (pieces line) (pieces out) → AllZip (Expands table) (pieces (b ∷ line)) (pieces (b ∷ out))
  stays_by_piece b line out true e plain h = zipped (Expands table) (slice_split-cons_yes is_space b line e) (slice_split-cons_yes is_space b out e) (ends, h)
  stays_by_piece b line out false e plain h =
      let s = shape line in
      let t = shape out in
      let h = zipped (Expands table) (sym s.cut) (sym t.cut) h in
      zipped (Expands table) (slice_split-cons_no is_space b line e ∙ ap (onto_first b) s.cut) (slice_split-cons_no is_space b out e ∙ ap (onto_first b) t.cut) (stays plain h.0, h.1)

  becomes_by_piece : (letters rest out : List ℕ) (target : Target) → IsAlias letters → NoLetterFirst rest → target_of table letters ≡ Some target → AllZip (Expands table) (pieces rest) (pieces out) → AllZip (Expands table) (pieces (alias_text letters ++ rest)) (pieces (target_text target ++ out))
  becomes_by_piece letters rest out target alias longest found h =
      let s = shape rest in
      let t = shape out in
      let h = zipped (Expands table) (sym s.cut) (sym t.cut) h in
      zipped (Expands table) (before (36 ∷ letters) rest s.first s.more (alias_no_space letters alias.letters) s.cut) (before (target_text target) out t.first t.more (target_no_space target) t.cut)
      (becomes alias (s.no_letter longest) found h.0, h.1)

  by_piece : {line out : List ℕ} → Expands table line out → AllZip (Expands table) (pieces line) (pieces out)
  by_piece ends = (ends, tt)
  by_piece (stays {b} {line} {out} plain after) = stays_by_piece b line out (is_space b) refl plain (by_piece after)
  by_piece (becomes {letters} {rest} {out} {target} alias longest found after) = becomes_by_piece letters rest out target alias longest found (by_piece after)

  same_full : {line out : List ℕ} → Expands table line out → full line ≡ full out
  unfolding full
  same_full ends = refl
  same_full (stays {b} {line} {out} plain after) = full_some (b ∷ line) (omega arith) ∙ sym (full_some (b ∷ out) (omega arith))
  same_full (becomes {letters} {rest} {out} {target} alias longest found after) =
      full_some (36 ∷ (letters ++ rest)) (omega arith) ∙ sym (full_some (target_text target ++ out) (omega (arith, target_some target, length-append (target_text target) out)))

  kept : (p q : List ℕ) (ps qs : List (List ℕ)) (a b : Bool) → a ≡ b → Expands table p q → AllZip (Expands table) ps qs → AllZip (Expands table) (cond a (p ∷ ps) ps) (cond b (q ∷ qs) qs)
  kept p q ps qs true true e h hs = (h, hs)
  kept p q ps qs true false e h hs = absurd (true≢false e)
  kept p q ps qs false true e h hs = absurd (true≢false (sym e))
  kept p q ps qs false false e h hs = hs

  by_full : (ps qs : List (List ℕ)) → AllZip (Expands table) ps qs → AllZip (Expands table) (filter full ps) (filter full qs)
  by_full [] [] h = tt
  by_full [] (q ∷ qs) h = absurd h
  by_full (p ∷ ps) [] h = absurd h
  by_full (p ∷ ps) (q ∷ qs) h = kept p q _ _ (full p) (full q) (same_full h.0) h.0 (by_full ps qs h.1)

  -- words expand one by one
  pub by_word : (line out : List ℕ) → Expands table line out → AllZip (Expands table) (words_of line) (words_of out)
  unfolding full
  by_word line out h = by_full (pieces line) (pieces out) (by_piece h)

  at_first : (text out : List ℕ) → Begins text → slice_get (text ++ out) 0 ≡ Some 35 → ⊥
  at_first text out b e = b.no_comment (same_Some _ _ (ap (λ l. slice_get (l ++ out) 0) (sym b.is) ∙ e))

  dollar_begins : (letters : List ℕ) → Begins (36 ∷ letters)
  dollar_begins letters = record { first = 36; more = letters; is = refl; no_comment = λ e. absurd (omega (arith, e)) }

  -- a comment stays one, and no other line becomes one
  pub same_comment : {line out : List ℕ} → Expands table line out → (slice_get line 0 ≡ Some 35) ↔ (slice_get out 0 ≡ Some 35)
  same_comment ends = ((λ e. e), (λ e. e))
  same_comment (stays plain after) = ((λ e. e), (λ e. e))
  same_comment (becomes {letters} {rest} {out} {target} alias longest found after) = ((λ e. absurd (at_first (36 ∷ letters) rest (dollar_begins letters) e)), (λ e. absurd (at_first (target_text target) out (target_begins target) e)))
