-- Words that end in `as $x`.
use Rattle.std.proofs.Common.{◌≡◌, ◌≢◌, ◌<◌, ◌≤◌, ◌+◌, ◌-◌, ℕ, suc, List, [], ◌∷◌, ◌++◌, length, map, get_or, take, drop, sym, ap, refl, ◌∙◌, codes, length-append, length-drop, take-append-drop, Bor, arith}
use Rattle.std.proofs.lemmas.List.{drop_more, length-map, get_or-map, take-map}
use Rattle.fl_aliases.specs.Alias.{IsAliasWord, alias_text}
use Rattle.fl_aliases.specs.Words.{Word}
use Rattle.fl_script.specs.Reading.{EndsInAlias}

-- the word so many places behind the front
behind : (front : List Word) (a b : Word) → (get_or (front ++ a ∷ b ∷ []) (length front) [] ≡ a) × (get_or (front ++ a ∷ b ∷ []) (suc (length front)) [] ≡ b)
behind [] a b = (refl, refl)
behind (x ∷ front) a b = behind front a b

-- lists that end in two words each are equal part by part
pub same_ends : (xs ys : List Word) (a b c d : Word) → xs ++ a ∷ b ∷ [] ≡ ys ++ c ∷ d ∷ [] → (xs ≡ ys) × (b ≡ d)
same_ends [] [] a b c d e = (refl, cc)
same_ends [] (y ∷ ys) a b c d e = absurd (omega (arith, ap length e, length-append ys (c ∷ d ∷ [])))
same_ends (x ∷ xs) [] a b c d e = absurd (omega (arith, ap length e, length-append xs (a ∷ b ∷ [])))
same_ends (x ∷ xs) (y ∷ ys) a b c d e =
    let rest = same_ends xs ys a b c d (ap (drop 1) e) in
    ((λ i. get_or (e i) 0 x ∷ rest.0 i), rest.1)

two_last : (words : List Word) → 2 ≤ length words → words ≡ take (length words - 2) words ++ get_or words (length words - 2) [] ∷ get_or words (length words - 1) [] ∷ []
two_last words long =
    let k = length words - 2 in
    let more = drop_more words k [] (omega arith) ∙ ap (λ l. get_or words k [] ∷ l) (drop_more words (k + 1) [] (omega arith)) in
    let last : k + 1 ≡ length words - 1 = omega arith in
    let none : drop ((k + 1) + 1) words ≡ [] = drop_past words ((k + 1) + 1) (omega arith) in
    sym (take-append-drop k words) ∙ ap (λ l. take k words ++ l) (more ∙ (λ i. get_or words k [] ∷ get_or words (last i) [] ∷ none i))
  where
    drop_past : (l : List Word) (n : ℕ) → length l ≤ n → drop n l ≡ []
    drop_past l n short = empty (drop n l) (omega (arith, short, length-drop n l))
      where
        empty : (l : List Word) → length l ≡ 0 → l ≡ []
        empty [] e = refl
        empty (x ∷ l) e = absurd (omega (arith, e))

-- the last two words, where words end so
ended : (words front : List Word) (alias : List ℕ) → EndsInAlias front alias words → (2 ≤ length words) × (get_or words (length words - 2) [] ≡ codes "as") × (get_or words (length words - 1) [] ≡ alias_text alias)
ended words front alias s =
    let parts = behind front (codes "as") (alias_text alias) in
    let count : length words ≡ length front + 2 = ap length s.split ∙ length-append front (codes "as" ∷ alias_text alias ∷ []) in
    let two : length words - 2 ≡ length front = omega arith in
    let one : length words - 1 ≡ suc (length front) = omega arith in
    (omega arith, (λ i. get_or (s.split i) (two i) []) ∙ parts.0, (λ i. get_or (s.split i) (one i) []) ∙ parts.1)

module _ (words : List (Bor Word)) where
  texts : List Word
  texts = map (λ w. w.now) words

  many : length texts ≡ length words
  unfolding texts
  many = length-map words (λ w. w.now)

  last_at : (i : ℕ) (d : Bor Word) → i < length words → get_or texts i [] ≡ (get_or words i d).now
  unfolding texts
  last_at i d inside = get_or-map (λ w. w.now) words i d [] inside

  pub too_short : length words < 2 → (front : List Word) (alias : List ℕ) → EndsInAlias front alias (map (λ w. w.now) words) → ⊥
  unfolding texts
  too_short short front alias s = absurd (omega (arith, short, many, (ended texts front alias s).0))

  pub other_word : (d : Bor Word) → 2 ≤ length words → (get_or words (length words - 2) d).now ≢ codes "as" → (front : List Word) (alias : List ℕ) → EndsInAlias front alias (map (λ w. w.now) words) → ⊥
  unfolding texts
  other_word d long other front alias s =
      let at = ended texts front alias s in
      other (sym (last_at (length words - 2) d (omega arith)) ∙ ap (λ n. get_or texts (n - 2) []) (sym many) ∙ at.1)

  pub other_last : (d : Bor Word) → 2 ≤ length words → ((alias : List ℕ) → IsAliasWord alias (get_or words (length words - 1) d).now → ⊥) → (front : List Word) (alias : List ℕ) → EndsInAlias front alias (map (λ w. w.now) words) → ⊥
  unfolding texts
  other_last d long none front alias s =
      let at = ended texts front alias s in
      none alias (record { alias = s.is_alias; spelled = sym (last_at (length words - 1) d (omega arith)) ∙ ap (λ n. get_or texts (n - 1) []) (sym many) ∙ at.2 })

  pub ends_so : (d e : Bor Word) (alias : List ℕ) → 2 ≤ length words → (get_or words (length words - 2) d).now ≡ codes "as" → IsAliasWord alias (get_or words (length words - 1) e).now → EndsInAlias (map (λ w. w.now) (take (length words - 2) words)) alias (map (λ w. w.now) words)
  unfolding texts
  ends_so d e alias long word last = record {
    split =
        two_last texts (omega (arith, long, many))
        ∙ ap (λ n. take (n - 2) texts ++ get_or texts (n - 2) [] ∷ get_or texts (n - 1) [] ∷ []) many
        ∙ (λ i. take-map (λ w. w.now) (length words - 2) words i ++ (last_at (length words - 2) d (omega arith) ∙ word) i ∷ (last_at (length words - 1) e (omega arith) ∙ last.spelled) i ∷ []);
    is_alias = last.alias;
  }
