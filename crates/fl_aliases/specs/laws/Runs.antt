-- The letters at the front of bytes.
use Rattle.std.proofs.Common.{◌≡◌, ◌≢◌, ◌<◌, ◌≤◌, ◌⊎◌, inl, inr, ℕ, suc, ◌+◌, Bool, true, false, cond, List, [], ◌∷◌, ◌++◌, get_or, length, take, drop, sym, ap, subst, refl, ◌∙◌, true≢false, arith}
use Rattle.std.specs.List.{prefix_len}
use Rattle.std.specs.Str.{IsUtf8, IsCharBoundary}
use Rattle.std.proofs.lemmas.List.{take-append-drop, length-take}
use Rattle.std.proofs.lemmas.List.Elements.{All-nil, All-cons, All-head, All-tail}
use Rattle.std.proofs.lemmas.List.Sums.{prefix_len-le-length}
use Rattle.std.proofs.lemmas.Str.{IsCharBoundary-from_take}
use Rattle.fl_aliases.specs.Alias.{is_letter, AllLetters, IsAlias}
use Rattle.fl_aliases.specs.Expansion.{NoLetterFirst}
use Rattle.fl_aliases.specs.laws.Letters.{letters_utf8}

abbrev IsLetter : ℕ → Type 0
IsLetter b = is_letter b ≡ true

pub head_of : {a b : ℕ} {xs ys : List ℕ} → a ∷ xs ≡ b ∷ ys → a ≡ b
head_of {a} e = ap (λ l. get_or l 0 a) e

pub tail_of : {a b : ℕ} {xs ys : List ℕ} → a ∷ xs ≡ b ∷ ys → xs ≡ ys
tail_of e = ap (drop 1) e

-- the letters in front are letters, and no more follow
Split : List ℕ → ℕ → Type 0
Split bytes n = AllLetters (take n bytes) × NoLetterFirst (drop n bytes)

one_more : (b : ℕ) (bytes : List ℕ) (n : ℕ) (r : Bool) → is_letter b ≡ r → Split bytes n → Split (b ∷ bytes) (cond r (1 + n) 0)
unfolding Split
one_more b bytes n true e rest =
    let both : Split (b ∷ bytes) (suc n) = (All-cons IsLetter b _ e rest.0, rest.1) in
    subst (Split (b ∷ bytes)) {x = suc n} (omega arith) both
one_more b bytes n false e rest = (All-nil IsLetter, e)

pub front_letters : (bytes : List ℕ) → AllLetters (take (prefix_len is_letter bytes) bytes) × NoLetterFirst (drop (prefix_len is_letter bytes) bytes)
unfolding Split
front_letters [] = (All-nil IsLetter, tt)
front_letters (b ∷ bytes) = one_more b bytes (prefix_len is_letter bytes) (is_letter b) refl (front_letters bytes)

-- a text may be cut behind them
pub cut_behind : (text : List ℕ) → IsUtf8 text → IsCharBoundary text (prefix_len is_letter text)
cut_behind text utf8 = IsCharBoundary-from_take text _ utf8 (prefix_len-le-length is_letter text) (letters_utf8 _ (front_letters text).0)

-- letters that no letter follows are found again
pub same_front : (xs ys r s : List ℕ) → AllLetters xs → NoLetterFirst r → AllLetters ys → NoLetterFirst s → xs ++ r ≡ ys ++ s → (xs ≡ ys) × (r ≡ s)
same_front [] [] r s ax nr ay ns e = (refl, e)
same_front [] (y ∷ ys) [] s ax nr ay ns e = absurd (cc)
same_front [] (y ∷ ys) (b ∷ r) s ax nr ay ns e = absurd (true≢false (sym (All-head IsLetter y ys ay) ∙ ap is_letter (sym (head_of e)) ∙ nr))
same_front (x ∷ xs) [] r [] ax nr ay ns e = absurd (cc)
same_front (x ∷ xs) [] r (b ∷ s) ax nr ay ns e = absurd (true≢false (sym (All-head IsLetter x xs ax) ∙ ap is_letter (head_of e) ∙ ns))
same_front (x ∷ xs) (y ∷ ys) r s ax nr ay ns e =
    let rest = same_front xs ys r s (All-tail IsLetter x xs ax) nr (All-tail IsLetter y ys ay) ns (tail_of e) in
    ((λ i. head_of e i ∷ rest.0 i), rest.1)

-- the letters in front are an alias where they are neither none nor too many
pub front_alias : (text : List ℕ) (n : ℕ) → n ≡ prefix_len is_letter text → n ≢ 0 → n ≤ 32 → IsAlias (take n text)
front_alias text n count some short =
    let within : n ≤ length text = omega (arith, count, prefix_len-le-length is_letter text) in
    record {
      some = omega (arith, some, within, length-take n text);
      short = omega (arith, short, length-take n text);
      letters = subst (λ k. AllLetters (take k text)) (sym count) (front_letters text).0;
    }

none_in_none : (text : List ℕ) (n : ℕ) → n ≡ 0 → ¬ IsAlias (take n text)
none_in_none text n none alias = absurd (omega (arith, none, alias.some, length-take n text))

too_many_letters : (text : List ℕ) (n : ℕ) → n ≡ prefix_len is_letter text → 32 < n → ¬ IsAlias (take n text)
too_many_letters text n count many alias =
    let within : n ≤ length text = omega (arith, count, prefix_len-le-length is_letter text) in
    absurd (omega (arith, many, within, alias.short, length-take n text))

-- the text is the letters in front, and what is behind them
pub found_front : (text front behind alias : List ℕ) (n : ℕ) → n ≡ prefix_len is_letter text → front ≡ take n text → behind ≡ drop n text → alias ≡ front → IsAlias (take n text) → (text ≡ alias ++ behind) × IsAlias alias × NoLetterFirst behind
found_front text front behind alias n count f b is are = (
  sym (take-append-drop n text) ∙ ap (λ l. l ++ drop n text) (sym (is ∙ f)) ∙ ap (λ l. alias ++ l) (sym b),
  subst IsAlias (sym (is ∙ f)) are,
  subst NoLetterFirst (ap (λ k. drop k text) (sym count) ∙ sym b) (front_letters text).1,
)

-- they are none, or too many, and then no alias is in front
pub no_front : (text : List ℕ) (n : ℕ) → n ≡ prefix_len is_letter text → (n ≡ 0) ⊎ (32 < n) → (letters rest : List ℕ) → IsAlias letters → NoLetterFirst rest → text ≡ letters ++ rest → ⊥
no_front text n count bad letters rest alias longest e =
    let m = prefix_len is_letter text in
    let same = same_front (take m text) letters (drop m text) rest (front_letters text).0 (front_letters text).1 alias.letters longest (take-append-drop m text ∙ e) in
    let front = subst IsAlias (sym (ap (λ k. take k text) count ∙ same.0)) alias in
    elim bad [ inl none ↦ none_in_none text n none front | inr many ↦ too_many_letters text n count many front ]
