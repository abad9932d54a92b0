-- Lines that are cut at their spaces.
use Rattle.std.proofs.Common.{◌≡◌, ◌<◌, ◌≤◌, ◌+◌, ◌-◌, ◌++◌, ◌==◌, ◌≢◌, ℕ, Bool, true, false, not, List, [], ◌∷◌, length, take, drop, get_or, arith, ap, sym, subst, ◌∙◌, refl, length-append, length-drop, append_assoc, append-nil}
use Rattle.std.specs.Bool.{MatchBool}
use Rattle.std.specs.List.{All, slice_range, slice_split}
use Rattle.std.specs.Str.{IsAscii}
use Rattle.std.proofs.lemmas.List.{drop_more, drop_all, take_all, take_more, take-append-drop, get_or-drop, drop-take}
use Rattle.std.proofs.lemmas.List.Elements.{filter-append, All-nil, All-cons, All-append, All-drop, All-more}
use Rattle.std.proofs.lemmas.List.Folds.{drop_split}
use Rattle.std.proofs.lemmas.List.Splits.{slice_split_none, slice_split_at}
use Rattle.std.proofs.lemmas.Str.Ascii.{IsAscii-from_all}
use Rattle.fl_aliases.specs.Expansion.{NoDollar}
use Rattle.fl_aliases.specs.Words.{full_pieces, words_of}
use Rattle.fl_script.specs.parts.Cut.{NoSpace}

abbrev space : ℕ → Bool
space b = b == 32

pub nothing : (line : List ℕ) → NoSpace (take 0 line)
nothing [] = All-nil (λ b. space b ≡ false)
nothing (b ∷ line) = All-nil (λ b. space b ≡ false)

-- no space stands in a piece of no bytes
pub piece_none : (line : List ℕ) (at : ℕ) → NoSpace (slice_range line at at)
piece_none line at =
    let e : at - at ≡ 0 = omega arith in
    subst (λ n. NoSpace (take n (drop at line))) (sym e) (nothing (drop at line))

-- nor in one with one more byte that is none
pub piece_more : (line : List ℕ) (start at : ℕ) → start ≤ at → at < length line
    → space (get_or line at 0) ≡ false → NoSpace (slice_range line start at) → NoSpace (slice_range line start (at + 1))
piece_more line start at low inside other none =
    let rest = drop start line in
    let long : at + 1 - start ≡ at - start + 1 = omega arith in
    let within : at - start < length rest = omega (arith, low, inside, length-drop start line) in
    let place : start + (at - start) ≡ at = omega arith in
    let last : get_or rest (at - start) 0 ≡ get_or line at 0 =
    get_or-drop start line (at - start) 0 ∙ ap (λ i. get_or line i 0) place in
    let more : take (at + 1 - start) rest ≡ take (at - start) rest ++ get_or rest (at - start) 0 ∷ [] =
    ap (λ n. take n rest) long ∙ take_more rest (at - start) 0 within in
    subst NoSpace (sym more)
    (All-append (λ b. space b ≡ false) (take (at - start) rest) (get_or rest (at - start) 0 ∷ [])
    none
    (All-cons (λ b. space b ≡ false) (get_or rest (at - start) 0) [] (ap space last ∙ other)
    (All-nil (λ b. space b ≡ false))))

-- a space parts a piece from what is behind it
pub cut_there : (line : List ℕ) (start at : ℕ) → start ≤ at → at < length line
    → get_or line at 0 ≡ 32
    → drop start line ≡ slice_range line start at ++ 32 ∷ drop (at + 1) line
cut_there line start at low inside is =
    drop_split line start at low
    ∙ ap (λ l. slice_range line start at ++ l)
    (drop_more line at 0 inside ∙ ap (λ b. b ∷ drop (at + 1) line) is)

-- the last piece is the rest
pub last_piece : (line : List ℕ) (start end : ℕ) → start ≤ end → length line ≤ end
    → NoSpace (slice_range line start end) → NoSpace (drop start line)
last_piece line start end low past none =
    let piece = slice_range line start end in
    subst NoSpace
    (sym (drop_split line start end low ∙ ap (λ l. piece ++ l) (drop_all end line past)
    ∙ append-nil piece))
    none

-- a `$` that stands there is in the line
pub dollar_there : (line : List ℕ) (at : ℕ) → at < length line → get_or line at 0 ≡ 36
    → ¬ NoDollar line
dollar_there line at inside is = λ clean. clean at 0 inside is

-- what is known of the bytes so far is known with one more that is no `$`
pub dollar_more : (line : List ℕ) (at : ℕ) (has_dollar : Bool) → at < length line
    → get_or line at 0 ≢ 36 → MatchBool has_dollar (¬ NoDollar line) (NoDollar (take at line))
    → MatchBool has_dollar (¬ NoDollar line) (NoDollar (take (at + 1) line))
dollar_more line at true inside other known = known
dollar_more line at false inside other known =
    subst NoDollar (sym (take_more line at 0 inside))
    (All-append (λ b. b ≢ 36) (take at line) (get_or line at 0 ∷ []) known
    (All-cons (λ b. b ≢ 36) (get_or line at 0) [] other (All-nil (λ b. b ≢ 36))))

-- and with any one, where a `$` is noticed
pub dollar_seen : (line : List ℕ) (at : ℕ) (has_dollar : Bool) → at < length line
    → get_or line at 0 ≡ 36 → has_dollar ≡ true
    → MatchBool has_dollar (¬ NoDollar line) (NoDollar (take (at + 1) line))
dollar_seen line at true inside is noticed = dollar_there line at inside is
dollar_seen line at false inside is noticed = absurd (cc)

pub dollar_kept : (line : List ℕ) (at : ℕ) (was has_dollar : Bool) → at < length line
    → get_or line at 0 ≢ 36 → has_dollar ≡ was
    → MatchBool was (¬ NoDollar line) (NoDollar (take at line))
    → MatchBool has_dollar (¬ NoDollar line) (NoDollar (take (at + 1) line))
dollar_kept line at was has_dollar inside other same known =
    subst (λ b. MatchBool b (¬ NoDollar line) (NoDollar (take (at + 1) line))) (sym same)
    (dollar_more line at was inside other known)

-- at the end all is known
pub dollar_known : (line : List ℕ) (end : ℕ) (has_dollar : Bool) → length line ≤ end
    → MatchBool has_dollar (¬ NoDollar line) (NoDollar (take end line))
    → MatchBool has_dollar (¬ NoDollar line) (NoDollar line)
dollar_known line end true past known = known
dollar_known line end false past known =
    subst NoDollar
    (ap (λ l. take end line ++ l) (sym (drop_all end line past)) ∙ take-append-drop end line)
    (subst NoDollar (sym (append-nil (take end line))) known)

-- the words of a line are its first piece, if that is one, and those behind it
words_behind : (piece behind : List ℕ) → NoSpace piece → words_of (piece ++ 32 ∷ behind) ≡ full_pieces (piece ∷ []) ++ words_of behind
words_behind piece behind none =
    ap full_pieces (slice_split_at space piece 32 behind none refl) ∙ filter-append (λ p. not (length p == 0)) (piece ∷ []) (slice_split space behind)

-- the last piece
words_last : (rest : List ℕ) → NoSpace rest → words_of rest ≡ full_pieces (rest ∷ [])
words_last rest none = ap full_pieces (slice_split_none space rest none)

module _ (line rest : List ℕ) (words : List (List ℕ)) (so_far : words_of line ≡ words ++ words_of rest) where
  pub more : (piece behind : List ℕ) (pushed : List (List ℕ)) → NoSpace piece → rest ≡ piece ++ 32 ∷ behind → pushed ≡ words ++ full_pieces (piece ∷ []) → words_of line ≡ pushed ++ words_of behind
  more piece behind pushed none cut push =
      so_far ∙ ap (λ r. words ++ words_of r) cut ∙ ap (λ w. words ++ w) (words_behind piece behind none)
      ∙ sym (append_assoc words (full_pieces (piece ∷ [])) (words_of behind)) ∙ ap (λ w. w ++ words_of behind) (sym push)

  pub too_many : (most : ℕ) (piece behind : List ℕ) → NoSpace piece → rest ≡ piece ++ 32 ∷ behind
      → most < length words + length (full_pieces (piece ∷ [])) → most < length (words_of line)
  too_many most piece behind none cut many =
      let all = ap length (more piece behind _ none cut refl) in
      omega (arith, many, all, length-append (words ++ full_pieces (piece ∷ [])) (words_of behind), length-append words (full_pieces (piece ∷ [])))

  pub last : (pushed : List (List ℕ)) → NoSpace rest → pushed ≡ words ++ full_pieces (rest ∷ []) → pushed ≡ words_of line
  last pushed none push = push ∙ ap (λ w. words ++ w) (sym (words_last rest none)) ∙ sym so_far

  pub too_many_last : (most : ℕ) → NoSpace rest
      → most < length words + length (full_pieces (rest ∷ [])) → most < length (words_of line)
  too_many_last most none many =
      let all = ap length (last _ none refl) in
      omega (arith, many, all, length-append words (full_pieces (rest ∷ [])))

-- ---- ASCII

-- so is a piece of bytes that are so far
pub ascii_piece : (line : List ℕ) (start at : ℕ) → start ≤ at → All (λ b. b < 128) (take at line) → IsAscii (slice_range line start at)
ascii_piece line start at low so_far =
    let end : start + (at - start) ≡ at = omega arith in
    let piece : drop start (take at line) ≡ slice_range line start at =
    ap (λ n. drop start (take n line)) (sym end) ∙ drop-take start (at - start) line in
    IsAscii-from_all (slice_range line start at)
    (subst (All (λ b. b < 128)) piece (All-drop (λ b. b < 128) start (take at line) so_far))

-- and with one more byte that is
pub ascii_more : (line : List ℕ) (at : ℕ) → at < length line → get_or line at 0 < 128 → All (λ b. b < 128) (take at line)
    → All (λ b. b < 128) (take (at + 1) line)
ascii_more line at inside is so_far = All-more (λ b. b < 128) line at 0 inside so_far is

-- at the end all are
pub ascii_known : (line : List ℕ) (end : ℕ) → length line ≤ end → All (λ b. b < 128) (take end line) → IsAscii line
ascii_known line end past so_far = IsAscii-from_all line (subst (All (λ b. b < 128)) (take_all end line past) so_far)

pub not_ascii : (line : List ℕ) (at : ℕ) → 128 ≤ get_or line at 0 → ¬ IsAscii line
not_ascii line at beyond is = absurd (omega (arith, beyond, is at))
