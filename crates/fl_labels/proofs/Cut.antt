-- Texts cut at their commas.
use Rattle.std.proofs.Common.{◌≡◌, ◌≢◌, ℕ, ◌<◌, ◌≤◌, ◌+◌, ◌-◌, false, zero, suc, take, length-append, length-drop, append_assoc, append-nil, Option, Some, None, MatchOption, drop, List, [], ◌∷◌, ◌++◌, length, get_or, map, sym, ap, subst, refl, ◌∙◌, arith}
use Rattle.std.specs.List.{All, join_with_byte, slice_split, slice_range}
use Rattle.std.specs.Str.{IsUtf8, IsCharBoundary}
use Rattle.std.proofs.Math.Seq.{get_or-append_seam}
use Rattle.std.proofs.lemmas.List.{drop_more, drop_all, take_more, get_or-drop, length-take, map-append}
use Rattle.std.proofs.lemmas.List.Elements.{All-nil, All-cons, All-head, All-tail, All-append, All-from_get_or}
use Rattle.std.proofs.lemmas.List.Folds.{drop_split}
use Rattle.std.proofs.lemmas.Option.{same_Some}
use Rattle.std.proofs.lemmas.List.Splits.{slice_split_none, slice_split_at, join_with_byte-slice_split}
use Rattle.std.proofs.lemmas.Str.{IsCharBoundary-after_ascii}
use Rattle.fl_labels.specs.Words.{is_comma, NoComma}
use Rattle.fl_labels.specs.laws.OneReading.{cut_joined}

module _ {K : Type 0} (text : K → List ℕ) (plain : (x : K) → NoComma (text x)) where
  -- each part is an item's text
  part_at : (xs : List K) (k : ℕ) (part : List ℕ) → k < length (map text xs) → (x : K) × (get_or (map text xs) k part ≡ text x)
  part_at [] k part h = absurd (omega arith)
  part_at (x ∷ xs) zero part h = (x, refl)
  part_at (x ∷ xs) (suc k) part h = part_at xs k part (omega arith)

  -- a part that no item's text is shows that the text is no list of items
  pub no_items : (bs : List ℕ) (xs : List K) (k : ℕ) (part : List ℕ) (o : Option K) → length bs ≢ 0 → bs ≡ join_with_byte 44 (map text xs) → (k < length (slice_split is_comma bs)) × (part ≡ get_or (slice_split is_comma bs) k part) → MatchOption o ((x : K) → part ≡ text x → ⊥) (λ x. part ≡ text x) → o ≡ None → ⊥
  no_items bs [] k part o some e at none is = some (ap length e)
  no_items bs (x ∷ xs) k part (Some y) some e at none is = absurd (cc)
  no_items bs (x ∷ xs) k part None some e at none is =
      let parts : slice_split is_comma bs ≡ map text (x ∷ xs) = ap (slice_split is_comma) e ∙ cut_joined text plain x xs in
      let spelled = part_at (x ∷ xs) k part (subst (λ ps. k < length ps) parts at.0) in
      none spelled.0 (at.1 ∙ ap (λ ps. get_or ps k part) parts ∙ spelled.1)

  -- and so does one of the parts that the text is cut into
  pub no_part : (bs : List ℕ) (items xs : List K) (part : List ℕ) (more : List (List ℕ)) (o : Option K)
      → length bs ≢ 0 → bs ≡ join_with_byte 44 (map text xs)
      → slice_split is_comma bs ≡ map text items ++ part ∷ more
      → MatchOption o ((x : K) → part ≡ text x → ⊥) (λ x. part ≡ text x) → o ≡ None → ⊥
  no_part bs items xs part more o some e cut none is =
      let k = length (map text items) in
      let inside : k < length (slice_split is_comma bs) =
      omega (arith, ap length cut, length-append (map text items) (part ∷ more)) in
      let there : part ≡ get_or (slice_split is_comma bs) k part =
      sym (ap (λ ps. get_or ps k part) cut ∙ get_or-append_seam (map text items) part more part) in
      no_items bs xs k part o some e (inside, there) none is

-- what holds of all that two lists have holds of the first's
All-front : {X : Type 0} (P : X → Type 0) (xs ys : List X) → All P (xs ++ ys) → All P xs
All-front P [] ys all = All-nil P
All-front P (x ∷ xs) ys all = All-cons P x xs (All-head P x (xs ++ ys) all) (All-front P xs ys (All-tail P x (xs ++ ys) all))

-- the parts of a text are those of its first piece, if a comma ends that, and those behind it
pub parts_at : (rest piece behind : List ℕ) → NoComma piece → rest ≡ piece ++ 44 ∷ behind
    → slice_split is_comma rest ≡ piece ∷ slice_split is_comma behind
parts_at rest piece behind none cut =
    ap (slice_split is_comma) cut ∙ slice_split_at is_comma piece 44 behind none refl

pub parts_end : (rest : List ℕ) → NoComma rest → slice_split is_comma rest ≡ rest ∷ []
parts_end rest none = slice_split_none is_comma rest none

last_alone : (firsts : List (List ℕ)) (last one : List ℕ) → one ∷ [] ≡ firsts ++ last ∷ [] → one ≡ last
last_alone [] last one e = cc
last_alone (first ∷ []) last one e = absurd (omega (arith, ap length e))
last_alone (first ∷ second ∷ more) last one e = absurd (omega (arith, ap length e))

-- a text with no comma is its last part
pub one_part : (bs part : List ℕ) (firsts : List (List ℕ)) → NoComma bs
    → slice_split is_comma bs ≡ firsts ++ part ∷ [] → bs ≡ part
one_part bs part firsts plain cut = last_alone firsts part bs (sym (parts_end bs plain) ∙ cut)

-- what stands between two braces has no comma where the whole has none
pub plain_within : (bs : List ℕ) (first last : ℕ) (whole : List ℕ) → whole ≡ first ∷ (bs ++ last ∷ [])
    → NoComma whole → NoComma bs
plain_within bs first last whole is plain =
    All-front (λ b. is_comma b ≡ false) bs (last ∷ [])
    (All-tail (λ b. is_comma b ≡ false) first (bs ++ last ∷ []) (subst NoComma is plain))

-- a piece that is an item's text is that item
pub parts_more : {K : Type 0} (text : K → List ℕ) (items : List K) (x : K) (piece : List ℕ)
    (more : List (List ℕ)) → piece ≡ text x
    → map text items ++ piece ∷ more ≡ map text (items ++ x ∷ []) ++ more
parts_more text items x piece more is =
    ap (λ p. map text items ++ p ∷ more) is
    ∙ sym (append_assoc (map text items) (text x ∷ []) more)
    ∙ ap (λ l. l ++ more) (sym (map-append text items (x ∷ [])))

-- a text is its parts, joined
pub joined : (bs : List ℕ) (parts : List (List ℕ)) → slice_split is_comma bs ≡ parts
    → bs ≡ join_with_byte 44 parts
joined bs parts cut = sym (join_with_byte-slice_split 44 bs) ∙ ap (join_with_byte 44) cut

-- a comma parts a piece from what is behind it
pub comma_there : (bs : List ℕ) (start at : ℕ) → start ≤ at → at < length bs
    → get_or bs at 0 ≡ 44 → drop start bs ≡ slice_range bs start at ++ 44 ∷ drop (at + 1) bs
comma_there bs start at low inside is =
    drop_split bs start at low
    ∙ ap (λ l. slice_range bs start at ++ l)
    (drop_more bs at 0 inside ∙ ap (λ b. b ∷ drop (at + 1) bs) is)

-- where a text may be cut
pub behind_comma : (bs : List ℕ) (at : ℕ) → IsUtf8 bs → at < length bs → get_or bs at 0 ≡ 44
    → IsCharBoundary bs (at + 1)
behind_comma bs at utf8 inside is = IsCharBoundary-after_ascii bs at utf8 inside (omega (arith, is))

-- no comma stands in a piece of no bytes, nor in one with one more byte that is none
pub piece_none : (bs : List ℕ) (at : ℕ) → NoComma (slice_range bs at at)
piece_none bs at = All-from_get_or (λ b. is_comma b ≡ false) (slice_range bs at at) 0 (λ i inside.
    absurd (omega (arith, inside, length-take (at - at) (drop at bs))))

pub piece_more : (bs : List ℕ) (start at : ℕ) → start ≤ at → at < length bs
    → is_comma (get_or bs at 0) ≡ false → NoComma (slice_range bs start at)
    → NoComma (slice_range bs start (at + 1))
piece_more bs start at low inside other none =
    let rest = drop start bs in
    let long : at + 1 - start ≡ at - start + 1 = omega arith in
    let within : at - start < length rest = omega (arith, low, inside, length-drop start bs) in
    let place : start + (at - start) ≡ at = omega arith in
    let last : get_or rest (at - start) 0 ≡ get_or bs at 0 =
    get_or-drop start bs (at - start) 0 ∙ ap (λ i. get_or bs i 0) place in
    let more : take (at + 1 - start) rest ≡ take (at - start) rest ++ get_or rest (at - start) 0 ∷ [] =
    ap (λ n. take n rest) long ∙ take_more rest (at - start) 0 within in
    subst NoComma (sym more)
    (All-append (λ b. is_comma b ≡ false) (take (at - start) rest)
    (get_or rest (at - start) 0 ∷ []) none
    (All-cons (λ b. is_comma b ≡ false) (get_or rest (at - start) 0) [] (ap is_comma last ∙ other)
    (All-nil (λ b. is_comma b ≡ false))))

pub last_piece : (bs : List ℕ) (start end : ℕ) → start ≤ end → length bs ≤ end
    → NoComma (slice_range bs start end) → NoComma (drop start bs)
last_piece bs start end low past none =
    let piece = slice_range bs start end in
    subst NoComma
    (sym (drop_split bs start end low ∙ ap (λ l. piece ++ l) (drop_all end bs past)
    ∙ append-nil piece))
    none

-- what is read is what the part spells
pub read_some : {K : Type 0} (text : K → List ℕ) (part : List ℕ) (o : Option K) (x : K)
    → MatchOption o ((x : K) → part ≡ text x → ⊥) (λ x. part ≡ text x) → o ≡ Some x
    → part ≡ text x
read_some text part (Some y) x read is = read ∙ ap text (same_Some y x is)
read_some text part None x read is = absurd (cc)
