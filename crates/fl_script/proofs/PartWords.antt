-- Parts of a text in which stands what words become.
use Rattle.std.proofs.Common.{◌≡◌, ◌<◌, ◌≤◌, ◌+◌, ◌-◌, ℕ, zero, suc, List, map, Bor, [], ◌∷◌, ◌++◌, length, take, drop, get_or, sym, ap, subst, refl, ◌∙◌, append-nil, take-append-drop, arith}
use Rattle.std.specs.List.{AllZip, concat}
use Rattle.std.specs.Str.{IsUtf8}
use Rattle.std.proofs.lemmas.List.{length-append, length-drop, length-map, map_push, take_all, take_at, drop_at, drop-map, take_rest}
use Rattle.std.proofs.lemmas.List.Elements.{length_all_zip}
use Rattle.std.proofs.lemmas.List.Folds.{concat-append}
use Rattle.std.proofs.lemmas.Str.{IsCharBoundary-at_seam, IsCharBoundary-from_take, IsUtf8-drop}
use Rattle.fl_aliases.specs.Expansion.{Expands, ExpandsBehind}
use Rattle.fl_aliases.specs.Table.{Table}
use Rattle.fl_aliases.specs.Words.{Word}
use Rattle.fl_script.specs.Reading.{SpellsReplaced}
use Rattle.fl_script.specs.declared.line.Line.{Line}
use Rattle.fl_script.specs.parts.Parts.{BuiltOf, CanPart, parts_of}
use Rattle.fl_script.specs.laws.Replacing.{one_more_at}

-- each part is a text
abbrev pub Texts : List Word → Type 0
Texts [] = Unit {0}
Texts (p ∷ parts) = IsUtf8 p × Texts parts

texts_more : (parts : List Word) (p : Word) → Texts parts → IsUtf8 p → Texts (parts ++ p ∷ [])
texts_more [] p texts utf8 = (utf8, tt)
texts_more (q ∷ parts) p texts utf8 = (texts.0, texts_more parts p texts.1 utf8)

-- what stands behind a text in a text is a text
utf8_behind : (a b : List ℕ) → IsUtf8 a → IsUtf8 (a ++ b) → IsUtf8 b
utf8_behind a b first both =
    let within : length a ≤ length (a ++ b) = omega (arith, length-append a b) in
    let seam = IsCharBoundary-from_take (a ++ b) (length a) both within (subst IsUtf8 (sym (take_at a b (length a) refl)) first) in
    subst IsUtf8 (drop_at a b (length a) refl) (IsUtf8-drop (a ++ b) (length a) both seam)

-- parts that stand one behind the other are those that are so long
same_parts : (parts : List Word) → parts_of (map length parts) (concat parts) ≡ parts
same_parts [] = refl
same_parts (p ∷ parts) =
    ap (λ q. q ∷ parts_of (map length parts) (drop (length p) (p ++ concat parts))) (take_at p (concat parts) (length p) refl)
    ∙ ap (λ rest. p ∷ parts_of (map length parts) rest) (drop_at p (concat parts) (length p) refl)
    ∙ ap (λ rest. p ∷ rest) (same_parts parts)

can_part : (parts : List Word) → Texts parts → IsUtf8 (concat parts) → CanPart (map length parts) (concat parts)
can_part [] texts utf8 = tt
can_part (p ∷ parts) texts utf8 =
    let behind = utf8_behind p (concat parts) texts.0 utf8 in (
      IsCharBoundary-at_seam (p ++ concat parts) p (concat parts) refl behind,
      subst (CanPart (map length parts)) (sym (drop_at p (concat parts) (length p) refl)) (can_part parts texts.1 behind),
    )

-- what the words become stands in the text one behind the other, and is so long
pub record Laid (table : Table) (words : List Word) (lengths : List ℕ) (text : List ℕ) : Type 0 where
  pub parts : List Word
  pub each : AllZip (Expands table) words parts
  pub long : lengths ≡ map length parts
  pub is : text ≡ concat parts
  pub texts : Texts parts

module _ (table : Table) where
  pub one_more_laid : (words : List (Bor Word)) (i : ℕ) (d : Bor Word) (lengths text after : List ℕ) → i < length words → Laid table (take i (map (λ w. w.now) words)) lengths text → ExpandsBehind table (get_or words i d).now text after → IsUtf8 text → IsUtf8 after → Laid table (take (i + 1) (map (λ w. w.now) words)) (lengths ++ (length after - length text) ∷ []) after
  one_more_laid words i d lengths text after inside so_far more utf8 utf8_after =
      let long : length after - length text ≡ length more.out = omega (arith, ap length more.written, length-append text more.out) in
      record {
        parts = so_far.parts ++ more.out ∷ [];
        each = one_more_at table words i d so_far.parts more.out inside so_far.each more.expands;
        long = ap (λ n. lengths ++ n ∷ []) long ∙ ap (λ l. l ++ length more.out ∷ []) so_far.long ∙ sym (map_push length so_far.parts more.out);
        is = more.written ∙ ap (λ t. t ++ more.out) so_far.is ∙ ap (λ t. concat so_far.parts ++ t) (sym (append-nil more.out)) ∙ sym (concat-append so_far.parts (more.out ∷ []));
        texts = texts_more so_far.parts more.out so_far.texts (utf8_behind text more.out utf8 (subst IsUtf8 more.written utf8_after));
      }

  pub built_of : (words : List Word) (lengths text : List ℕ) → IsUtf8 text → Laid table words lengths text → BuiltOf table words lengths text
  built_of words lengths text utf8 s =
      let same = ap (λ l. parts_of l text) s.long ∙ ap (parts_of (map length s.parts)) s.is ∙ same_parts s.parts in
      let can = can_part s.parts s.texts (subst IsUtf8 s.is utf8) in
      record {
        each = subst (AllZip (Expands table) words) (sym same) s.each;
        can_part = subst (λ l. CanPart l text) (sym s.long) (subst (CanPart (map length s.parts)) (sym s.is) can);
      }

  -- all words are built
  pub all_built : (words : List (Bor Word)) (n : ℕ) (lengths text : List ℕ) → length words ≤ n → IsUtf8 text → Laid table (take n (map (λ w. w.now) words)) lengths text → BuiltOf table (map (λ w. w.now) words) lengths text
  all_built words n lengths text whole utf8 laid =
      let said = map (λ (w : Bor Word). w.now) words in
      built_of said lengths text utf8 (subst (λ ws. Laid table ws lengths text) (take_all n said (omega (arith, whole, length-map {A = Bor Word} {B = Word} words (λ w. w.now)))) laid)

  -- what the words from one on become
  zip_drop : (R : Word → Word → Type 0) (k : ℕ) (xs ys : List Word) → AllZip R xs ys → AllZip R (drop k xs) (drop k ys)
  zip_drop R zero xs ys h = h
  zip_drop R (suc k) [] [] h = tt
  zip_drop R (suc k) [] (y ∷ ys) h = absurd h
  zip_drop R (suc k) (x ∷ xs) [] h = absurd h
  zip_drop R (suc k) (x ∷ xs) (y ∷ ys) h = zip_drop R k xs ys h.1

  zip_append : (R : Word → Word → Type 0) (ws vs xs ys : List Word) → AllZip R ws vs → AllZip R xs ys → AllZip R (ws ++ xs) (vs ++ ys)
  zip_append R [] [] xs ys g h = h
  zip_append R [] (v ∷ vs) xs ys g h = absurd g
  zip_append R (w ∷ ws) [] xs ys g h = absurd g
  zip_append R (w ∷ ws) (v ∷ vs) xs ys g h = (g.0, zip_append R ws vs xs ys g.1 h)

  length_parts : (lengths text : List ℕ) → length (parts_of lengths text) ≡ length lengths
  length_parts [] text = refl
  length_parts (n ∷ lengths) text = ap suc (length_parts lengths (drop n text))

  rest_of : (words : List (Bor Word)) (k : ℕ) → map (λ w. w.now) (take (length words - k) (drop k words)) ≡ drop k (map (λ (w : Bor Word). w.now) words)
  rest_of words k = ap (map (λ (w : Bor Word). w.now)) (take_rest words k) ∙ sym (drop-map (λ (w : Bor Word). w.now) k words)

  -- the first words are kept elsewhere, and the others stand in the text
  pub kept_and_built : (words : List (Bor Word)) (k : ℕ) (kept : List Word) (lengths text : List ℕ) → AllZip (Expands table) (take k (map (λ w. w.now) words)) kept → BuiltOf table (map (λ w. w.now) (take (length words - k) (drop k words))) lengths text → AllZip (Expands table) (map (λ w. w.now) words) (kept ++ parts_of lengths text)
  kept_and_built words k kept lengths text each built =
      let said = map (λ (w : Bor Word). w.now) words in
      let others = subst (λ ws. AllZip (Expands table) ws (parts_of lengths text)) (rest_of words k) built.each in
      subst (λ ws. AllZip (Expands table) ws (kept ++ parts_of lengths text)) (take-append-drop k said)
      (zip_append (Expands table) (take k said) kept (drop k said) (parts_of lengths text) each others)

  -- there is room for them all
  pub room_for_built : (words : List (Bor Word)) (k : ℕ) (lengths text : List ℕ) → length words ≤ 8 → k ≤ length words → BuiltOf table (map (λ w. w.now) (take (length words - k) (drop k words))) lengths text → k + length lengths ≤ 8
  room_for_built words k lengths text few within built =
      let said = map (λ (w : Bor Word). w.now) words in
      let left = ap length (rest_of words k) ∙ length-drop k said in
      let each = length_all_zip (Expands table) (map (λ w. w.now) (take (length words - k) (drop k words))) (parts_of lengths text) built.each in
      omega (arith, few, within, left, each, length_parts lengths text, length-map {A = Bor Word} {B = Word} words (λ w. w.now))

  -- words of which the last become nothing spell no line
  pub none_built : (words : List (Bor Word)) (k : ℕ) → ((texts : List Word) → AllZip (Expands table) (map (λ w. w.now) (take (length words - k) (drop k words))) texts → ⊥) → (line : Line) → SpellsReplaced table line (map (λ w. w.now) words) → ⊥
  none_built words k none line s =
      let said = map (λ (w : Bor Word). w.now) words in
      none (drop k s.replaced) (subst (λ ws. AllZip (Expands table) ws (drop k s.replaced)) (sym (rest_of words k)) (zip_drop (Expands table) k said s.replaced s.each))
