-- An alias that is not named in a line is named in none of its words.
use Rattle.std.proofs.Common.{◌≡◌, ◌≢◌, ◌∙◌, ◌++◌, ◌∷◌, ◌==◌, [], refl, sym, ap, subst, ℕ, Bool}
use Rattle.std.proofs.Common.{true, false, not, List, Option, Some, All, Contains, append_assoc}
use Rattle.std.proofs.Common.{eqb-true, length}
use Rattle.std.specs.List.{onto_first, slice_split}
use Rattle.std.proofs.lemmas.List.Elements.{All-cons, All-filter, All-head, All-nil, All-tail}
use Rattle.std.proofs.lemmas.List.Splits.{slice_split-cons_no, slice_split-cons_yes}
use Rattle.fl_aliases.specs.Alias.{alias_text, is_letter}
use Rattle.fl_aliases.specs.Expansion.{NoLetterFirst}
use Rattle.fl_aliases.specs.Words.{Word, words_of}
use Rattle.fl_crew_turns.specs.Naming.{IsNamedIn}
use Rattle.fl_crew_turns.proofs.Dollars.{named_nowhere}

-- ---- the words of a line stand in it between spaces

abbrev is_space : ℕ → Bool
is_space b = b == 32

abbrev pieces : List ℕ → List Word
pieces line = slice_split is_space line

space_no_letter : (b : ℕ) → is_space b ≡ true → is_letter b ≡ false
space_no_letter b e = ap is_letter (eqb-true b 32 e)

no_letter_behind : (rest after : List ℕ) → NoLetterFirst rest → NoLetterFirst after
    → NoLetterFirst (rest ++ after)
no_letter_behind [] after h stop = stop
no_letter_behind (b ∷ rest) after h stop = h

-- the first piece of a line, and what is behind it
record FirstPiece (line : List ℕ) : Type 0 where
  first : List ℕ
  more : List Word
  after : List ℕ
  cut : pieces line ≡ first ∷ more
  is : line ≡ first ++ after
  stop : NoLetterFirst after

piece_on : (b : ℕ) (line : List ℕ) (r : Bool) → is_space b ≡ r → FirstPiece line
    → FirstPiece (b ∷ line)
piece_on b line true e f = record {
  first = [];
  more = pieces line;
  after = b ∷ line;
  cut = slice_split-cons_yes is_space b line e;
  is = refl;
  stop = space_no_letter b e;
}
piece_on b line false e f = record {
  first = b ∷ f.first;
  more = f.more;
  after = f.after;
  cut = slice_split-cons_no is_space b line e ∙ ap (onto_first b) f.cut;
  is = ap (λ l. b ∷ l) f.is;
  stop = f.stop;
}

first_piece : (line : List ℕ) → FirstPiece line
first_piece [] = record { first = []; more = []; after = []; cut = refl; is = refl; stop = tt }
first_piece (b ∷ line) = piece_on b line (is_space b) refl (first_piece line)

module _ (set : List (Option (List ℕ))) where
  abbrev pub IsUnnamed : List ℕ → Type 0
  IsUnnamed text = ¬ IsNamedIn set text

  pub named_first : (letters rest : List ℕ) → NoLetterFirst rest → Contains set (Some letters)
      → IsNamedIn set (alias_text letters ++ rest)
  named_first letters rest whole listed = record {
    front = [];
    behind = letters ++ rest;
    cut = refl;
    begins = record {
      alias = letters;
      listed = listed;
      begins = record { rest = rest; cut = refl; whole = whole };
    };
  }

  pub named_later : (before text : List ℕ) → IsNamedIn set text → IsNamedIn set (before ++ text)
  named_later before text n = record {
    front = before ++ n.front;
    behind = n.behind;
    cut = ap (λ l. before ++ l) n.cut ∙ sym (append_assoc before n.front (36 ∷ n.behind));
    begins = n.begins;
  }

  named_sooner : (text after : List ℕ) → NoLetterFirst after → IsNamedIn set text
      → IsNamedIn set (text ++ after)
  named_sooner text after stop n =
      let one = n.begins in
      record {
        front = n.front;
        behind = n.behind ++ after;
        cut = ap (λ l. l ++ after) n.cut ∙ append_assoc n.front (36 ∷ n.behind) after;
        begins = record {
          alias = one.alias;
          listed = one.listed;
          begins = record {
            rest = one.begins.rest ++ after;
            cut =
                ap (λ l. l ++ after) one.begins.cut
                ∙ append_assoc one.alias one.begins.rest after;
            whole = no_letter_behind one.begins.rest after one.begins.whole stop;
          };
        };
      }

  pieces_on : (b : ℕ) (line : List ℕ) (r : Bool) → is_space b ≡ r → IsUnnamed (b ∷ line)
      → All IsUnnamed (pieces line) → All IsUnnamed (pieces (b ∷ line))
  pieces_on b line true e h hs =
      subst (λ ps. All IsUnnamed ps) (sym (slice_split-cons_yes is_space b line e))
      (All-cons IsUnnamed [] (pieces line) (named_nowhere set [] (All-nil (λ b. b ≢ 36))) hs)
  pieces_on b line false e h hs =
      let f = first_piece line in
      let cut : pieces (b ∷ line) ≡ (b ∷ f.first) ∷ f.more =
      slice_split-cons_no is_space b line e ∙ ap (onto_first b) f.cut in
      subst (λ ps. All IsUnnamed ps) (sym cut)
      (All-cons IsUnnamed (b ∷ f.first) f.more
      (λ n. h (subst (λ l. IsNamedIn set (b ∷ l)) (sym f.is)
      (named_sooner (b ∷ f.first) f.after f.stop n)))
      (All-tail IsUnnamed f.first f.more (subst (λ ps. All IsUnnamed ps) f.cut hs)))

  pieces_unnamed : (line : List ℕ) → IsUnnamed line → All IsUnnamed (pieces line)
  pieces_unnamed [] h = All-cons IsUnnamed [] [] h (All-nil IsUnnamed)
  pieces_unnamed (b ∷ line) h =
      pieces_on b line (is_space b) refl h
      (pieces_unnamed line (λ n. h (named_later (b ∷ []) line n)))

  -- what is not named in a line is named in none of its words
  pub words_unnamed : (line : List ℕ) → IsUnnamed line → All IsUnnamed (words_of line)
  words_unnamed line h =
      All-filter (λ piece. not (length piece == 0)) IsUnnamed (pieces line) (pieces_unnamed line h)

  pub front_unnamed : (front behind : List Word) → All IsUnnamed (front ++ behind)
      → All IsUnnamed front
  front_unnamed [] behind h = All-nil IsUnnamed
  front_unnamed (w ∷ front) behind h =
      All-cons IsUnnamed w front (All-head IsUnnamed w (front ++ behind) h)
      (front_unnamed front behind (All-tail IsUnnamed w (front ++ behind) h))
