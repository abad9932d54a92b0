-- The lines of a text that begins with one.
use Rattle.std.specs.Prelude.{◌≡◌, ◌<◌, ◌++◌, ◌∷◌, ◌==◌, [], List, ℕ, length, refl}
use Rattle.std.proofs.Common.{◌∙◌, ap, arith, rules}
use Rattle.std.specs.List.{slice_split}
use Rattle.std.specs.Str.Lines.{lines, lines_of_parts, strip_carriage_return}
use Rattle.std.proofs.lemmas.List.Splits.{slice_split_none, slice_split_at, length-slice_split}
use Rattle.fl_stream.specs.Served.{HasNoFeed}

-- a part that others follow is a line less its carriage return
parts_more : (x : List ℕ) (parts : List (List ℕ)) → 0 < length parts → lines_of_parts (x ∷ parts) ≡ strip_carriage_return x ∷ lines_of_parts parts
parts_more x [] more = absurd (omega arith)
parts_more x (y ∷ parts) more = refl

-- a text that is not empty is one part's lines
parts_one : (text : List ℕ) → 0 < length text → lines_of_parts (text ∷ []) ≡ text ∷ []
parts_one [] some = absurd (omega arith)
parts_one (b ∷ text) some = search rules

-- a text with no line feed is one line
pub lines-last : (text : List ℕ) → HasNoFeed text → 0 < length text → lines text ≡ text ∷ []
lines-last text none some = ap lines_of_parts (slice_split_none (λ b. b == 10) text none) ∙ parts_one text some

-- what stands before a line feed is a line, whatever follows
pub lines-feed : (line after : List ℕ) → HasNoFeed line → lines (line ++ 10 ∷ after) ≡ strip_carriage_return line ∷ lines after
lines-feed line after none =
    ap lines_of_parts (slice_split_at (λ b. b == 10) line 10 after none refl)
    ∙ parts_more line (slice_split (λ b. b == 10) after) (omega (arith, length-slice_split (λ b. b == 10) after))
