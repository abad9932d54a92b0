-- Spans below all of the operations, which a search leaves out.
use Rattle.std.proofs.Common.{◌≡◌, ℕ, ◌+◌, ◌-◌, ◌<◌, ◌≤◌, true, ◌||◌, not, List, [], ◌∷◌, ◌++◌, length, get_or, take, drop, refl, sym, ap, subst, ◌∙◌, append-nil, arith, eqb}
use Rattle.std.specs.List.{All, AllByRecursion, filter, list_any}
use Rattle.std.specs.List.Sorted.{IsNonDecreasingBy}
use Rattle.std.proofs.lemmas.Bool.Decides.{nat_tests}
use Rattle.std.proofs.lemmas.List.{take-append-drop, take_all, take_rest}
use Rattle.std.proofs.lemmas.List.Elements.{recursion_from_All}
use Rattle.fl_ops.specs.declared.op.Op.{Op}
use Rattle.fl_opset.specs.declared.span.Span.{Span}
use Rattle.fl_opset.specs.declared.intervals.Intervals.{Intervals}
use Rattle.fl_opset.specs.Rank.{name_rank, op_rank, last_rank, least_rank, greatest_rank}
use Rattle.fl_opset.specs.Spans.{in_span, fit}
use Rattle.fl_opset.specs.laws.Fits.{too_high, fit_at, at_fit, fit_drop}
use Rattle.fl_opset.proofs.Front.{front_full}
use Rattle.fl_opset.proofs.Lacks.{outside, same_kept, weaker, rest_above, rest_taken}

-- spans that fit between two ranks fit between any two around these
fit_wider : (from to low high : ℕ) (ss : List Span) → low ≤ from → to ≤ high → fit from to ss ≡ true → fit low high ss ≡ true
fit_wider from to low high [] below above h = refl
fit_wider from to low high (s ∷ ss) below above h =
    let f = fit_at from to s ss h in
    at_fit low high s ss (record {
      starts = omega (arith, f.starts);
      ends = omega (arith, f.ends);
      rest = fit_wider (last_rank s + 2) to (last_rank s + 2) high ss (omega arith) above f.rest;
    })

-- those of a window fit between all names
pub window_fits : (w : Intervals) (ss : List Span) → ss ≡ w.spans → fit least_rank greatest_rank ss ≡ true
window_fits w ss is =
    subst (λ l. fit least_rank greatest_rank l ≡ true) (sym is)
    (fit_wider (name_rank w.from) (name_rank w.to) least_rank greatest_rank w.spans
    (omega (arith, w.from.seq_in_range.0)) (omega (arith, w.to.node_in_range.1, w.to.seq_in_range.1)) w.fitting)

-- the spans behind a place
module _ (ss : List Span) (passed : ℕ) where
  abbrev pub left : List Span
  left = take (length ss - passed) (drop passed ss)

  left_is : left ≡ drop passed ss
  left_is = take_rest ss passed

  pub left_fits : (from to : ℕ) → fit from to ss ≡ true → (low : ℕ) × (fit low to left ≡ true)
  left_fits from to h =
      let f = fit_drop from to ss passed h in
      (f.0, subst (λ l. fit f.0 to l ≡ true) (sym left_is) f.1)

  outside_passed : (xs ys : List Span) (low : ℕ) (op : Op) → AllByRecursion (λ s. last_rank s < low) xs → low ≤ op_rank op → outside (xs ++ ys) op ≡ outside ys op
  outside_passed [] ys low op h high = refl
  outside_passed (x ∷ xs) ys low op h high =
      let less = h.0 in
      ap (λ b. not (b || list_any (λ s. in_span s op.name) (xs ++ ys))) (too_high (name_rank x.first) (op_rank op) (last_rank x) (omega arith))
      ∙ outside_passed xs ys low op h.1 high

  -- where those before it end below all of the operations, the others tell
  pub passed_same : (ops : List Op) (low : ℕ) (first : Op) → IsNonDecreasingBy op_rank ops → 0 < length ops → first ≡ get_or ops 0 first → low ≡ op_rank first
      → All (λ s. last_rank s < low) (take passed ss) → filter (outside left) ops ≡ filter (outside ss) ops
  passed_same ops low first rises some at is below =
      let above : All (λ op. low ≤ op_rank op) ops = rest_above op_rank ops 0 low first rises some at (omega arith) in
      ap (λ l. filter (outside l) ops) left_is
      ∙ same_kept (outside (drop passed ss)) (outside ss) ops
      (weaker (λ op. low ≤ op_rank op) (λ op. outside (drop passed ss) op ≡ outside ss op)
      (λ op high. sym (outside_passed (take passed ss) (drop passed ss) low op (recursion_from_All (λ s. last_rank s < low) (take passed ss) below) high) ∙ ap (λ l. outside l op) (take-append-drop passed ss))
      ops (recursion_from_All (λ op. low ≤ op_rank op) ops above))

empty : {X : Type 0} (xs : List X) → length xs ≡ 0 → xs ≡ []
empty [] h = refl
empty (x ∷ xs) h = absurd (omega arith)

pub no_length : (n : ℕ) → eqb n 0 ≡ true → n ≡ 0
no_length n h = grind (arith, nat_tests)

-- nothing is left
pub none_left : (most : ℕ) (ss : List Span) (rest taken wanted : List Op) → length taken ≤ most → length rest ≡ 0 → take most (taken ++ filter (outside ss) rest) ≡ wanted → taken ≡ wanted
none_left most ss rest taken wanted few none was =
    sym (ap (λ l. take most (taken ++ filter (outside ss) l)) (empty rest none) ∙ ap (take most) (append-nil taken) ∙ take_all most taken few) ∙ was

-- there are as many as are wanted
pub none_more : (most many : ℕ) (ss : List Span) (rest taken wanted : List Op) → many ≡ length taken → many ≡ most → take most (taken ++ filter (outside ss) rest) ≡ wanted → taken ≡ wanted
none_more most many ss rest taken wanted count full was = sym (front_full most taken (filter (outside ss) rest) (sym count ∙ full)) ∙ was

-- the rest is taken after all spans
pub rest_front : (most : ℕ) (all : List Span) (i : ℕ) (rest taken wanted : List Op) → length all ≤ i
    → take most (taken ++ filter (outside (drop i all)) rest) ≡ wanted → take most (taken ++ rest) ≡ wanted
rest_front most all i rest taken wanted done was =
    ap (take most) (rest_taken all i (taken ++ filter (outside (drop i all)) rest) rest taken (taken ++ rest) done refl refl) ∙ was
