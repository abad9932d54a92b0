-- The windows of a set cover each name once.
use Rattle.std.proofs.Common.{◌≡◌, inl, inr, ℕ, ◌+◌, ◌<◌, ◌≤◌, Bool, true, false, cond, List, [], ◌∷◌, ap, ◌∙◌, arith}
use Rattle.std.specs.List.{count_by}
use Rattle.std.proofs.lemmas.Bool.{cases_lt}
use Rattle.std.proofs.lemmas.List.Sums.{sum_by-cons}
use Rattle.fl_labels.specs.declared.name.Name.{Name}
use Rattle.fl_opset.specs.declared.intervals.Intervals.{Intervals}
use Rattle.fl_opset.specs.Rank.{name_rank}
use Rattle.fl_opset.specs.Windows.{AreCut, IsNextName, in_window}
use Rattle.fl_opset.specs.laws.Fits.{within, too_low, too_high}

-- how many of the windows have the name
abbrev having : Name → List Intervals → ℕ
having n ws = count_by (λ w. in_window w n) ws

counted : (b : Bool) (w : Intervals) (ws : List Intervals) (n : Name) → in_window w n ≡ b → having n (w ∷ ws) ≡ cond b 1 0 + having n ws
counted b w ws n e =
    sum_by-cons (λ (v : Intervals). cond (in_window v n) 1 0) w ws ∙ ap (λ b. cond b 1 0 + having n ws) e

one_more : (w : Intervals) (ws : List Intervals) (n : Name) (k : ℕ) → name_rank w.from ≤ name_rank n → name_rank n ≤ name_rank w.to
    → having n ws ≡ k → having n (w ∷ ws) ≡ 1 + k
one_more w ws n k low high e =
    counted true w ws n (within (name_rank w.from) (name_rank n) (name_rank w.to) low high) ∙ ap (λ m. 1 + m) e

none_more : (w : Intervals) (ws : List Intervals) (n : Name) (k : ℕ) → in_window w n ≡ false → having n ws ≡ k → having n (w ∷ ws) ≡ k
none_more w ws n k out e = let h = counted false w ws n out in omega (arith, h, e)

-- windows that begin above a name do not have it
none_covers : (Begins : Name → Type 0) (ws : List Intervals) (n : Name) → AreCut Begins ws
    → ((from : Name) → Begins from → name_rank n < name_rank from) → having n ws ≡ 0
none_covers Begins [] n h low = absurd h
none_covers Begins (w ∷ []) n h low =
    counted false w [] n (too_low (name_rank w.from) (name_rank n) (name_rank w.to) (low w.from h.0))
none_covers Begins (w ∷ v ∷ ws) n h low =
    none_more w (v ∷ ws) n 0 (too_low (name_rank w.from) (name_rank n) (name_rank w.to) (low w.from h.0))
    (none_covers (IsNextName w.to) (v ∷ ws) n h.4 (λ from next. let below = low w.from h.0 in omega (arith, next.0, below, w.ordered)))

-- those that begin at a name, or below it, have it once
pub covers : (Begins : Name → Type 0) (ws : List Intervals) (n : Name) → AreCut Begins ws
    → ((from : Name) → Begins from → name_rank from ≤ name_rank n) → having n ws ≡ 1
covers Begins [] n h low = absurd h
covers Begins (w ∷ []) n h low =
    let last : name_rank n ≤ name_rank w.to = omega (arith, h.1.0, h.1.1, n.node_in_range.1, n.seq_in_range.1) in
    counted true w [] n (within (name_rank w.from) (name_rank n) (name_rank w.to) (low w.from h.0) last)
covers Begins (w ∷ v ∷ ws) n h low = elim (cases_lt (name_rank w.to) (name_rank n)) [
  | inl past ↦
      none_more w (v ∷ ws) n 1 (too_high (name_rank w.from) (name_rank n) (name_rank w.to) past)
      (covers (IsNextName w.to) (v ∷ ws) n h.4 (λ from next. next.1 n past))
  | inr here ↦
      one_more w (v ∷ ws) n 0 (low w.from h.0) here
      (none_covers (IsNextName w.to) (v ∷ ws) n h.4 (λ from next. omega (arith, next.0, here)))
]
