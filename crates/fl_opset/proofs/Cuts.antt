-- Spans cut into windows.
use Rattle.std.proofs.Common.{◌≡◌, ◌⊎◌, inl, inr, ℕ, zero, suc, ◌+◌, ◌<◌, ◌≤◌, true, List, [], ◌∷◌, ◌++◌, length, get_or, refl, sym, ap, subst, ◌∙◌, arith}
use Rattle.std.proofs.lemmas.Bool.{cases_lt}
use Rattle.fl_labels.specs.declared.name.Name.{Name}
use Rattle.fl_opset.specs.declared.span.Span.{Span}
use Rattle.fl_opset.specs.declared.intervals.Intervals.{Intervals}
use Rattle.fl_opset.specs.Rank.{name_rank, last_rank}
use Rattle.fl_opset.specs.Spans.{fit}
use Rattle.fl_opset.specs.Windows.{IsGreatestName, IsNextName, EndsWith, AreCut}
use Rattle.fl_opset.specs.laws.Fits.{ends_above, fit_at, at_fit}

-- the next name, by its parts
pub next_in_node : (m n : Name) → m.seq < 4294967295 → n.node ≡ m.node → n.seq ≡ m.seq + 1 → IsNextName m n
next_in_node m n more node seq = (omega arith, λ k h. omega arith)

pub next_node : (m n : Name) → 4294967295 ≤ m.seq → n.node ≡ m.node + 1 → n.seq ≡ 1 → IsNextName m n
next_node m n full node seq = (omega (arith, m.seq_in_range.1), λ k h. after k (cases_lt m.node k.node) h)
  where
    after : (k : Name) → (m.node < k.node) ⊎ (k.node ≤ m.node) → name_rank m < name_rank k → name_rank n ≤ name_rank k
    after k (inl less) h = omega (arith, k.seq_in_range.0)
    after k (inr same) h = absurd (omega (arith, k.seq_in_range.1))

-- spans that fit, up to the last of the first ones and after it
pub record Parted (from to : ℕ) (fs : List Span) (t : Span) (ts : List Span) (n : Name) : Type 0 where
  pub front : fit from (name_rank n) fs ≡ true
  pub apart : name_rank n + 2 ≤ name_rank t.first
  pub ordered : from ≤ name_rank n
  pub ends : last_rank t ≤ to
  pub back : fit (last_rank t + 2) to ts ≡ true

pub parted : (from to : ℕ) (fs : List Span) (t : Span) (ts : List Span) (n : Name) → fit from to (fs ++ t ∷ ts) ≡ true → EndsWith fs n → Parted from to fs t ts n
parted from to [] t ts n h e = absurd e
parted from to (s ∷ []) t ts n h e =
    let f = fit_at from to s (t ∷ ts) h in
    let g = fit_at (last_rank s + 2) to t ts f.rest in
    record {
      front = at_fit from (name_rank n) s [] (record { starts = f.starts; ends = omega (arith, e); rest = refl });
      apart = omega (arith, g.starts, e);
      ordered = omega (arith, f.starts, ends_above s, e);
      ends = g.ends;
      back = g.rest;
    }
parted from to (s ∷ u ∷ fs) t ts n h e =
    let f = fit_at from to s (u ∷ fs ++ t ∷ ts) h in
    let p = parted (last_rank s + 2) to (u ∷ fs) t ts n f.rest e in
    record {
      front = at_fit from (name_rank n) s (u ∷ fs) (record { starts = f.starts; ends = omega (arith, p.ordered); rest = p.front });
      apart = p.apart;
      ordered = omega (arith, p.ordered, f.starts, ends_above s);
      ends = p.ends;
      back = p.back;
    }

pub ends_with : (fs : List Span) (k : ℕ) (n : Name) (s : Span) → suc k ≡ length fs → get_or fs k s ≡ s → last_rank s ≡ name_rank n → EndsWith fs n
ends_with [] k n s long at e = absurd (omega arith)
ends_with (x ∷ []) zero n s long at e = ap last_rank at ∙ e
ends_with (x ∷ []) (suc k) n s long at e = absurd (omega arith)
ends_with (x ∷ y ∷ fs) zero n s long at e = absurd (omega arith)
ends_with (x ∷ y ∷ fs) (suc k) n s long at e = ends_with (y ∷ fs) k n s (omega arith) at e

-- the windows so far are full, and the next one begins at the name
abbrev pub AreFull : (Name → Type 0) → List Intervals → Name → Type 0
AreFull Begins [] from = Begins from
AreFull Begins (w ∷ ws) from = Begins w.from × (length w.spans ≡ 512) × EndsWith w.spans w.to × AreFull (IsNextName w.to) ws from

pub one_more : (Begins : Name → Type 0) (ws : List Intervals) (from next : Name) (w : Intervals) → AreFull Begins ws from → w.from ≡ from → length w.spans ≡ 512 → EndsWith w.spans w.to → IsNextName w.to next
    → AreFull Begins (ws ++ w ∷ []) next
one_more Begins [] from next w h is full ends step = (subst Begins (sym is) h, full, ends, step)
one_more Begins (u ∷ ws) from next w h is full ends step = (h.0, h.1, h.2, one_more (IsNextName u.to) ws from next w h.3 is full ends step)

pub the_last : (Begins : Name → Type 0) (ws : List Intervals) (from : Name) (w : Intervals) → AreFull Begins ws from → w.from ≡ from → IsGreatestName w.to → (0 < length ws → 0 < length w.spans)
    → AreCut Begins (ws ++ w ∷ [])
the_last Begins [] from w h is end some = (subst Begins (sym is) h, end)
the_last Begins (u ∷ []) from w h is end some = (h.0, h.1, h.2, some (omega arith), the_last (IsNextName u.to) [] from w h.3 is end (λ none. absurd (omega arith)))
the_last Begins (u ∷ v ∷ ws) from w h is end some =
    let full : length v.spans ≡ 512 = h.3.1 in
    (h.0, h.1, h.2, omega (arith, full), the_last (IsNextName u.to) (v ∷ ws) from w h.3 is end (λ more. some (omega arith)))
