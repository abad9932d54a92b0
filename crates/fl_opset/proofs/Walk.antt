-- The spans of names that are met in their order.
use Rattle.std.proofs.Common.{◌≡◌, ◌⊎◌, inl, inr, ℕ, zero, suc, ◌+◌, ◌-◌, ◌<◌, ◌≤◌, true, List, [], ◌∷◌, ◌++◌, length, get_or, refl, sym, ap, subst, ◌∙◌, arith, Less}
use Rattle.std.specs.List.{Contains, AllByRecursion}
use Rattle.std.specs.List.Sorted.{IsStrictlySortedBy, IsNonDecreasingBy}
use Rattle.std.proofs.lemmas.List.{get_or_default}
use Rattle.std.proofs.lemmas.Bool.{cases_lt}
use Rattle.fl_labels.specs.declared.name.Name.{Name}
use Rattle.fl_ops.specs.declared.op.Op.{Op}
use Rattle.fl_opset.specs.declared.span.Span.{Span}
use Rattle.fl_opset.specs.Rank.{name_rank, last_rank, least_rank, greatest_rank}
use Rattle.fl_opset.specs.Spans.{in_span, fit}
use Rattle.fl_opset.specs.Windows.{IsName, IsSpan, AreSpans, span_cmp}
use Rattle.fl_opset.specs.laws.Fits.{within, bounds, ends_above, fit_at, at_fit}
use Rattle.fl_opset.specs.laws.ByRank.{rank_less, same_span, name_at}

-- spans that fit, with others in place of the last
fit_instead : (from to upto : ℕ) (ss : List Span) (r : Span) (ts : List Span) → fit from to (ss ++ r ∷ []) ≡ true → to ≤ upto → ((low : ℕ) → low ≤ name_rank r.first → fit low upto ts ≡ true) → fit from upto (ss ++ ts) ≡ true
fit_instead from to upto [] r ts h le more = more from (fit_at from to r [] h).starts
fit_instead from to upto (s ∷ ss) r ts h le more =
    let f = fit_at from to s (ss ++ r ∷ []) h in
    at_fit from upto s (ss ++ ts) (record { starts = f.starts; ends = omega (arith, f.ends); rest = fit_instead (last_rank s + 2) to upto ss r ts f.rest le more })

-- where a span stands against others that fit
low_in : (from to : ℕ) (ss : List Span) (j : ℕ) (t : Span) → fit from to ss ≡ true → j < length ss → get_or ss j t ≡ t → from ≤ name_rank t.first
low_in from to [] j t h inside at = absurd (omega arith)
low_in from to (s ∷ ss) zero t h inside at = subst (λ (x : Span). from ≤ name_rank x.first) at (fit_at from to s ss h).starts
low_in from to (s ∷ ss) (suc j) t h inside at =
    let f = fit_at from to s ss h in
    omega (arith, low_in (last_rank s + 2) to ss j t f.rest (omega arith) at, f.starts, ends_above s)

pub apart_at : (from to : ℕ) (ss : List Span) (i j : ℕ) (s t : Span) → fit from to ss ≡ true → i < length ss → get_or ss i s ≡ s → j < length ss → get_or ss j t ≡ t
    → (s ≡ t) ⊎ ((last_rank s + 2 ≤ name_rank t.first) ⊎ (last_rank t + 2 ≤ name_rank s.first))
apart_at from to [] i j s t h within_i at_i within_j at_j = absurd (omega arith)
apart_at from to (x ∷ ss) zero zero s t h within_i at_i within_j at_j = inl (sym at_i ∙ at_j)
apart_at from to (x ∷ ss) zero (suc j) s t h within_i at_i within_j at_j =
    let f = fit_at from to x ss h in
    inr (inl (subst (λ (y : Span). last_rank y + 2 ≤ name_rank t.first) at_i (low_in (last_rank x + 2) to ss j t f.rest (omega arith) at_j)))
apart_at from to (x ∷ ss) (suc i) zero s t h within_i at_i within_j at_j =
    let f = fit_at from to x ss h in
    inr (inr (subst (λ (y : Span). last_rank y + 2 ≤ name_rank s.first) at_j (low_in (last_rank x + 2) to ss i s f.rest (omega arith) at_i)))
apart_at from to (x ∷ ss) (suc i) (suc j) s t h within_i at_i within_j at_j =
    apart_at (last_rank x + 2) to ss i j s t (fit_at from to x ss h).rest (omega arith) at_i (omega arith) at_j

pub apart : (from to : ℕ) (ss : List Span) (s t : Span) → fit from to ss ≡ true → Contains ss s → Contains ss t
    → (s ≡ t) ⊎ ((last_rank s + 2 ≤ name_rank t.first) ⊎ (last_rank t + 2 ≤ name_rank s.first))
apart from to ss s t h a b = apart_at from to ss a.0 b.0 s t h a.1 a.2 b.1 b.2

above_all : (from to : ℕ) (ss : List Span) (s : Span) → fit from to ss ≡ true → name_rank s.first < from → AllByRecursion (λ t. span_cmp s t ≡ Less) ss
above_all from to [] s h less = tt
above_all from to (t ∷ ss) s h less =
    let f = fit_at from to t ss h in
    (rank_less s.first t.first (omega (arith, f.starts)), above_all (last_rank t + 2) to ss s f.rest (omega (arith, f.starts, ends_above t)))

pub fit_rises : (from to : ℕ) (ss : List Span) → fit from to ss ≡ true → IsStrictlySortedBy span_cmp ss
unfolding IsStrictlySortedBy
fit_rises from to [] h = tt
fit_rises from to (s ∷ ss) h =
    let f = fit_at from to s ss h in
    (above_all (last_rank s + 2) to ss s f.rest (omega (arith, ends_above s)), fit_rises (last_rank s + 2) to ss f.rest)

-- what spans have of names, whatever names these are
pub record Holds (U : Op → Type 0) (ss : List Span) : Type 0 where
  pub held : (s : Span) → Contains ss s → (n : Name) → in_span s n ≡ true → IsName U n
  pub covered : (op : Op) → U op → (s : Span) × Contains ss s × (in_span s op.name ≡ true)

-- spans that fit and have all names are the spans
module _ {U : Op → Type 0} (from to : ℕ) (ss : List Span) (h : fit from to ss ≡ true) (k : Holds U ss) where
  clear_before : (s : Span) → Contains ss s → (n : Name) → name_rank n + 1 ≡ name_rank s.first → IsName U n → ⊥
  clear_before s in_s n next named =
      let c = k.covered named.0 named.1 in
      let inside = bounds (name_rank c.0.first) (name_rank n) (last_rank c.0) (subst (λ (m : Name). in_span c.0 m ≡ true) named.2 c.2) in
      elim (apart from to ss s c.0 h in_s c.1) [
        | inl same ↦ let e : name_rank s.first ≡ name_rank c.0.first = ap (λ (x : Span). name_rank x.first) same in omega (arith, e, inside.0)
        | inr (inl after) ↦ omega (arith, ends_above s, inside.0)
        | inr (inr before) ↦ omega (arith, inside.1)
      ]

  clear_after : (s : Span) → Contains ss s → (n : Name) → name_rank n ≡ last_rank s + 1 → IsName U n → ⊥
  clear_after s in_s n next named =
      let c = k.covered named.0 named.1 in
      let inside = bounds (name_rank c.0.first) (name_rank n) (last_rank c.0) (subst (λ (m : Name). in_span c.0 m ≡ true) named.2 c.2) in
      elim (apart from to ss s c.0 h in_s c.1) [
        | inl same ↦ let e : last_rank s ≡ last_rank c.0 = ap last_rank same in omega (arith, e, inside.1)
        | inr (inl after) ↦ omega (arith, inside.0)
        | inr (inr before) ↦ omega (arith, ends_above s, inside.1)
      ]

  is_span : (s : Span) → Contains ss s → IsSpan U s
  is_span s in_s = record { held = k.held s in_s; none_before = clear_before s in_s; none_after = clear_after s in_s }

  same_start : (s t : Span) → IsSpan U s → Contains ss t → name_rank t.first ≤ name_rank s.first → name_rank s.first ≤ last_rank t → name_rank t.first ≡ name_rank s.first
  same_start s t x in_t low high = elim (cases_lt (name_rank t.first) (name_rank s.first)) [
    | inr more ↦ omega arith
    | inl less ↦
        let n = name_at t (name_rank s.first - 1) (omega arith) (omega arith) in
        let in_t_too = within (name_rank t.first) (name_rank n.0) (last_rank t) (omega (arith, n.1)) (omega (arith, n.1)) in
        absurd (x.none_before n.0 (omega (arith, n.1)) (k.held t in_t n.0 in_t_too))
  ]

  same_end : (s t : Span) → IsSpan U s → Contains ss t → name_rank t.first ≡ name_rank s.first → last_rank t ≡ last_rank s
  same_end s t x in_t start = elim (cases_lt (last_rank t) (last_rank s)) [
    | inl less ↦
        let n = name_at s (last_rank t + 1) (omega (arith, ends_above t)) (omega arith) in
        let in_s = within (name_rank s.first) (name_rank n.0) (last_rank s) (omega (arith, n.1, ends_above t)) (omega (arith, n.1)) in
        absurd (clear_after t in_t n.0 n.1 (x.held n.0 in_s))
    | inr more ↦ elim (cases_lt (last_rank s) (last_rank t)) [
      | inr same ↦ omega arith
      | inl less ↦
          let n = name_at t (last_rank s + 1) (omega (arith, ends_above s)) (omega arith) in
          let in_t_too = within (name_rank t.first) (name_rank n.0) (last_rank t) (omega (arith, n.1, ends_above s)) (omega (arith, n.1)) in
          absurd (x.none_after n.0 n.1 (k.held t in_t n.0 in_t_too))
    ]
  ]

  found : (s : Span) → IsSpan U s → Contains ss s
  found s x =
      let named = x.held s.first (within (name_rank s.first) (name_rank s.first) (last_rank s) (omega arith) (ends_above s)) in
      let c = k.covered named.0 named.1 in
      let inside = bounds (name_rank c.0.first) (name_rank s.first) (last_rank c.0) (subst (λ (m : Name). in_span c.0 m ≡ true) named.2 c.2) in
      let start = same_start s c.0 x c.1 inside.0 inside.1 in
      subst (Contains ss) (same_span c.0 s start (same_end s c.0 x c.1 start)) c.1

  pub are_spans : AreSpans U ss
  are_spans = record { rise = fit_rises from to ss h; only = is_span; all = found }

-- spans lie between the least name and the greatest
pub fit_whole : (from to : ℕ) (ss : List Span) → fit from to ss ≡ true → fit least_rank greatest_rank ss ≡ true
fit_whole from to [] h = refl
fit_whole from to (s ∷ ss) h =
    at_fit least_rank greatest_rank s ss (record {
      starts = omega (arith, s.first.node_in_range.0, s.first.seq_in_range.0);
      ends = omega (arith, s.first.node_in_range.1, s.last_in_range);
      rest = fit_above (last_rank s + 2) to (last_rank s + 2) ss (fit_at from to s ss h).rest (omega arith);
    })
  where
    fit_above : (from to low : ℕ) (ss : List Span) → fit from to ss ≡ true → low ≤ from → fit low greatest_rank ss ≡ true
    fit_above from to low [] h le = refl
    fit_above from to low (s ∷ ss) h le =
        let f = fit_at from to s ss h in
        at_fit low greatest_rank s ss (record { starts = omega (arith, f.starts); ends = omega (arith, s.first.node_in_range.1, s.last_in_range); rest = fit_above (last_rank s + 2) to (last_rank s + 2) ss f.rest (omega arith) })

-- registries of the same operations have the same spans
pub same_spans : (U V : Op → Type 0) (ss : List Span) → ((op : Op) → U op → V op) → ((op : Op) → V op → U op) → AreSpans U ss → AreSpans V ss
same_spans U V ss there back a = record {
  rise = a.rise;
  only = λ s in_s. let x = a.only s in_s in moved U V there back s x;
  all = λ s x. a.all s (moved V U back there s x);
}
  where
    moved : (U V : Op → Type 0) → ((op : Op) → U op → V op) → ((op : Op) → V op → U op) → (s : Span) → IsSpan U s → IsSpan V s
    moved U V there back s x = record {
      held = λ n inside. let named = x.held n inside in (named.0, there named.0 named.1, named.2);
      none_before = λ n next named. x.none_before n next (named.0, back named.0 named.1, named.2);
      none_after = λ n next named. x.none_after n next (named.0, back named.0 named.1, named.2);
    }

-- spans that fit end ever higher
ends_rise : (from to : ℕ) (ss : List Span) → fit from to ss ≡ true → (i j : ℕ) (d : Span) → i ≤ j → j < length ss
    → last_rank (get_or ss i d) ≤ last_rank (get_or ss j d)
ends_rise from to [] h i j d order inside = absurd (omega arith)
ends_rise from to (s ∷ ss) h zero zero d order inside = omega arith
ends_rise from to (s ∷ ss) h zero (suc j) d order inside =
    let f = fit_at from to s ss h in
    let low = low_in (last_rank s + 2) to ss j (get_or ss j d) f.rest (omega arith) (get_or_default ss j (get_or ss j d) d (omega arith)) in
    omega (arith, low, ends_above (get_or ss j d))
ends_rise from to (s ∷ ss) h (suc i) zero d order inside = absurd (omega arith)
ends_rise from to (s ∷ ss) h (suc i) (suc j) d order inside =
    ends_rise (last_rank s + 2) to ss (fit_at from to s ss h).rest i j d (omega arith) (omega arith)

pub lasts_rise : (from to : ℕ) (ss : List Span) → fit from to ss ≡ true → IsNonDecreasingBy last_rank ss
lasts_rise from to ss h i j d order inside = ends_rise from to ss h i j d order inside

-- and each begins above the earlier ones
pub gaps_rise : (from to : ℕ) (ss : List Span) → fit from to ss ≡ true → (i j : ℕ) (d : Span) → i < j → j < length ss
    → last_rank (get_or ss i d) + 2 ≤ name_rank (get_or ss j d).first
gaps_rise from to [] h i j d order inside = absurd (omega arith)
gaps_rise from to (s ∷ ss) h zero zero d order inside = absurd (omega arith)
gaps_rise from to (s ∷ ss) h zero (suc j) d order inside =
    low_in (last_rank s + 2) to ss j (get_or ss j d) (fit_at from to s ss h).rest (omega arith) (get_or_default ss j (get_or ss j d) d (omega arith))
gaps_rise from to (s ∷ ss) h (suc i) zero d order inside = absurd (omega arith)
gaps_rise from to (s ∷ ss) h (suc i) (suc j) d order inside =
    gaps_rise (last_rank s + 2) to ss (fit_at from to s ss h).rest i j d (omega arith) (omega arith)
