-- Spans that fit between two ranks, one after another.
use Rattle.std.proofs.Common.{◌≡◌, ℕ, zero, suc, ◌+◌, ◌<◌, ◌≤◌, Bool, true, false, ◌&&◌, List, [], ◌∷◌, drop, refl, arith, leb}
use Rattle.std.proofs.lemmas.Bool.Decides.{nat_tests}
use Rattle.fl_opset.specs.declared.span.Span.{Span}
use Rattle.fl_opset.specs.Rank.{name_rank, last_rank}
use Rattle.fl_opset.specs.Spans.{fit}

pub within : (a b c : ℕ) → a ≤ b → b ≤ c → (leb a b && leb b c) ≡ true
within a b c h k = grind (arith, nat_tests)

pub too_low : (a b c : ℕ) → b < a → (leb a b && leb b c) ≡ false
too_low a b c h = grind (arith, nat_tests)

pub too_high : (a b c : ℕ) → c < b → (leb a b && leb b c) ≡ false
too_high a b c h = grind (arith, nat_tests)

pub bounds : (a b c : ℕ) → (leb a b && leb b c) ≡ true → (a ≤ b) × (b ≤ c)
bounds a b c h = (grind (arith, nat_tests), grind (arith, nat_tests))

-- a span ends no lower than it begins
pub ends_above : (s : Span) → name_rank s.first ≤ last_rank s
ends_above s = omega (arith, s.rises)

-- the parts of what spans owe
pub record FitAt (from to : ℕ) (s : Span) (ss : List Span) : Type 0 where
  pub starts : from ≤ name_rank s.first
  pub ends : last_rank s ≤ to
  pub rest : fit (last_rank s + 2) to ss ≡ true

three : (a b c d : ℕ) (r : Bool) → (leb a b && (leb c d && r)) ≡ true → (a ≤ b) × (c ≤ d) × (r ≡ true)
three a b c d true h = (grind (arith, nat_tests), grind (arith, nat_tests), refl)
three a b c d false h = absurd (grind (arith, nat_tests))

pub fit_at : (from to : ℕ) (s : Span) (ss : List Span) → fit from to (s ∷ ss) ≡ true → FitAt from to s ss
fit_at from to s ss h =
    let p = three from (name_rank s.first) (last_rank s) to (fit (last_rank s + 2) to ss) h in
    record { starts = p.0; ends = p.1; rest = p.2 }

three_back : (a b c d : ℕ) (r : Bool) → a ≤ b → c ≤ d → r ≡ true → (leb a b && (leb c d && r)) ≡ true
three_back a b c d r h k e = grind (arith, nat_tests)

pub at_fit : (from to : ℕ) (s : Span) (ss : List Span) → FitAt from to s ss → fit from to (s ∷ ss) ≡ true
at_fit from to s ss h = three_back from (name_rank s.first) (last_rank s) to (fit (last_rank s + 2) to ss) h.starts h.ends h.rest

-- of spans that fit, those from a place on do
pub fit_drop : (from to : ℕ) (ss : List Span) (i : ℕ) → fit from to ss ≡ true → (low : ℕ) × (fit low to (drop i ss) ≡ true)
fit_drop from to ss zero h = (from, h)
fit_drop from to [] (suc i) h = (from, refl)
fit_drop from to (s ∷ ss) (suc i) h = fit_drop (last_rank s + 2) to ss i (fit_at from to s ss h).rest
