-- How many spans end below a rank.
use Rattle.std.proofs.Common.{◌≡◌, ℕ, ◌-◌, ◌<◌, ◌≤◌, true, List, length, get_or, take, ap, ◌∙◌, arith}
use Rattle.std.specs.List.{All}
use Rattle.std.proofs.lemmas.List.{length-take-le, get_or-take, get_or_default}
use Rattle.fl_opset.specs.declared.span.Span.{Span}
use Rattle.fl_opset.specs.Rank.{name_rank, last_rank, least_rank, greatest_rank}
use Rattle.fl_opset.specs.Spans.{fit}
use Rattle.fl_opset.proofs.Walk.{lasts_rise, gaps_rise}

front_below : (ss : List Span) (n low : ℕ) → n ≤ length ss → ((k : ℕ) (d : Span) → k < n → last_rank (get_or ss k d) < low)
    → All (λ s. last_rank s < low) (take n ss)
front_below ss n low bound each k d within =
    let here : k < n = omega (arith, length-take-le n ss bound) in
    omega (arith, each k d here, ap last_rank (get_or-take n ss k d here))

module _ (ss : List Span) (h : fit least_rank greatest_rank ss ≡ true) (low : ℕ) (last : Span) (some : 0 < length ss)
    (is : last ≡ get_or ss (length ss - 1) last) where
  the_last : (d : Span) → last ≡ get_or ss (length ss - 1) d
  the_last d = is ∙ get_or_default ss (length ss - 1) last d (omega arith)

  pub all_end : last_rank last < low → All (λ s. last_rank s < low) (take (length ss) ss)
  all_end less = front_below ss (length ss) low (omega arith) (λ k d here.
      omega (arith, lasts_rise least_rank greatest_rank ss h k (length ss - 1) d (omega arith) (omega arith), ap last_rank (the_last d)))

  pub others_end : name_rank last.first ≤ low → All (λ s. last_rank s < low) (take (length ss - 1) ss)
  others_end le = front_below ss (length ss - 1) low (omega arith) (λ k d here.
      omega (arith, gaps_rise least_rank greatest_rank ss h k (length ss - 1) d here (omega arith), ap (λ (s : Span). name_rank s.first) (the_last d)))
