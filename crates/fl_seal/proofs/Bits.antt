-- Bits that differ, joined.
use Rattle.std.proofs.Common.{◌≡◌, ◌∙◌, ◌<◌, ◌+◌, ◌/◌, ◌%◌, ◌^◌, ℕ, List, length, get_or, take}
use Rattle.std.proofs.Common.{bit_or, bit_xor, sym, ap, arith}
use Rattle.std.proofs.lemmas.Nat.Bits.{bit_at_or, bit_at_xor, bit_at-zero, bit_at-lt, same_from_bits}
use Rattle.std.proofs.lemmas.List.{take_more_same, get_or-take, take-take}
use Rattle.std.specs.Int.Bits.{xor_self}

-- nothing is joined only of nothing
none_first : (a b : ℕ) → bit_or a b ≡ 0 → a ≡ 0
none_first a b none = same_from_bits a 0 (λ i.
    omega (arith, sym (bit_at_or a b i) ∙ ap (λ n. n / 2 ^ i % 2) none ∙ bit_at-zero i, bit_at-zero i))

none_second : (a b : ℕ) → bit_or a b ≡ 0 → b ≡ 0
none_second a b none = same_from_bits b 0 (λ i.
    omega (arith, sym (bit_at_or a b i) ∙ ap (λ n. n / 2 ^ i % 2) none ∙ bit_at-zero i, bit_at-zero i))

same_from_xor : (a b : ℕ) → bit_xor a b ≡ 0 → a ≡ b
same_from_xor a b none = same_from_bits a b (λ i.
    omega (arith, sym (bit_at_xor a b i) ∙ ap (λ n. n / 2 ^ i % 2) none ∙ bit_at-zero i, bit_at-lt a i, bit_at-lt b i))

none_from_same : (a b : ℕ) → a ≡ b → bit_xor a b ≡ 0
none_from_same a b same = ap (λ n. bit_xor n b) same ∙ xor_self b

-- one more byte of both
module _ (xs ys : List ℕ) (at : ℕ) (in_xs : at < length xs) (in_ys : at < length ys) (d : ℕ) where
  pub same_more : (d ≡ 0 → take at xs ≡ take at ys)
      → bit_or d (bit_xor (get_or xs at 0) (get_or ys at 0)) ≡ 0
      → take (at + 1) xs ≡ take (at + 1) ys
  same_more same none =
      take_more_same xs ys at 0 in_xs in_ys (same (none_first d _ none))
      (same_from_xor (get_or xs at 0) (get_or ys at 0) (none_second d _ none))

  pub none_more : (take at xs ≡ take at ys → d ≡ 0) → take (at + 1) xs ≡ take (at + 1) ys
      → bit_or d (bit_xor (get_or xs at 0) (get_or ys at 0)) ≡ 0
  none_more none same =
      let last : get_or xs at 0 ≡ get_or ys at 0 =
      sym (get_or-take (at + 1) xs at 0 (omega arith)) ∙ ap (λ l. get_or l at 0) same
      ∙ get_or-take (at + 1) ys at 0 (omega arith) in
      let first = none (sym (shorter xs) ∙ ap (take at) same ∙ shorter ys) in
      (λ i. bit_or (first i) (none_from_same _ _ last i))
    where
      shorter : (l : List ℕ) → take at (take (at + 1) l) ≡ take at l
      shorter l = take-take at (at + 1) l (omega arith)
