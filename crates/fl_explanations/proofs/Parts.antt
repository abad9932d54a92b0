-- Parts of lists.
use Rattle.std.proofs.Common.{arith, ◌≡◌, ◌∙◌, ◌≤◌, ◌-◌, ℕ, zero, suc, List, [], ◌∷◌, ap, drop, inl, inr, length, refl, sym, take}
use Rattle.std.proofs.Math.ListN.{drop_of_length-le}
use Rattle.std.proofs.lemmas.Bool.{cases_lt}
use Rattle.std.proofs.lemmas.List.{length-drop}
use Rattle.std.specs.Prelude.{min}

cut : (n count : ℕ) → count ≡ min n 1000 → 1000 ≤ n → count ≡ 1000
cut n count is many = omega (arith, is, many)

module _ {A : Type 0} where
  take_whole : (n : ℕ) (xs : List A) → length xs ≤ n → take n xs ≡ xs
  take_whole zero [] whole = refl
  take_whole (suc n) [] whole = refl
  take_whole zero (x ∷ xs) whole = absurd (omega (arith, whole))
  take_whole (suc n) (x ∷ xs) whole = ap (λ ys. x ∷ ys) (take_whole n xs (omega (arith, whole)))

  same_rest : (place start : ℕ) (xs : List A) → start ≡ min place (length xs)
      → drop start xs ≡ drop place xs
  same_rest place start xs is = elim (cases_lt place (length xs)) [
    | inl within ↦ ap (λ n. drop n xs) (omega (arith, is, within))
    | inr beyond ↦ drop_of_length-le xs (omega (arith, is, beyond))
        ∙ sym (drop_of_length-le xs beyond)
  ]

  same_front : (count : ℕ) (xs : List A) → count ≡ min (length xs) 1000
      → take count xs ≡ take 1000 xs
  same_front count xs is = elim (cases_lt (length xs) 1000) [
    | inl few ↦ take_whole count xs (omega (arith, is, few))
        ∙ sym (take_whole 1000 xs (omega (arith, few)))
    | inr many ↦ ap (λ n. take n xs) (cut (length xs) count is many)
  ]

  -- what is left once what stands before the place was dropped, as far as it is given
  pub part : (place start count : ℕ) (xs : List A) → start ≡ min place (length xs)
      → count ≡ min (length (take (length xs - start) (drop start xs))) 1000
      → take count (take (length xs - start) (drop start xs)) ≡ take 1000 (drop place xs)
  part place start count xs is counted =
      let rest = take_whole (length xs - start) (drop start xs) (omega (arith, length-drop start xs)) in
      same_front count (take (length xs - start) (drop start xs)) counted ∙ ap (take 1000) rest
      ∙ ap (take 1000) (same_rest place start xs is)
