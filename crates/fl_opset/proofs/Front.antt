-- So many of the first items of a list that grows at its end.
use Rattle.std.proofs.Common.{◌≡◌, ℕ, zero, suc, ◌+◌, ◌-◌, ◌<◌, ◌≤◌, inl, inr, cond, List, [], ◌∷◌, ◌++◌, length, min, take, refl, sym, ap, ◌∙◌, arith, Result, Ok, Err, OnOk, is_ok}
use Rattle.std.proofs.lemmas.Bool.{cases_lt}
use Rattle.std.proofs.lemmas.List.{length-append, take-append-le, take_all}
use Rattle.std.proofs.Math.Nat.{min-eq_left, min-eq_right}
use Rattle.std.proofs.Math.Seq.{take-append-add}

-- what was left out before is left out then
pub front_kept : {X : Type 0} (n : ℕ) (xs ys : List X) → take n (take n xs ++ ys) ≡ take n (xs ++ ys)
front_kept zero xs ys = refl
front_kept (suc n) [] ys = refl
front_kept (suc n) (x ∷ xs) ys = ap (λ l. x ∷ l) (front_kept n xs ys)

pub front_grows : {X : Type 0} (n : ℕ) (xs ys : List X) → length (take n xs) ≤ length (take n (xs ++ ys))
front_grows zero xs ys = omega arith
front_grows (suc n) [] ys = omega arith
front_grows (suc n) (x ∷ xs) ys = omega (arith, front_grows n xs ys)

pub front_short : {X : Type 0} (n : ℕ) (xs : List X) → length (take n xs) ≤ n
front_short zero xs = omega arith
front_short (suc n) [] = omega arith
front_short (suc n) (x ∷ xs) = omega (arith, front_short n xs)

-- a list that is full
pub front_full : {X : Type 0} (n : ℕ) (xs ys : List X) → length xs ≡ n → take n (xs ++ ys) ≡ xs
front_full n xs ys full = take-append-le n xs ys (omega (arith, full)) ∙ take_all n xs (omega (arith, full))

fits : {X : Type 0} (ys : List X) (m : ℕ) → take (min (length ys) m) ys ≡ take m ys
fits ys m = elim (cases_lt (length ys) m) [
  | inl less ↦
      let short : length ys ≤ m = omega arith in
      take_all (min (length ys) m) ys (omega (arith, min-eq_left short)) ∙ sym (take_all m ys short)
  | inr long ↦ ap (λ k. take k ys) (min-eq_right long)
]

-- as many more as there is room for
pub front_added : {X : Type 0} (n room place : ℕ) (xs ys more : List X) → room ≡ n - length xs → length xs ≤ n → place ≡ min (length ys) room → more ≡ take place ys → xs ++ more ≡ take n (xs ++ ys)
front_added n room place xs ys more left few least is =
    let whole : length xs + room ≡ n = omega (arith, left, few) in
    ap (λ l. xs ++ l) (is ∙ ap (λ k. take k ys) least ∙ fits ys room) ∙ sym (take-append-add xs ys room) ∙ ap (λ k. take k (xs ++ ys)) whole

-- with what follows, after more was taken
pub next_front : {X : Type 0} (n : ℕ) (taken before after more rest : List X) {wanted : List X} → more ≡ take n (taken ++ before) → (taken ++ before) ++ after ≡ taken ++ rest
    → take n (taken ++ rest) ≡ wanted → take n (more ++ after) ≡ wanted
next_front n taken before after more rest is same was =
    ap (λ l. take n (l ++ after)) is ∙ front_kept n (taken ++ before) after ∙ ap (take n) same ∙ was

module _ {X : Type 0} (xs more now wanted : List X) (same : xs ++ more ≡ wanted) where
  pub all_added : {T E : Type 0} (r : Result T E) → now ≡ cond (is_ok r) (xs ++ more) xs → OnOk r (now ≡ wanted)
  all_added (Ok x) is = is ∙ same
  all_added (Err e) is = tt

  pub some_added : 0 < length more → length xs < length wanted
  some_added some = omega (arith, some, length-append xs more, ap length same)
