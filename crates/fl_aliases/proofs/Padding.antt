-- Letters with zeros behind them.
use Rattle.std.proofs.Common.{◌≡◌, ◌∙◌, ap, sym, refl, arith, ℕ, suc, zero, Bool, true, false, true≢false, List, [], ◌∷◌, ◌++◌, get_or, drop, replicate, nat_eq}
use Rattle.std.specs.Cmp.Lexicographic.{pointwise, bytes_decides}
use Rattle.fl_aliases.specs.Alias.{is_letter, AllLetters, IsAlias, padded}

no_zero : (x n : ℕ) (a : List ℕ) → is_letter x ≡ true → x ∷ a ≡ replicate n 0 → ⊥
no_zero x zero a letter e = absurd (cc)
no_zero x (suc n) a letter e = true≢false (sym letter ∙ ap is_letter (ap (λ l. get_or l 0 0) e))

behind : (x : ℕ) (a : List ℕ) → AllLetters (x ∷ a) → AllLetters a
behind x a p = λ k d inside. p (suc k) d (omega (arith, inside))

-- zeros behind letters tell how many letters there are
same_letters : (a b : List ℕ) (m n : ℕ) → AllLetters a → AllLetters b → a ++ replicate m 0 ≡ b ++ replicate n 0 → a ≡ b
same_letters [] [] m n p q e = refl
same_letters (x ∷ a) [] m n p q e = absurd (no_zero x n _ (p 0 0 (omega arith)) e)
same_letters [] (y ∷ b) m n p q e = absurd (no_zero y m _ (q 0 0 (omega arith)) (sym e))
same_letters (x ∷ a) (y ∷ b) m n p q e =
    let rest = same_letters a b m n (behind x a p) (behind y b q) (ap (drop 1) e) in
    λ i. get_or (e i) 0 0 ∷ rest i

both_ways : (p q : Bool) → (p ≡ true → q ≡ true) → (q ≡ true → p ≡ true) → p ≡ q
both_ways true true f g = refl
both_ways false false f g = refl
both_ways true false f g = sym (f refl)
both_ways false true f g = g refl

-- aliases are equal just where they are with their zeros
pub same_test : (a b : List ℕ) → IsAlias a → IsAlias b → pointwise nat_eq (padded a) (padded b) ≡ pointwise nat_eq a b
same_test a b p q =
    let long = bytes_decides (padded a) (padded b) in
    let short = bytes_decides a b in
    both_ways _ _ (λ t. short.1 (same_letters a b _ _ p.letters q.letters (long.0 t))) (λ t. long.1 (ap padded (short.0 t)))
