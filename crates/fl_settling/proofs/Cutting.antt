-- Entries that are given up, one after the other.
use Rattle.std.proofs.Common.{◌≡◌, ◌∙◌, ◌+◌, ◌<◌, ◌≤◌, ℕ, zero, suc, List, [], ◌∷◌, ◌++◌, length}
use Rattle.std.proofs.Common.{Option, take, drop, map, get_or, set, refl, sym, ap, subst, arith}
use Rattle.fl_crew_model.specs.declared.record.Entry.{Entry}
use Rattle.fl_crew_model.specs.declared.record.FailedOrder.{FailedOrder}
use Rattle.fl_settling.specs.Cut.{given_up}

-- the first so many are given up
abbrev pub given_up_to : Option FailedOrder → ℕ → ℕ → List Entry → List Entry
given_up_to failed w n es = map (given_up failed w) (take n es) ++ drop n es

module _ (failed : Option FailedOrder) (w : ℕ) where
  abbrev one : Entry → Entry
  one = given_up failed w

  abbrev to : ℕ → List Entry → List Entry
  to = given_up_to failed w

  next : (es : List Entry) (n : ℕ) (d : Entry) → n < length es
      → set (to n es) n (one (get_or (to n es) n d)) ≡ to (suc n) es
  next [] n d below = absurd (omega arith)
  next (e ∷ es) zero d below = refl
  next (e ∷ es) (suc n) d below = ap (λ l. one e ∷ l) (next es n d (omega arith))

  pub one_more : (es cur : List Entry) (n : ℕ) (d : Entry) → n < length es → cur ≡ to n es
      → set cur n (one (get_or cur n d)) ≡ to (n + 1) es
  one_more es cur n d below is =
      let count : suc n ≡ n + 1 = omega arith in
      subst (λ (l : List Entry). set l n (one (get_or l n d)) ≡ to (n + 1) es) (sym is)
      (next es n d below ∙ ap (λ k. to k es) count)

  pub all_given_up : (es : List Entry) (n : ℕ) → length es ≤ n → to n es ≡ map one es
  all_given_up [] zero h = refl
  all_given_up [] (suc n) h = refl
  all_given_up (e ∷ es) zero h = absurd (omega arith)
  all_given_up (e ∷ es) (suc n) h = ap (λ l. one e ∷ l) (all_given_up es n (omega arith))
