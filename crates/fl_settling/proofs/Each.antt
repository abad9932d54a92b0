-- A loop that changes each element in turn.
use Rattle.std.proofs.Common.{◌≡◌, ◌≢◌, ◌↔◌, ◌∙◌, ◌&&◌, Bool, true, false, IsTrue, ℕ, ◌<◌, ◌≤◌, ◌+◌}
use Rattle.std.proofs.Common.{List, length, get_or, set, refl, sym, subst, arith, get_or-set_same}
use Rattle.std.proofs.Common.{get_or-set_other, below_more}
use Rattle.std.proofs.lemmas.List.{get_or_read}

-- what a read gave, at any default
pub read_same : {X : Type 0} (xs : List X) (i : ℕ) (x : X) → i < length xs → x ≡ get_or xs i x
    → (d : X) → get_or xs i d ≡ get_or xs i x
read_same xs i x below is d = sym (get_or_read xs i x below is d) ∙ is

module _ {X : Type 0} (R : X → X → Type 0) (old cur : List X) (i : ℕ) (item new : X) where
  -- the elements from i on are the old ones, so the one at i was
  was : ((k : ℕ) (d : X) → i ≤ k → get_or cur k d ≡ get_or old k d)
      → ((d : X) → get_or cur i d ≡ item) → (d : X) → get_or old i d ≡ item
  was rest is d = let here : i ≤ i = omega arith in sym (rest i d here) ∙ is d

  pub each_more : i < length cur → ((k : ℕ) (d : X) → i ≤ k → get_or cur k d ≡ get_or old k d)
      → ((d : X) → get_or cur i d ≡ item) → R item new
      → ((k : ℕ) (d : X) → k < i → R (get_or old k d) (get_or cur k d))
      → (k : ℕ) (d : X) → k < i + 1 → R (get_or old k d) (get_or (set cur i new) k d)
  each_more below rest is here before k d =
      below_more (λ j. R (get_or old j d) (get_or (set cur i new) j d)) i
      (λ j h.
      let other : j ≢ i = omega arith in
      subst (λ (x : X). R (get_or old j d) x) (sym (get_or-set_other cur i j new d other))
      (before j d h))
      (subst (λ (x : X). R x (get_or (set cur i new) i d)) (sym (was rest is d))
      (subst (λ (x : X). R item x) (sym (get_or-set_same cur i new d below)) here)) k

  pub rest_more : ((k : ℕ) (d : X) → i ≤ k → get_or cur k d ≡ get_or old k d)
      → (k : ℕ) (d : X) → i + 1 ≤ k → get_or (set cur i new) k d ≡ get_or old k d
  rest_more rest k d h =
      let other : k ≢ i = omega arith in
      let from : i ≤ k = omega arith in
      get_or-set_other cur i k new d other ∙ rest k d from

  -- each up to here was, and this one is
  pub each_less : i < length cur → ((k : ℕ) (d : X) → i ≤ k → get_or cur k d ≡ get_or old k d)
      → ((d : X) → get_or cur i d ≡ item)
      → ((k : ℕ) (d : X) → k < i + 1 → R (get_or old k d) (get_or (set cur i new) k d))
      → ((k : ℕ) (d : X) → k < i → R (get_or old k d) (get_or cur k d)) × R item new
  each_less below rest is all = (
    λ k d h.
        let other : k ≢ i = omega arith in
        subst (λ (x : X). R (get_or old k d) x) (get_or-set_other cur i k new d other)
        (all k d (omega arith)),
    subst (λ (x : X). R item x) (get_or-set_same cur i new new below)
        (subst (λ (x : X). R x (get_or (set cur i new) i new)) (was rest is new)
        (all i new (omega arith))),
  )

  -- a flag that says whether it is so of each up to here
  pub flag_more : (fine one : Bool) → i < length cur
      → ((k : ℕ) (d : X) → i ≤ k → get_or cur k d ≡ get_or old k d)
      → ((d : X) → get_or cur i d ≡ item)
      → IsTrue one ↔ R item new
      → IsTrue fine ↔ ((k : ℕ) (d : X) → k < i → R (get_or old k d) (get_or cur k d))
      → IsTrue (fine && one)
      ↔ ((k : ℕ) (d : X) → k < i + 1 → R (get_or old k d) (get_or (set cur i new) k d))
  flag_more true true below rest is here before =
      (λ t. each_more below rest is (here.0 refl) (before.0 refl), λ all. refl)
  flag_more true false below rest is here before =
      (λ t. absurd (cc), λ all. here.1 (each_less below rest is all).1)
  flag_more false true below rest is here before =
      (λ t. absurd (cc), λ all. before.1 (each_less below rest is all).0)
  flag_more false false below rest is here before =
      (λ t. absurd (cc), λ all. before.1 (each_less below rest is all).0)
