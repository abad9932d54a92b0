-- A map from which one that is there was removed.
use Rattle.std.proofs.Common.{arith, ◌≡◌, ◌<◌, ◌-◌, ◌∙◌, ℕ, zero, suc, cond, refl, sym, ap, Option, Some, None, is_some}
use Rattle.std.specs.FinMap as map
use Rattle.std.specs.FinMap.{empty_of_len, get-empty, len-remove}
use Rattle.std.specs.Ordering.{nat_cmp}
use Rattle.std.proofs.lemmas.Cmp.{nat_cmp_total}

some_none : {X : Type 0} {x : X} → ◌≡◌ {A = Option X} (Some x) None → ⊥
some_none e = cc

-- has fewer entries
pub fewer_left : {X : Type 0} (m : map.FinMap nat_cmp X) (k : ℕ) (x : X) → map.get m k ≡ Some x
    → map.len (map.remove m k) < map.len m
fewer_left {X} m k x at = by_length (map.len m) refl
  where
    by_length : (n : ℕ) → map.len m ≡ n → map.len (map.remove m k) < map.len m
    by_length zero e =
        absurd (some_none (sym at ∙ ap (λ n. map.get n k) (empty_of_len m e) ∙ get-empty nat_cmp k))
    by_length (suc n) e =
        let less : map.len (map.remove m k) ≡ map.len m - 1 = len-remove nat_cmp_total m k
        ∙ ap (λ o. cond (is_some o) (map.len m - 1) (map.len m)) at in
        omega (arith, less, e)
