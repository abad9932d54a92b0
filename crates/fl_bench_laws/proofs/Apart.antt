-- Benches of one stride that give different pids.
use Rattle.std.proofs.Common.{◌≡◌, ◌≢◌, ◌<◌, ◌≤◌, ◌∙◌, ◌%◌, ◌⊎◌, inl, inr, sym, ap, Some, ℕ, arith, mod-eq_of_lt, eq-or-lt_of_le}
use native.Mathlib.Nat.{mod_self}
use Rattle.std.specs.FinMap as map
use Rattle.fl_labels.specs.declared.pid.Pid.{Pid}
use Rattle.fl_bench.specs.Bench.{BenchState, IsNext}
use Rattle.fl_bench.specs.Orderly.{IsOwn, IsOrderly}
use Rattle.fl_bench.specs.declared.process.Process.{Process}
use Rattle.fl_bench.specs.laws.Orderly.{next_own}

module _ {a b : BenchState} (same : a.stride ≡ b.stride) (apart : a.next % a.stride ≢ b.next % b.stride) where
  -- no pid is one that both give
  pub own_apart : {p q : Pid} → IsOwn a p → IsOwn b q → p ≢ q
  own_apart {p} {q} one two e =
      apart (sym one.residue_is ∙ ap (λ (k : Pid). k.serial % a.stride) e ∙ ap (λ s. q.serial % s) same ∙ two.residue_is)

  pub next_apart : {p q : Pid} → IsNext a p → IsNext b q → p ≢ q
  next_apart one two = own_apart (next_own one) (next_own two)

  pub there_apart : {p q : Pid} {x y : Process} → IsOrderly a → IsOrderly b → map.get a.processes p ≡ Some x
      → map.get b.processes q ≡ Some y → p ≢ q
  there_apart {p} {q} {x} {y} h k one two = own_apart (h.each p x one).own (k.each q y two).own

-- two indices of one stride have one residue only where they are one
pub index_apart : (s i j : ℕ) → 0 < i → i ≤ s → 0 < j → j ≤ s → i ≢ j → i % s ≢ j % s
index_apart s i j some within more below other = by_ends (eq-or-lt_of_le within) (eq-or-lt_of_le below)
  where
    by_ends : (i ≡ s) ⊎ (i < s) → (j ≡ s) ⊎ (j < s) → i % s ≡ j % s → ⊥
    by_ends (inl e) (inl f) same = other (e ∙ sym f)
    by_ends (inl e) (inr l) same =
        let zero_is : 0 ≡ j = sym (mod_self s) ∙ ap (λ n. n % s) (sym e) ∙ same ∙ mod-eq_of_lt l in
        absurd (omega (arith, zero_is, more))
    by_ends (inr l) (inl f) same =
        let zero_is : i ≡ 0 = sym (mod-eq_of_lt l) ∙ same ∙ ap (λ n. n % s) f ∙ mod_self s in
        absurd (omega (arith, zero_is, some))
    by_ends (inr l) (inr m) same = other (sym (mod-eq_of_lt l) ∙ same ∙ mod-eq_of_lt m)
