-- No pid is given twice.
use Rattle.std.proofs.Common.{◌≡◌, ◌≢◌, ◌⊎◌, ◌∙◌, ◌<◌, ◌≤◌, ◌%◌, inl, inr, ℕ, length, Some, sym, ap, subst, arith, mod-eq_of_lt, eq-or-lt_of_le}
use native.Mathlib.Nat.{mod_self}
use Rattle.fl_labels.specs.declared.pid.Pid.{Pid}
use Rattle.fl_bench.specs.Bench.{BenchState, IsNext}
use Rattle.fl_bench.specs.Orderly.{IsGiven}
use Rattle.fl_bench.specs.laws.Orderly.{next_own}
use Rattle.fl_bench.specs.laws.Puts.{same_found}
use Rattle.fl_system.specs.Numbered.{item_at}
use Rattle.fl_history_laws.specs.Seats.{Seats, IsPlaced, IsTidy, WasGiven, earlier, now}
use Rattle.fl_history_laws.specs.laws.Making.{Gives}
use Rattle.fl_history_laws.specs.laws.Turning.{same_place}

-- two places of one list have one residue by its length only where they are one
index_apart : (s i j : ℕ) → 0 < i → i ≤ s → 0 < j → j ≤ s → i ≢ j → i % s ≢ j % s
index_apart s i j some within more below other = by_ends (eq-or-lt_of_le within) (eq-or-lt_of_le below)
  where
    by_ends : (i ≡ s) ⊎ (i < s) → (j ≡ s) ⊎ (j < s) → i % s ≡ j % s → ⊥
    by_ends (inl e) (inl f) same = other (e ∙ sym f)
    by_ends (inl e) (inr l) same =
        let zero_is : 0 ≡ j = sym (mod_self s) ∙ ap (λ n. n % s) (sym e) ∙ same ∙ mod-eq_of_lt l in
        absurd (omega (arith, zero_is, more))
    by_ends (inr l) (inl f) same =
        let zero_is : i ≡ 0 = sym (mod-eq_of_lt l) ∙ same ∙ ap (λ n. n % s) f ∙ mod_self s in
        absurd (omega (arith, zero_is, some))
    by_ends (inr l) (inr m) same = other (sym (mod-eq_of_lt l) ∙ same ∙ mod-eq_of_lt m)

module _ (s : Seats) (tidy : IsTidy s) (k : ℕ) (b : BenchState) (stands : item_at s.benches k ≡ Some b) (pid : Pid)
    (next : IsNext b pid) where
  its : IsPlaced s k b
  its = tidy.each k b stands

  -- nor was it at another bench
  at_another : (j : ℕ) (c : BenchState) → item_at s.benches j ≡ Some c → IsGiven c pid → ¬ (j ≡ k) → ⊥
  at_another j c e g other =
      let p = tidy.each j c e in
      let here : pid.serial % length s.benches ≡ k % length s.benches =
      ap (λ x. x % length s.benches) next.serial ∙ its.residue_is in
      let there : pid.serial % length s.benches ≡ j % length s.benches =
      ap (λ x. pid.serial % x) (sym p.stride_is) ∙ g.own.residue_is ∙ ap (λ x. c.next % x) p.stride_is
      ∙ p.residue_is in
      index_apart (length s.benches) j k p.some p.within its.some its.within other (sym there ∙ here)

  at_bench : (j : ℕ) (c : BenchState) → item_at s.benches j ≡ Some c → IsGiven c pid → (j ≡ k) ⊎ (¬ (j ≡ k)) → ⊥
  at_bench j c e g (inl is) =
      let same : b ≡ c = same_found stands (subst (λ i. item_at s.benches i ≡ Some c) is e) in
      let nexts : b.next ≡ c.next = ap (λ (x : BenchState). x.next) same in
      let serial = next.serial in
      absurd (omega (arith, nexts, serial, g.below))
  at_bench j c e g (inr other) = at_another j c e g other

  -- the next pid of a bench was not given
  pub next_new : ¬ WasGiven s pid
  next_new (earlier below) =
      let boot = next.boot in
      let place = its.boot_is in
      absurd (omega (arith, below, boot, place))
  next_new (now j c e g) = at_bench j c e g (same_place j k)

-- and is given once the bench gave it
pub gives_given : (s : Seats) (k : ℕ) (b after : BenchState) (pid : Pid) → 0 < b.stride → Gives b after pid
    → after.node ≡ b.node → after.boot ≡ b.boot → after.next % after.stride ≡ b.next % b.stride
    → after.stride ≡ b.stride
    → item_at s.benches k ≡ Some after → WasGiven s pid
gives_given s k b after pid forward gives node boot residue stride e =
    let own = next_own gives.next in
    now k after e (record {
      own = record {
        node_is = own.node_is ∙ sym node;
        boot_is = own.boot_is ∙ sym boot;
        residue_is = ap (λ c. pid.serial % c) stride ∙ own.residue_is ∙ sym residue;
      };
      below = omega (arith, gives.next.serial, gives.then_next, forward);
    })
