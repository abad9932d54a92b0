-- The nodes of a world after one of them was put there.
use Rattle.std.proofs.Common.{◌≡◌, ◌≢◌, ◌∙◌, ℕ, Bool, true, false, cond, Some, refl, sym, ap, subst}
use Rattle.std.specs.FinMap as map
use Rattle.std.specs.FinMap.{nat_cmp-IsAntisymmetric}
use Rattle.std.specs.Cmp.{nat_cmp_total, Equal-is}
use Rattle.std.specs.Ordering.{nat_cmp, eq_by_cmp, is_eq}
use Rattle.std.proofs.lemmas.Cmp.{tied_itself}
use Rattle.fl_bench.specs.laws.Puts.{get_here, same_found}

module _ {A : Type 0} (m : map.FinMap nat_cmp A) (k : ℕ) (x : A) where
  -- what is there after a put: the new value at its key, or what was there at another
  pub data Now (q : ℕ) (y : A) : Type 0 where
    is_new : q ≡ k → x ≡ y → Now q y
    is_old : q ≢ k → map.get m q ≡ Some y → Now q y

  by_test : (q : ℕ) (y : A) (b : Bool) → eq_by_cmp nat_cmp q k ≡ b → cond b (Some x) (map.get m q) ≡ Some y → Now q y
  by_test q y true e f = is_new (nat_cmp-IsAntisymmetric q k ((Equal-is (nat_cmp q k)).0 e)) (same_found refl f)
  by_test q y false e f =
      let itself = ap is_eq (tied_itself nat_cmp_total q) in
      is_old (λ is. absurd (cc (e, subst (λ z. eq_by_cmp nat_cmp q z ≡ true) is itself))) f

  pub now : (q : ℕ) (y : A) → map.get (map.insert m k x) q ≡ Some y → Now q y
  now q y e = by_test q y (eq_by_cmp nat_cmp q k) refl (sym (map.get-insert nat_cmp_total m k x q) ∙ e)

  pub at_key : map.get (map.insert m k x) k ≡ Some x
  at_key = get_here nat_cmp_total m k x

  -- what was there is there, or the key is the new one
  pub data Stays (q : ℕ) (y : A) : Type 0 where
    is_replaced : q ≡ k → Stays q y
    is_still : map.get (map.insert m k x) q ≡ Some y → Stays q y

  stays_test : (q : ℕ) (y : A) → map.get m q ≡ Some y → (b : Bool) → eq_by_cmp nat_cmp q k ≡ b → Stays q y
  stays_test q y e true t = is_replaced (nat_cmp-IsAntisymmetric q k ((Equal-is (nat_cmp q k)).0 t))
  stays_test q y e false t =
      is_still (map.get-insert nat_cmp_total m k x q ∙ ap (λ b. cond b (Some x) (map.get m q)) t ∙ e)

  pub stays_there : (q : ℕ) (y : A) → map.get m q ≡ Some y → Stays q y
  stays_there q y e = stays_test q y e (eq_by_cmp nat_cmp q k) refl
