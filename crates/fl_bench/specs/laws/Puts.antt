-- What stands in a table after a value was put there.
use Rattle.std.proofs.Common.{◌≡◌, ◌∙◌, ◌⊎◌, inl, inr, refl, sym, ap, Bool, true, false, cond}
use Rattle.std.proofs.Common.{Option, Some, None, Ordering}
use Rattle.std.specs.Cmp.{IsTotalOrder, Equal-is}
use Rattle.std.proofs.lemmas.Cmp.{tied_itself}
use Rattle.std.specs.FinMap as map
use Rattle.std.specs.FinMap.{IsAntisymmetric}
use Rattle.std.specs.Ordering.{eq_by_cmp, is_eq}

pub none_some : {A : Type 0} {o : Option A} {p : A} → o ≡ None → o ≡ Some p → ⊥
none_some e f = cc

-- what is found is one value
pub same_found : {A : Type 0} {o : Option A} {x y : A} → o ≡ Some x → o ≡ Some y → x ≡ y
same_found {x} e f = ap (λ o. elim o [ None ↦ x | Some z ↦ z ]) (sym e ∙ f)

module _ {K A : Type 0} {R : K → K → Ordering} (o : IsTotalOrder R) where
  pub get_here : (m : map.FinMap R A) (k : K) (x : A) → map.get (map.insert m k x) k ≡ Some x
  get_here m k x =
      map.get-insert o m k x k ∙ ap (λ r. cond (is_eq r) (Some x) (map.get m k)) (tied_itself o k)

  module _ (exact : IsAntisymmetric R) (m : map.FinMap R A) (k : K) where
    -- after a put the key has the new value, and any other what it had
    pub get_put : (x : A) (q : K)
        → ((q ≡ k) × (map.get (map.insert m k x) q ≡ Some x)) ⊎
        (map.get (map.insert m k x) q ≡ map.get m q)
    get_put x q = by_test (eq_by_cmp R q k) refl
      where
        by_test : (b : Bool) → eq_by_cmp R q k ≡ b
            → ((q ≡ k) × (map.get (map.insert m k x) q ≡ Some x)) ⊎
            (map.get (map.insert m k x) q ≡ map.get m q)
        by_test true e =
            inl (
              exact q k ((Equal-is (R q k)).0 e),
              map.get-insert o m k x q ∙ ap
                  (λ b. cond b (Some x) (map.get m q)) e,
            )
        by_test false e = inr (map.get-insert o m k x q ∙ ap (λ b. cond b (Some x) (map.get m q)) e)

    -- of two puts at one key the last one counts
    pub put_twice : (x y : A) → map.insert (map.insert m k x) k y ≡ map.insert m k y
    put_twice x y = map.same_map o exact _ _ (λ q.
        map.get-insert o (map.insert m k x) k y q
        ∙ ap (cond (eq_by_cmp R q k) (Some y)) (map.get-insert o m k x q)
        ∙ covers (eq_by_cmp R q k) (map.get m q)
        ∙ sym (map.get-insert o m k y q))
      where
        covers : (b : Bool) (was : Option A)
            → cond b (Some y) (cond b (Some x) was) ≡ cond b (Some y) was
        covers true was = refl
        covers false was = refl

    -- after a removal the key has nothing, and any other what it had
    pub get_gone : (q : K)
        → ((q ≡ k) × (map.get (map.remove m k) q ≡ None)) ⊎
        (map.get (map.remove m k) q ≡ map.get m q)
    get_gone q = by_test (eq_by_cmp R q k) refl
      where
        by_test : (b : Bool) → eq_by_cmp R q k ≡ b
            → ((q ≡ k) × (map.get (map.remove m k) q ≡ None)) ⊎
            (map.get (map.remove m k) q ≡ map.get m q)
        by_test true e =
            inl (
              exact q k ((Equal-is (R q k)).0 e),
              map.get-remove o m k q ∙ ap
                  (λ b. cond b None (map.get m q)) e,
            )
        by_test false e = inr (map.get-remove o m k q ∙ ap (λ b. cond b None (map.get m q)) e)

    -- what is left after a removal was there
    pub left_there : (q : K) (x : A) → map.get (map.remove m k) q ≡ Some x → map.get m q ≡ Some x
    left_there q x e = elim (get_gone q) [
      | inl gone ↦ absurd (none_some gone.1 e)
      | inr same ↦ sym same ∙ e
    ]
