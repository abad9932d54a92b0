-- Members of lists, and of sets as lists.
use Rattle.std.specs.Prelude.{◌≡◌, ◌⊎◌, Bool, true, false, cond, not, List, [], ◌∷◌, ℕ, ◌≤◌, length, take, refl}
use Rattle.std.proofs.Common.{inl, inr, sym, subst, ◌∙◌, arith}
use Rattle.std.specs.Cmp.{IsTotalOrder, Equal-is, eq_by_cmp_equiv}
use Rattle.std.specs.FinMap.{IsAntisymmetric}
use Rattle.std.specs.List.{Contains, list_any}
use Rattle.std.specs.Ordering.{eq_by_cmp}
use Rattle.std.specs.declared.cmp.Ordering.{Ordering}
use Rattle.std.proofs.lemmas.Bool.{false≢true}
use Rattle.std.proofs.lemmas.List.{take_all}
use Rattle.std.proofs.lemmas.List.Elements.{Contains-push, Contains-push_cases, Contains-append_left}
use Rattle.std.proofs.lemmas.Map.Views.{Contains-from_any, list_any-from_Contains}
use Rattle.fl_labels.specs.SetBy.{SetBy, In, members, contains-members}

module _ {A : Type 0} where
  pub none : (x : A) → Contains [] x → ⊥
  none x h = absurd (omega (arith, h.1))

  pub one : {x y : A} → Contains (x ∷ []) y → x ≡ y
  one {x} {y} h =
      elim (Contains-push_cases [] x y h) [ inl n ↦ absurd (none y n) | inr e ↦ e ]

  pub first : {x y : A} (xs : List A) → x ≡ y → Contains (x ∷ xs) y
  first {x} {y} xs e = Contains-append_left (x ∷ []) xs y (subst (Contains (x ∷ [])) e (Contains-push [] x))

  pub in_all : (xs : List A) (i : ℕ) (x : A) → length xs ≤ i → Contains xs x → Contains (take i xs) x
  in_all xs i x whole h = subst (λ l. Contains l x) (sym (take_all i xs whole)) h

module _ {K : Type 0} {R : K → K → Ordering} (o : IsTotalOrder R) (exact : IsAntisymmetric R) where
  -- by the test of the order
  pub any_has : (xs : List K) (q : K) → list_any (eq_by_cmp R q) xs ≡ true → Contains xs q
  any_has xs q h = Contains-from_any {eq = eq_by_cmp R} (λ x y e. exact x y ((Equal-is (R x y)).0 e)) q xs h

  pub has_any : (xs : List K) (q : K) → Contains xs q → list_any (eq_by_cmp R q) xs ≡ true
  has_any xs q h = list_any-from_Contains (eq_by_cmp_equiv o) q xs h

  pub in_has : (s : SetBy R) (q : K) → In s q → Contains (members s) q
  in_has s q h = any_has (members s) q (sym (contains-members s q) ∙ h)

  pub has_in : (s : SetBy R) (q : K) → Contains (members s) q → In s q
  has_in s q h = contains-members s q ∙ has_any (members s) q h

pub gain : (t b : Bool) → cond t true b ≡ true → (b ≡ true) ⊎ (t ≡ true)
gain true b h = inr refl
gain false b h = inl h

pub gained : (t b : Bool) → (b ≡ true) ⊎ (t ≡ true) → cond t true b ≡ true
gained true b h = refl
gained false b (inl h) = h
gained false b (inr h) = absurd (false≢true h)

pub lose : (t b : Bool) → cond t false b ≡ true → (b ≡ true) × ¬ (t ≡ true)
lose true b h = absurd (false≢true h)
lose false b h = (h, false≢true)

pub lost : (t b : Bool) → (b ≡ true) × ¬ (t ≡ true) → cond t false b ≡ true
lost true b h = absurd (h.1 refl)
lost false b h = h.0

-- what an answer `new` says of the set before
pub fresh : (new there : Bool) → new ≡ not there → new ≡ true → there ≡ false
fresh new true e h = absurd (false≢true (sym e ∙ h))
fresh new false e h = refl

pub stale : (new there : Bool) → new ≡ not there → new ≡ false → there ≡ true
stale new true e h = refl
stale new false e h = absurd (false≢true (sym h ∙ e))
