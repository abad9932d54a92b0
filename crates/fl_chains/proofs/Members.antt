-- Members of lists, and of sets made of lists.
use Rattle.std.specs.Prelude.{◌≡◌, ◌⊎◌, List, [], ◌∷◌, ◌++◌, ℕ, ◌+◌, ◌<◌, ◌≤◌, length, get_or, take, Bool, true, false, ◌==◌, ◌≢◌, Vec}
use Rattle.std.proofs.Common.{sym, ap, subst, ◌∙◌, arith, vec_len, Global}
use Rattle.std.specs.Cmp.{Equal-is, IsTotalOrder, eq_by_cmp_equiv}
use Rattle.std.specs.FinMap.{IsAntisymmetric}
use Rattle.std.specs.declared.cmp.Ordering.{Ordering}
use Rattle.std.specs.List.{Contains}
use Rattle.std.specs.Ordering.{eq_by_cmp}
use Rattle.std.proofs.lemmas.List.{take_more, take_all, nil_from_length}
use Rattle.std.proofs.lemmas.Bool.{eqb-true, eq-eqb, false≢true}
use Rattle.std.proofs.lemmas.List.Elements.{Contains-push, Contains-push_cases, Contains-append_left}
use Rattle.std.proofs.lemmas.Map.Views.{Contains-from_any, list_any-from_Contains}
use Rattle.fl_labels.specs.declared.cap.Cap.{Cap}
use Rattle.fl_labels.specs.Cap.{cap_cmp}
use Rattle.fl_labels.specs.CapOrder.{cap_total, cap_exact}
use Rattle.fl_labels.specs.SetBy.{In, of_list, contains-of_list}

module _ {A : Type 0} where
  pub none : (x : A) → ¬ Contains [] x
  none x h = absurd (omega (arith, h.1))

  pub none_yet : (xs : List A) (x : A) → ¬ Contains (take 0 xs) x
  none_yet [] x h = none x h
  none_yet (y ∷ xs) x h = none x h

  pub push_left : (xs : List A) (y x : A) → Contains xs x → Contains (xs ++ y ∷ []) x
  push_left xs y x h = Contains-append_left xs (y ∷ []) x h

  pub push_same : (xs : List A) (y x : A) → y ≡ x → Contains (xs ++ y ∷ []) x
  push_same xs y x e = subst (Contains (xs ++ y ∷ [])) e (Contains-push xs y)

  pub all_there : (xs : List A) (i : ℕ) (x : A) → length xs ≤ i → Contains xs x
      → Contains (take i xs) x
  all_there xs i x whole h = subst (λ l. Contains l x) (sym (take_all i xs whole)) h

  pub of_all : (xs : List A) (i : ℕ) (x : A) → length xs ≤ i → Contains (take i xs) x
      → Contains xs x
  of_all xs i x whole h = subst (λ l. Contains l x) (take_all i xs whole) h

-- one more of a list
module _ {A : Type 0} (xs : List A) (i : ℕ) (x : A) (within : i < length xs)
    (at : x ≡ get_or xs i x) where
  more_is : take (i + 1) xs ≡ take i xs ++ x ∷ []
  more_is = take_more xs i x within ∙ ap (λ y. take i xs ++ y ∷ []) (sym at)

  pub more_cases : (y : A) → Contains (take (i + 1) xs) y → Contains (take i xs) y ⊎ (x ≡ y)
  more_cases y h = Contains-push_cases (take i xs) x y (subst (λ l. Contains l y) more_is h)

  pub more_before : (y : A) → Contains (take i xs) y → Contains (take (i + 1) xs) y
  more_before y h = subst (λ l. Contains l y) (sym more_is) (push_left (take i xs) x y h)

  pub more_this : (y : A) → x ≡ y → Contains (take (i + 1) xs) y
  more_this y e = subst (λ l. Contains l y) (sym more_is) (push_same (take i xs) x y e)

-- members of a set that is made of a list
module _ {K : Type 0} {R : K → K → Ordering} (total : IsTotalOrder R) (exact : IsAntisymmetric R)
  where
    pub in_list : (xs : List K) (x : K) → In (of_list {R = R} xs) x → Contains xs x
    in_list xs x h =
        Contains-from_any {eq = eq_by_cmp R}
        (λ y z e. exact y z ((Equal-is (R y z)).0 e)) x xs
        (sym (contains-of_list total xs x) ∙ h)

    pub list_in : (xs : List K) (x : K) → Contains xs x → In (of_list {R = R} xs) x
    list_in xs x h = contains-of_list total xs x
        ∙ list_any-from_Contains (eq_by_cmp_equiv total) x xs h

pub in_made : (xs : List Cap) (c : Cap) → In (of_list {R = cap_cmp} xs) c → Contains xs c
in_made xs c h = in_list cap_total cap_exact xs c h

pub made_in : (xs : List Cap) (c : Cap) → Contains xs c → In (of_list {R = cap_cmp} xs) c
made_in xs c h = list_in cap_total cap_exact xs c h

-- vectors that have nothing, and others
pub empty_vec : {A : Type 0} (v : Vec A Global) (b : Bool) → b ≡ (vec_len v == 0) → b ≡ true
    → v.items ≡ []
empty_vec v b e t =
    let none : vec_len v ≡ 0 = eqb-true (vec_len v) 0 (sym e ∙ t) in
    let same = v.ok.0 in
    nil_from_length v.items (omega arith)

pub filled_vec : {A : Type 0} (v : Vec A Global) (b : Bool) → b ≡ (vec_len v == 0) → b ≡ false
    → 0 < length v.items
filled_vec v b e f =
    let some : vec_len v ≢ 0 = λ k. false≢true (sym f ∙ e ∙ eq-eqb (vec_len v) 0 k) in
    let same = v.ok.0 in
    omega arith
