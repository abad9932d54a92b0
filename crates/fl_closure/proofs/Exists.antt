-- That a list has something of a kind.
use Rattle.std.specs.Prelude.{◌≡◌, ◌⊎◌, ◌↔◌, List, [], ◌∷◌, ◌++◌, ℕ, ◌+◌, ◌<◌, ◌≤◌, length, get_or, take}
use Rattle.std.proofs.Common.{inl, inr, sym, ap, subst, ◌∙◌}
use Rattle.std.specs.List.{Contains}
use Rattle.std.proofs.lemmas.List.{take_more, take_all}
use Rattle.std.proofs.lemmas.List.Elements.{Contains-append_left, Contains-append_right, Contains-append_cases}
use Rattle.fl_closure.proofs.Members.{none, one, first}

abbrev pub Exists : {A : Type 0} → List A → (A → Type 0) → Type 0
Exists {A} xs P = (x : A) × Contains xs x × P x

module _ {A : Type 0} (P : A → Type 0) where
  pub exists_none : ¬ Exists [] P
  exists_none h = none h.0 h.1

  pub exists_append : (xs ys : List A) → Exists (xs ++ ys) P ↔ (Exists xs P ⊎ Exists ys P)
  exists_append xs ys = (
    λ h. elim (Contains-append_cases xs ys h.0 h.1) [ inl m ↦ inl (h.0, m, h.2) | inr m ↦ inr (h.0, m, h.2) ],
    λ h. elim h [ inl k ↦ (k.0, Contains-append_left xs ys k.0 k.1, k.2) | inr k ↦ (k.0, Contains-append_right xs ys k.0 k.1, k.2) ],
  )

  pub exists_one : (x : A) → Exists (x ∷ []) P ↔ P x
  exists_one x = (λ h. subst P (sym (one h.1)) h.2, λ p. (x, first [] (λ i. x), p))

  pub exists_push : (xs : List A) (x : A) → Exists (xs ++ x ∷ []) P ↔ (Exists xs P ⊎ P x)
  exists_push xs x = (
    λ h. elim ((exists_append xs (x ∷ [])).0 h) [ inl m ↦ inl m | inr m ↦ inr ((exists_one x).0 m) ],
    λ h. (exists_append xs (x ∷ [])).1 (elim h [ inl m ↦ inl m | inr p ↦ inr ((exists_one x).1 p) ]),
  )

  pub exists_cons : (x : A) (xs : List A) → Exists (x ∷ xs) P ↔ (P x ⊎ Exists xs P)
  exists_cons x xs = (
    λ h. elim ((exists_append (x ∷ []) xs).0 h) [ inl m ↦ inl ((exists_one x).0 m) | inr m ↦ inr m ],
    λ h. (exists_append (x ∷ []) xs).1 (elim h [ inl p ↦ inl ((exists_one x).1 p) | inr m ↦ inr m ]),
  )

  pub exists_none_yet : (xs : List A) → ¬ Exists (take 0 xs) P
  exists_none_yet [] h = exists_none h
  exists_none_yet (x ∷ xs) h = exists_none h

  pub exists_more : (xs : List A) (i : ℕ) (x : A) → i < length xs → x ≡ get_or xs i x
      → Exists (take (i + 1) xs) P ↔ (Exists (take i xs) P ⊎ P x)
  exists_more xs i x within at =
      let is : take (i + 1) xs ≡ take i xs ++ x ∷ [] = take_more xs i x within ∙ ap (λ y. take i xs ++ y ∷ []) (sym at) in (
        λ h. (exists_push (take i xs) x).0 (subst (λ l. Exists l P) is h),
        λ h. subst (λ l. Exists l P) (sym is) ((exists_push (take i xs) x).1 h),
      )

  pub exists_all : (xs : List A) (i : ℕ) → length xs ≤ i → Exists (take i xs) P ↔ Exists xs P
  exists_all xs i whole =
      let is : take i xs ≡ xs = take_all i xs whole in (
        λ h. subst (λ l. Exists l P) is h,
        λ h. subst (λ l. Exists l P) (sym is) h,
      )

module _ {A : Type 0} (xs : List A) (i : ℕ) (x : A) (within : i < length xs) (at : x ≡ get_or xs i x) where
  pub contains_more : (y : A) → Contains (take (i + 1) xs) y ↔ (Contains (take i xs) y ⊎ (x ≡ y))
  contains_more y = (
    λ h. elim ((exists_more (λ z. z ≡ y) xs i x within at).0 (y, h, (λ i. y))) [
      | inl m ↦ inl (subst (Contains (take i xs)) m.2 m.1)
      | inr e ↦ inr e
    ],
    λ h.
        let m = (exists_more (λ z. z ≡ y) xs i x within at).1 (elim h [ inl k ↦ inl (y, k, (λ i. y)) | inr e ↦ inr e ]) in
        subst (Contains (take (i + 1) xs)) m.2 m.1,
  )
