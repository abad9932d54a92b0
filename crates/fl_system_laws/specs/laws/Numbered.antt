-- Lists whose items are numbered from 1 on, with an item changed, and made of their items.
use Rattle.std.proofs.Common.{◌≡◌, ◌≢◌, ◌⊎◌, ◌<◌, ◌≤◌, ◌++◌, ◌∙◌, inl, inr, ℕ, zero, suc, List}
use Rattle.std.proofs.Common.{[], ◌∷◌, length, Some, refl, sym, ap, arith, length-append}
use Rattle.std.proofs.Common.{eqb, true, false}
use Rattle.std.proofs.lemmas.Bool.Decides.{eqb_tells}
use Rattle.fl_system.specs.Numbered.{item_at, change_item, with_item, items_to}

module _ {A : Type 0} where
  -- there are as many items
  pub length-change : (change : A → A) (xs : List A) (k : ℕ) → length (change_item change xs k) ≡ length xs
  length-change change [] k = refl
  length-change change (x ∷ xs) zero = refl
  length-change change (x ∷ xs) (suc zero) = refl
  length-change change (x ∷ xs) (suc (suc k)) = ap suc (length-change change xs (suc k))

  pub length-with : (xs : List A) (k : ℕ) (y : A) → length (with_item xs k y) ≡ length xs
  length-with xs k y = length-change (λ _. y) xs k

  -- the item that is changed
  pub changed_at : (change : A → A) (xs : List A) (k : ℕ) (x : A) → item_at xs k ≡ Some x
      → item_at (change_item change xs k) k ≡ Some (change x)
  changed_at change [] k x e = absurd (cc)
  changed_at change (y ∷ xs) zero x e = absurd (cc)
  changed_at change (y ∷ xs) (suc zero) x e = cc
  changed_at change (y ∷ xs) (suc (suc k)) x e = changed_at change xs (suc k) x e

  -- each other one
  pub others_stay : (change : A → A) (xs : List A) (k j : ℕ) → j ≢ k
      → item_at (change_item change xs k) j ≡ item_at xs j
  others_stay change [] k j other = refl
  others_stay change (x ∷ xs) zero j other = refl
  others_stay change (x ∷ xs) (suc zero) zero other = refl
  others_stay change (x ∷ xs) (suc zero) (suc zero) other = absurd (other refl)
  others_stay change (x ∷ xs) (suc zero) (suc (suc j)) other = refl
  others_stay change (x ∷ xs) (suc (suc k)) zero other = refl
  others_stay change (x ∷ xs) (suc (suc k)) (suc zero) other = refl
  others_stay change (x ∷ xs) (suc (suc k)) (suc (suc j)) other =
      others_stay change xs (suc k) (suc j) (λ e. other (ap suc e))

  -- what an item after a change was before
  pub record WasAt (change : A → A) (xs : List A) (k j : ℕ) (y : A) : Type 0 where
    pub before : A
    pub there : item_at xs j ≡ Some before
    pub became : (y ≡ before) ⊎ ((j ≡ k) × (y ≡ change before))

  pub was_at : (change : A → A) (xs : List A) (k j : ℕ) (y : A) → item_at (change_item change xs k) j ≡ Some y
      → WasAt change xs k j y
  was_at change [] k j y e = absurd (cc)
  was_at change (x ∷ xs) zero j y e = record { before = y; there = e; became = inl refl }
  was_at change (x ∷ xs) (suc zero) zero y e = absurd (cc)
  was_at change (x ∷ xs) (suc zero) (suc zero) y e = record { before = x; there = refl; became = inr (refl, cc) }
  was_at change (x ∷ xs) (suc zero) (suc (suc j)) y e = record { before = y; there = e; became = inl refl }
  was_at change (x ∷ xs) (suc (suc k)) zero y e = absurd (cc)
  was_at change (x ∷ xs) (suc (suc k)) (suc zero) y e = record { before = y; there = e; became = inl refl }
  was_at change (x ∷ xs) (suc (suc k)) (suc (suc j)) y e =
      let w = was_at change xs (suc k) (suc j) y e in
      record {
        before = w.before;
        there = w.there;
        became = elim w.became [ inl same ↦ inl same | inr (at, is) ↦ inr (ap suc at, is) ];
      }

  -- ---- lists that are made of their items

  pub length-items : (last : ℕ) (item : ℕ → A) → length (items_to last item) ≡ last
  length-items zero item = refl
  length-items (suc last) item =
      let made = length-items last item in
      let joined = length-append (items_to last item) (item (suc last) ∷ []) in
      omega (arith, made, joined)

  -- an item of a list to which one was added at the end
  added : (xs : List A) (x : A) (k : ℕ) (y : A) → item_at (xs ++ x ∷ []) k ≡ Some y
      → (item_at xs k ≡ Some y) ⊎ ((k ≡ suc (length xs)) × (y ≡ x))
  added [] x zero y e = absurd (cc)
  added [] x (suc zero) y e = inr (refl, cc)
  added [] x (suc (suc k)) y e = absurd (cc)
  added (z ∷ xs) x zero y e = absurd (cc)
  added (z ∷ xs) x (suc zero) y e = inl e
  added (z ∷ xs) x (suc (suc k)) y e =
      elim (added xs x (suc k) y e) [ inl at ↦ inl at | inr (at, is) ↦ inr (ap suc at, is) ]

  pub record IsMade (last : ℕ) (item : ℕ → A) (k : ℕ) (y : A) : Type 0 where
    pub some : 0 < k
    pub within : k ≤ last
    pub is : y ≡ item k

  -- the item of each number is the one that was made for it
  pub made_at : (last : ℕ) (item : ℕ → A) (k : ℕ) (y : A) → item_at (items_to last item) k ≡ Some y
      → IsMade last item k y
  made_at zero item k y e = absurd (cc)
  made_at (suc last) item k y e =
      by_place (λ at. made_at last item k y at) (added (items_to last item) (item (suc last)) k y e)
    where
      by_place : (item_at (items_to last item) k ≡ Some y → IsMade last item k y)
          → (item_at (items_to last item) k ≡ Some y)
          ⊎ ((k ≡ suc (length (items_to last item))) × (y ≡ item (suc last)))
          → IsMade (suc last) item k y
      by_place before (inl at) =
          let m = before at in
          record { some = m.some; within = omega (arith, m.within); is = m.is }
      by_place before (inr (at, is)) =
          let count = length-items last item in
          record {
            some = omega (arith, at);
            within = omega (arith, at, count);
            is = is ∙ ap item (ap suc (sym count) ∙ sym at);
          }

  -- an item of a list with one more at the end
  stays : (xs : List A) (x : A) (k : ℕ) (y : A) → item_at xs k ≡ Some y
      → item_at (xs ++ x ∷ []) k ≡ Some y
  stays [] x k y e = absurd (cc)
  stays (z ∷ zs) x zero y e = absurd (cc)
  stays (z ∷ zs) x (suc zero) y e = e
  stays (z ∷ zs) x (suc (suc k)) y e = stays zs x (suc k) y e

  last_is : (xs : List A) (x : A) → item_at (xs ++ x ∷ []) (suc (length xs)) ≡ Some x
  last_is [] x = refl
  last_is (y ∷ ys) x = last_is ys x

  -- an item that a list is made of
  pub item_at-items_to : (d : ℕ) (x : ℕ → A) (w : ℕ) → 1 ≤ w → w ≤ d
      → item_at (items_to d x) w ≡ Some (x w)
  item_at-items_to zero x w low high = absurd (omega arith)
  item_at-items_to (suc d) x w low high = by (eqb_tells w (suc d)) (λ up. item_at-items_to d x w low up)
    where
      by : ((eqb w (suc d) ≡ true) × (w ≡ suc d)) ⊎ ((eqb w (suc d) ≡ false) × (w ≢ suc d))
          → (w ≤ d → item_at (items_to d x) w ≡ Some (x w))
          → item_at (items_to d x ++ x (suc d) ∷ []) w ≡ Some (x w)
      by (inl same) again =
          let at : w ≡ suc (length (items_to d x)) = same.1 ∙ ap suc (sym (length-items d x)) in
          ap (item_at (items_to d x ++ x (suc d) ∷ [])) at
          ∙ (last_is (items_to d x) (x (suc d)) ∙ ap (λ k. Some (x k)) (sym same.1))
      by (inr other) again =
          let ne = other.1 in stays (items_to d x) (x (suc d)) w (x w) (again (omega arith))

  -- there is an item of each number up to the length
  pub item_within : (xs : List A) (w : ℕ) → 1 ≤ w → w ≤ length xs
      → (x : A) × (item_at xs w ≡ Some x)
  item_within [] w low high = absurd (omega (arith, low, high))
  item_within (x ∷ xs) zero low high = absurd (omega (arith, low))
  item_within (x ∷ xs) (suc zero) low high = (x, refl)
  item_within (x ∷ xs) (suc (suc w)) low high =
      item_within xs (suc w) (omega arith) (omega (arith, high))
