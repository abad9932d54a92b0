-- The workers of a crew by their numbers, and a choice for each.
use Rattle.std.proofs.Common.{◌≡◌, ◌⊎◌, inl, inr, ◌<◌, ℕ, zero, suc, List, [], ◌∷◌, length, get_or}
use Rattle.std.proofs.Common.{Some, refl, arith}
use Rattle.std.proofs.lemmas.Bool.{cases_lt}
use Rattle.fl_system.specs.Numbered.{item_at}
use Rattle.fl_crew_model.specs.Crews.{IsWorker}

module _ {A : Type 0} where
  -- the item of number k + 1 is the one at the place k
  pub item_get : (xs : List A) (k : ℕ) (d : A) → k < length xs
      → item_at xs (suc k) ≡ Some (get_or xs k d)
  item_get [] k d below = absurd (omega arith)
  item_get (x ∷ xs) zero d below = refl
  item_get (x ∷ xs) (suc k) d below = item_get xs k d (omega arith)

  -- some item, where there is one
  pub some_item : (xs : List A) (k : ℕ) → k < length xs → A
  some_item [] k below = absurd (omega arith)
  some_item (x ∷ xs) k below = x

is_worker : (n w : ℕ) → IsWorker n w ⊎ (IsWorker n w → ⊥)
is_worker n w =
    elim (cases_lt 0 w) [
      | inl some ↦ elim (cases_lt n w) [
        | inl over ↦ inr (λ h. let high = h.high in omega (arith, over, high))
        | inr within ↦ inl (record { low = omega (arith, some); high = within })
      ]
      | inr none ↦ inr (λ h. let low = h.low in omega (arith, none, low))
    ]

-- what there is for each worker, as one function of its number
module _ {A : Type 0} (n : ℕ) (P : ℕ → A → Type 0) (default : A)
    (one : (w : ℕ) → IsWorker n w → (x : A) × P w x) where
  pick : (w : ℕ) → (IsWorker n w ⊎ (IsWorker n w → ⊥)) → A
  pick w (inl h) = (one w h).0
  pick w (inr never) = default

  picked : (w : ℕ) (is : IsWorker n w ⊎ (IsWorker n w → ⊥)) → IsWorker n w → P w (pick w is)
  unfolding pick
  picked w (inl h) also = (one w h).1
  picked w (inr never) h = absurd (never h)

  pub choice : (f : ℕ → A) × ((w : ℕ) → IsWorker n w → P w (f w))
  choice = (λ w. pick w (is_worker n w), λ w h. picked w (is_worker n w) h)
