-- Lists whose items are numbered from 1 on.
use Rattle.std.specs.Prelude.{ℕ, zero, suc, List, [], ◌∷◌, ◌++◌}
use Rattle.std.specs.declared.option.Option.{Option}
use Rattle.std.specs.declared.option.Option.TheVariants.{None, Some}

-- the item of this number, if there is one
abbrev pub item_at : {A : Type 0} → List A → ℕ → Option A
item_at [] k = None
item_at (x ∷ xs) zero = None
item_at (x ∷ xs) (suc zero) = Some x
item_at (x ∷ xs) (suc (suc k)) = item_at xs (suc k)

-- with the item of this number changed, if there is one
abbrev pub change_item : {A : Type 0} → (A → A) → List A → ℕ → List A
change_item change [] k = []
change_item change (x ∷ xs) zero = x ∷ xs
change_item change (x ∷ xs) (suc zero) = change x ∷ xs
change_item change (x ∷ xs) (suc (suc k)) = x ∷ change_item change xs (suc k)

-- with x as the item of this number, if there is one
abbrev pub with_item : {A : Type 0} → List A → ℕ → A → List A
with_item xs k x = change_item (λ _. x) xs k

-- the item of each number up to the last one
abbrev pub items_to : {A : Type 0} → ℕ → (ℕ → A) → List A
items_to zero item = []
items_to (suc last) item = items_to last item ++ item (suc last) ∷ []
