-- How the benches of a node are made, one after another.
use Rattle.std.proofs.Common.{◌≡◌, ◌≤◌, ◌+◌, ◌++◌, ◌∙◌, refl, ap, subst, arith, ℕ, zero, suc, List, [], ◌∷◌, length, length-append}
use Rattle.fl_system.specs.Numbered.{items_to}
use Rattle.fl_desks.specs.parts.Turns.{AreBenches}

-- the items up to a number
pub record AreTo {A : Type 0} (item : ℕ → A) (last : ℕ) (items : List A) : Type 0 where
  pub are : items ≡ items_to last item

pub none_to : {A : Type 0} (item : ℕ → A) (items : List A) → items ≡ [] → AreTo item 0 items
none_to item items none = record { are = none }

pub one_to : {A : Type 0} (item : ℕ → A) (last : ℕ) (items items' : List A) (x : A) → AreTo item last items → items' ≡ items ++ x ∷ [] → x ≡ item (last + 1)
    → AreTo item (last + 1) items'
one_to item last items items' x h pushed is = record {
  are = pushed ∙ (λ i. h.are i ++ is i ∷ []) ∙ subst (λ n. items_to last item ++ item n ∷ [] ≡ items_to n item) next refl;
}
  where
    next : suc last ≡ last + 1
    next = omega arith

items_count : {A : Type 0} (last : ℕ) (item : ℕ → A) → length (items_to last item) ≡ last
items_count zero item = refl
items_count (suc last) item =
    let more = length-append (items_to last item) (item (suc last) ∷ []) in
    let before = items_count last item in omega (arith, more, before)

pub to_count : {A : Type 0} (item : ℕ → A) (last : ℕ) (items : List A) → AreTo item last items → length items ≡ last
to_count item last items h = ap length h.are ∙ items_count last item

-- the first of them makes the first process
pub first_turn : (count : ℕ) → count ≤ 255 → AreBenches 0 count
first_turn count few = record { few = few; turn = λ some. some }
