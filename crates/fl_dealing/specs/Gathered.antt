-- What was answered, in one list.
use Rattle.std.specs.Prelude.{◌≡◌, ◌==◌, ℕ, ◌+◌, List, [], ◌∷◌, map, length, slice_index_or, if◌then◌else◌}
use Rattle.fl_dealing.specs.declared.entry.Entry.{Entry}
use Rattle.fl_dealing.specs.declared.entry.Taken.{Taken}
use Rattle.fl_dealing.specs.declared.gathering.Lane.{Lane}
use Rattle.fl_dealing.specs.Shown.{shown, shown_taken}

-- those that owner w has, in their order
abbrev pub select : {X : Type 0} → ℕ → List ℕ → List X → List X
select w [] xs = []
select w (o ∷ os) [] = []
select w (o ∷ os) (x ∷ xs) = if o == w then x ∷ select w os xs else select w os xs

-- each stands at its place, from this one on
abbrev pub StandFrom : ℕ → List Entry → Type 0
StandFrom place [] = Unit {0}
StandFrom place (e ∷ es) = (e.job ≡ place) × StandFrom (place + 1) es

-- What each owner says, by its number: the registrar has 0, then the workers come in turn. Nobody
-- else says anything.
abbrev pub said_by : List Lane → List Taken → ℕ → List Entry
said_by lanes taken w =
    slice_index_or (map shown_taken taken ∷ map (λ lane. map shown lane.entries.items) lanes) w []

-- the list has an entry for each place, and each owner's in their order
pub record IsGathered (owners : List ℕ) (said : ℕ → List Entry) (es : List Entry) : Type 0 where
  pub count : length es ≡ length owners
  pub places : StandFrom 0 es
  pub answers : (w : ℕ) → select w owners es ≡ said w
