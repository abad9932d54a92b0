-- The history of a board: the batches that its press took.
use Rattle.std.specs.Prelude.{◌≡◌, ◌==◌, ℕ, true, List, [], ◌∷◌, ◌++◌, length, MatchBool}
use Rattle.logbook.specs.Pages.{Book, Named, Cell, Step, View}
use Rattle.fl_ops.specs.declared.op.Op.{Op}

-- the operations of the batches, in order
abbrev pub ops_of : List (List Op) → List Op
ops_of [] = []
ops_of (b ∷ bs) = b ++ ops_of bs

-- the word of this book
abbrev pub head_of : Book → Named
head_of b = record { tracked = true; key = 0; book = b }

-- the first word is the number of batches. The second is not used
abbrev pub IsCounted : List Cell → List (List Op) → Type 0
IsCounted cells log = cells ≡ (length log, true) ∷ (0, true) ∷ []

-- where the word was the one that was expected, the batch is added to all that was known
abbrev pub AddsBatch : Step (List Op) → View (List Op) ℕ → ℕ → View (List Op) ℕ → Type 0
AddsBatch s v found w = MatchBool (found == s.old) (w.0 ≡ v.0 ++ s.ask ∷ []) (Unit {0})
