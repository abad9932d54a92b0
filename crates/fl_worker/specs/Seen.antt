-- How much of the list was seen at each job.
use Rattle.std.specs.Prelude.{ℕ, ◌≤◌, List, [], ◌∷◌}
use Rattle.fl_crew_model.specs.declared.record.Entry.{Entry}

-- never less than before, from `low` on
abbrev pub Rises : ℕ → List Entry → Type 0
Rises low [] = Unit {0}
Rises low (e ∷ es) = (low ≤ e.seen) × Rises e.seen es

-- at the last of them, or `low` where there is none
abbrev pub last_seen : ℕ → List Entry → ℕ
last_seen low [] = low
last_seen low (e ∷ es) = last_seen e.seen es
