-- Fields that are walked over, of which nothing is kept.
use Rattle.std.specs.Prelude.{◌≡◌, ℕ, Bool, List, Result, MatchResult, None}
use Rattle.fl_ops.specs.Grammar.{first_fault}
use Rattle.fl_wire.specs.declared.fault.ReadFault.{ReadFault}
use Rattle.fl_wire.specs.Faults.{IsBad}

-- they have no fault, or it is their first
abbrev pub AreWalked : {A : Type 0} → List (ℕ × Bool) → Result A ReadFault → Type 0
AreWalked fields result = MatchResult result (λ _. first_fault fields ≡ None) (IsBad fields)

-- and without one they end there
abbrev pub AreWalkedTo : List (ℕ × Bool) → ℕ → Result ℕ ReadFault → Type 0
AreWalkedTo fields end result =
    MatchResult result (λ e. (first_fault fields ≡ None) × (e ≡ end)) (IsBad fields)
