-- What a rule answers to who asks it whether something is safe.
use Rattle.std.specs.Prelude.{MatchOption}
use Rattle.std.specs.declared.cmp.Ordering.{Ordering}
use Rattle.std.specs.declared.option.Option.{Option}
use Rattle.fl_labels.specs.Found.{IsLeastOutside}

-- none exactly where it is safe, and else the least of P that is not one of Q
abbrev pub Judges : {K : Type 0} → (K → K → Ordering) → Type 0 → (K → Type 0) → (K → Type 0) → Option K → Type 0
Judges R safe P Q answer = MatchOption answer safe (IsLeastOutside R P Q)
