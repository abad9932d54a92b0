-- What a call passes on of a keeper.
use Rattle.fl_store.specs.Custody.{Custody}
use Rattle.fl_store.specs.Kept.{Kept}
use Rattle.fl_store.specs.Keeping.{Follows}

-- Where the keeper is honest it was before, and what may be found of it now comes by this step from
-- what might have been found before.
abbrev pub Passes : {K : Type 0} → Custody K → (Kept → Kept → Type 0) → K → K → Type 0
Passes custody step old new =
    custody.is_honest new
    → custody.is_honest old × Follows step (custody.may_hold old) (custody.may_hold new)
