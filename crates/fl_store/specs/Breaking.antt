-- How a keeper is left broken by its opening, which loads it and then raises its boot.
use Rattle.std.specs.Prelude.{IsTrue}
use Rattle.fl_store.specs.Call.{Load, Boot}
use Rattle.fl_store.specs.Custody.{Custody}

-- it was broken, or loading it breaks it, or raising its boot does once it was loaded
pub data BreaksAtOpening {K : Type 0} (custody : Custody K) (keeper left : K) : Type 0 where
  was_broken : IsTrue (custody.is_broken keeper) → BreaksAtOpening custody keeper left
  loading : custody.breaks Load keeper left → BreaksAtOpening custody keeper left
  raising : {loaded : K} → custody.becomes Load keeper loaded → custody.breaks Boot loaded left
      → BreaksAtOpening custody keeper left

-- it is broken then, and as far as it is honest for one of these causes
pub record IsLeftBroken {K : Type 0} (custody : Custody K) (keeper left : K) : Type 0 where
  pub broken : IsTrue (custody.is_broken left)
  pub cause : custody.is_honest left → BreaksAtOpening custody keeper left
