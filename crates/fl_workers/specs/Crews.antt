-- A crew, by who serves it.
use Rattle.std.specs.Prelude.{◌≤◌}
use Rattle.fl_workers.specs.declared.crew.Seats.{Seats}
use Rattle.fl_workers.specs.declared.crew.Seats.TheVariants.{Manned, Empty}
use Rattle.fl_workers.specs.Over.{CrewOver}
use Rattle.fl_workers.specs.Seats.{empty_of}

abbrev pub crew_of : {K : Type 0} → Seats K → CrewOver K
crew_of (Manned m) = m
crew_of (Empty node size) = empty_of node size

-- it is to have from 1 to 16 workers
abbrev pub IsSized : {K : Type 0} → Seats K → Type 0
IsSized (Manned m) = Unit {0}
IsSized (Empty node size) = (1 ≤ size) × (size ≤ 16)
