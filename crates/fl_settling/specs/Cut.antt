-- Entries that are given up.
use Rattle.std.specs.Prelude.{◌≡◌, ◌==◌, ◌&&◌, ℕ, Bool, false, List, ◌++◌, All, take, drop, map}
use Rattle.std.specs.Prelude.{if◌then◌else◌}
use Rattle.std.specs.declared.option.Option.{Option}
use Rattle.std.specs.declared.option.Option.TheVariants.{None, Some}
use Rattle.fl_system.specs.declared.answer.Fault.{Fault}
use Rattle.fl_system.specs.declared.answer.Fault.TheVariants.{KeeperFailed, Stopped}
use Rattle.fl_crew_model.specs.declared.record.Told.{Told}
use Rattle.fl_crew_model.specs.declared.record.Entry.{Entry}
use Rattle.fl_crew_model.specs.declared.record.FailedOrder.{FailedOrder}

-- whether the keeper broke at the order of this worker for this place
abbrev pub broke_at : Option FailedOrder → ℕ → ℕ → Bool
broke_at None w place = false
broke_at (Some failed) w place = (failed.worker == w) && (failed.place == place)

-- what is told of a job that was not done: that the keeper broke, where it did at this order, and
-- else that the worker is stopped
abbrev pub fault_at : Option FailedOrder → ℕ → ℕ → Fault
fault_at failed w place = if broke_at failed w place then KeeperFailed else Stopped

-- worker w did not do the job, and who asked is told so
abbrev pub given_up : Option FailedOrder → ℕ → Entry → Entry
given_up failed w e = record e { told = Told.Refused (fault_at failed w e.place) }

-- all but the first so many are given up
abbrev pub given_up_from : Option FailedOrder → ℕ → ℕ → List Entry → List Entry
given_up_from failed w good es = take good es ++ map (given_up failed w) (drop good es)

-- who asked for any of these is told so
abbrev pub AreGivenUp : Option FailedOrder → ℕ → List Entry → Type 0
AreGivenUp failed w es = All (λ e. e.told ≡ Told.Refused (fault_at failed w e.place)) es
