-- Whose orders a record rules on, and that it rules on each once.
use Rattle.std.specs.Prelude.{◌≡◌, ◌≢◌, ℕ, List, [], ◌∷◌, slice_get}
use Rattle.std.specs.declared.option.Option.{Option}
use Rattle.std.specs.declared.option.Option.TheVariants.{Some}
use Rattle.fl_jobs.specs.declared.job.Job.{Job}
use Rattle.fl_crew_model.specs.declared.record.Deed.{Deed}
use Rattle.fl_crew_model.specs.declared.record.Deed.TheVariants.{Decided, Delivered}
use Rattle.fl_crew_model.specs.Answered.{IsOrderFor}
use Rattle.fl_registrar.specs.declared.awaited.Awaited.{Awaited}

-- what is awaited at a place is the order that the worker has there
abbrev pub AreAwaited : (ℕ → ℕ → Option Job) → List (Option Awaited) → Type 0
AreAwaited jobs orders =
    (place : ℕ) (order : Awaited) → slice_get orders place ≡ Some (Some order)
    → IsOrderFor (jobs order.worker place) order.body

-- no order is awaited at the place
abbrev pub IsDone : List (Option Awaited) → ℕ → Type 0
IsDone orders place = (order : Awaited) → slice_get orders place ≢ Some (Some order)

-- none of the decisions is on this place
abbrev pub IsFree : ℕ → List Deed → Type 0
IsFree place [] = Unit {0}
IsFree place (Decided d ∷ deeds) = (d.place ≢ place) × IsFree place deeds
IsFree place (Delivered p ∷ deeds) = IsFree place deeds

-- each is on a place of its own, where no order is awaited any more
abbrev pub AreApart : List (Option Awaited) → List Deed → Type 0
AreApart orders [] = Unit {0}
AreApart orders (Decided d ∷ deeds) =
    IsDone orders d.place × IsFree d.place deeds × AreApart orders deeds
AreApart orders (Delivered p ∷ deeds) = AreApart orders deeds
