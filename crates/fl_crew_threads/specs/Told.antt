-- What a worker is told of its order.
use Rattle.std.specs.Prelude.{◌≡◌, ◌↔◌, ℕ, [], ◌∷◌, ◌++◌}
use Rattle.fl_ops.specs.declared.op.Body.{Body}
use Rattle.fl_system.specs.declared.answer.Fault.TheVariants.{Stopped}
use Rattle.fl_crew_model.specs.Crews.{IsWorker}
use Rattle.fl_crew_model.specs.declared.record.Decision.{Decision}
use Rattle.fl_crew_model.specs.declared.record.Deed.TheVariants.{Decided}
use Rattle.fl_registrar.specs.Over.{RegistrarOver}
use Rattle.fl_registrar.specs.Ruling.{Awaits}
use Rattle.fl_registrar.specs.Stopping.{IsHalt}
use Rattle.fl_worker.specs.declared.ask.Ruled.{Ruled}
use Rattle.fl_worker.specs.declared.ask.Ruled.TheVariants.{Ruling, Failed}

-- the ruling of the last row, which is on the order of this worker at this place, or why there is none
abbrev pub IsTold : {K : Type 0} → RegistrarOver K → RegistrarOver K → ℕ → ℕ → Ruled → Type 0
IsTold old new worker place (Ruling ruling) =
    (d : Decision) × (new.deeds ≡ old.deeds ++ Decided d ∷ []) × (d.ruling ≡ ruling)
    × (d.worker ≡ worker) × (d.place ≡ place)
IsTold old new worker place (Failed fault) = IsHalt fault

-- this worker, one of so many, has an order for this body that is awaited at the place
abbrev pub HasOrderAt : {K : Type 0} → ℕ → RegistrarOver K → ℕ → Body → ℕ → Type 0
HasOrderAt workers r place body worker = IsWorker workers worker × Awaits r worker place body

-- What is told for an order of a place: what its worker is told there. Where it is no worker's, and
-- only there, the registrar tells that it is stopped, and does nothing.
pub record IsToldThere {K : Type 0} (workers : ℕ) (old new : RegistrarOver K) (place : ℕ)
    (body : Body) (ruled : Ruled) : Type 0 where
  pub told : (worker : ℕ) → HasOrderAt workers old place body worker
      → IsTold old new worker place ruled
  pub stopped : (ruled ≡ Failed Stopped)
      ↔ ((worker : ℕ) → ¬ HasOrderAt workers old place body worker)
  pub same : ruled ≡ Failed Stopped → new ≡ old
