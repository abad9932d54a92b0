-- What is told for an order of a place.
use Rattle.std.proofs.Common.{◌≡◌, ◌∙◌, refl, sym, ap, subst, ℕ, Option, None, Some, slice_get}
use Rattle.fl_ops.specs.declared.op.Body.{Body}
use Rattle.fl_system.specs.declared.answer.Fault.TheVariants.{Stopped}
use Rattle.fl_registrar.specs.declared.awaited.Awaited.{Awaited}
use Rattle.fl_registrar.specs.Over.{RegistrarOver}
use Rattle.fl_registrar.specs.Ruling.{Awaits, worker_awaited}
use Rattle.fl_worker.specs.declared.ask.Ruled.{Ruled}
use Rattle.fl_worker.specs.declared.ask.Ruled.TheVariants.{Failed}
use Rattle.fl_crew_threads.specs.Told.{HasOrderAt, IsTold, IsToldThere}

module _ {K : Type 0} (workers : ℕ) (old : RegistrarOver K) (place : ℕ) (body : Body) where
  its_worker : (worker : ℕ) → HasOrderAt workers old place body worker
      → worker_awaited (slice_get old.orders place) ≡ Some worker
  its_worker worker its = ap worker_awaited its.1.awaited

  -- the order there is not of one of the workers
  pub told_nobody : (given : Option ℕ) → worker_awaited (slice_get old.orders place) ≡ given
      → ((worker : ℕ) → given ≡ Some worker → ¬ HasOrderAt workers old place body worker)
      → IsToldThere workers old old place body (Failed Stopped)
  told_nobody given at none = record {
    told = λ worker its. absurd (none worker (sym at ∙ its_worker worker its) its);
    stopped = (λ is worker its. none worker (sym at ∙ its_worker worker its) its, λ _. refl);
    same = λ _. refl;
  }

  -- it is of this one
  module _ (new : RegistrarOver K) (worker : ℕ) (ruled : Ruled)
      (at : worker_awaited (slice_get old.orders place) ≡ Some worker) where
    no_other : (other : ℕ) → HasOrderAt workers old place body other → worker ≡ other
    no_other other its =
        let both : Some worker ≡ Some other = sym at ∙ its_worker other its in cc

    pub told_its : IsTold old new worker place ruled
        → (ruled ≡ Failed Stopped → ¬ Awaits old worker place body)
        → (¬ HasOrderAt workers old place body worker → ruled ≡ Failed Stopped)
        → (ruled ≡ Failed Stopped → new ≡ old)
        → IsToldThere workers old new place body ruled
    told_its told not_awaited stopped same = record {
      told = λ other its. subst (λ (w : ℕ). IsTold old new w place ruled) (no_other other its) told;
      stopped = (
        λ is other its. not_awaited is
            (subst (λ (w : ℕ). Awaits old w place body) (sym (no_other other its)) its.1),
        λ none. stopped (none worker),
      );
      same = same;
    }
