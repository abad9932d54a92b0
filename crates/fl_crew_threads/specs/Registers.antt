-- What a registrar did while it ruled for the workers of a batch.
use Rattle.std.specs.Prelude.{◌≡◌, ℕ, true, false, IsTrue, slice_get}
use Rattle.std.specs.declared.option.Option.{Option}
use Rattle.std.specs.declared.option.Option.TheVariants.{None, Some}
use Rattle.fl_labels.specs.declared.name.Name.{Name}
use Rattle.fl_ops.specs.declared.op.Body.{Body}
use Rattle.fl_system.specs.Naming.{IsNextAfter}
use Rattle.fl_jobs.specs.declared.job.Job.{Job}
use Rattle.fl_store.specs.Custody.{Custody}
use Rattle.fl_crew_model.specs.declared.record.FailedOrder.{FailedOrder}
use Rattle.fl_crew_model.specs.Answered.{AreOwn}
use Rattle.fl_crew_model.specs.Compared.{Rise, decisions_of}
use Rattle.fl_crew_model.specs.Crews.{AllOfWorkers}
use Rattle.fl_registrar.specs.Apart.{AreAwaited, AreApart}
use Rattle.fl_registrar.specs.Over.{RegistrarOver}
use Rattle.fl_registrar.specs.Passing.{Passes}
use Rattle.fl_registrar.specs.Ruling.{HasRoom}
use Rattle.fl_registrar.specs.Going.{GoesOn}

-- where it is stopped its keeper is broken
abbrev pub IsStoppedBroken : {K : Type 0} → Custody K → RegistrarOver K → Type 0
IsStoppedBroken custody r = r.stopped ≡ true → IsTrue (custody.is_broken r.node.keeper)

-- it is stopped at this order, which is awaited still, there is a name for its operation, and
-- nothing is due
pub record IsStoppedAt {K : Type 0} (r : RegistrarOver K) (order : FailedOrder) : Type 0 where
  pub stopped : r.stopped ≡ true
  pub due : r.due ≡ None
  pub body : Body
  pub awaited : slice_get r.orders order.place
      ≡ Some (Some (record { worker = order.worker; body = body }))
  pub named : (name : Name) × IsNextAfter r.node.node.saved r.node.node.number name

-- so it is where its keeper broke at one
abbrev pub IsStoppedThere : {K : Type 0} → RegistrarOver K → Type 0
IsStoppedThere r = (order : FailedOrder) → r.failed ≡ Some order → IsStoppedAt r order

-- its record goes on, with deeds for so many workers
pub record Registers {K : Type 0} (custody : Custody K) (workers : ℕ) (old new : RegistrarOver K)
    : Type 0 where
  pub number : new.node.node.number ≡ old.node.node.number
  pub boot : new.node.node.boot ≡ old.node.node.boot
  pub board : new.press.board ≡ old.press.board
  pub runs : new.stopped ≡ false → old.stopped ≡ false
  pub room : HasRoom new → HasRoom old
  pub of_workers : AllOfWorkers workers old.deeds → AllOfWorkers workers new.deeds
  -- where what is awaited are orders of these jobs, each ruling is on one of them,
  pub own : (jobs : ℕ → ℕ → Option Job) → AreAwaited jobs old.orders → AreOwn jobs old.deeds
      → AreOwn jobs new.deeds
  pub left : (jobs : ℕ → ℕ → Option Job) → AreAwaited jobs old.orders
      → AreAwaited jobs new.orders
  -- and each order is ruled on once
  pub apart : AreApart old.orders old.deeds → AreApart new.orders new.deeds
  -- on later and later places of each worker,
  pub rises : (w : ℕ) → Rise (decisions_of w old.deeds) → Rise (decisions_of w new.deeds)
  -- and it stops where its keeper breaks
  pub broken : IsStoppedBroken custody old → IsStoppedBroken custody new
  pub failed : IsStoppedThere old → IsStoppedThere new
  pub goes : Passes custody (GoesOn old new) old.node.keeper new.node.keeper
