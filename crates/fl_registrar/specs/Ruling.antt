-- How an order is ruled on.
use Rattle.std.specs.Prelude.{◌≡◌, ◌<◌, ℕ, false, List, [], ◌∷◌, length, slice_get}
use Rattle.std.specs.declared.option.Option.{Option}
use Rattle.std.specs.declared.option.Option.TheVariants.{None, Some}
use Rattle.fl_labels.specs.declared.pid.Pid.{Pid}
use Rattle.fl_ops.specs.declared.op.Op.{Op}
use Rattle.fl_ops.specs.declared.op.Body.{Body}
use Rattle.fl_system.specs.declared.state.Batch.{Batch}
use Rattle.fl_system.specs.declared.state.Batch.TheVariants.{Ordered}
use Rattle.fl_crew_model.specs.declared.record.Decision.{Decision}
use Rattle.fl_crew_model.specs.declared.record.Ruling.{Ruling}
use Rattle.fl_crew_model.specs.declared.record.Ruling.TheVariants.{Made, Late, GivenUp}
use Rattle.fl_crew_model.specs.Compared.{EndBefore, decisions_of}
use Rattle.fl_registrar.specs.declared.awaited.Awaited.{Awaited}
use Rattle.fl_registrar.specs.Over.{RegistrarOver}

-- the registrar runs, and its record has a row left
pub record HasRoom {K : Type 0} (r : RegistrarOver K) : Type 0 where
  pub runs : r.stopped ≡ false
  pub room : length r.deeds < r.rows

-- so it is, and at this place, which is behind that of the last decision on an order of this
-- worker, it awaits one for this body
pub record Awaits {K : Type 0} (r : RegistrarOver K) (worker place : ℕ) (body : Body)
    : Type 0 where
  pub has_room : HasRoom r
  pub awaited : slice_get r.orders place ≡ Some (Some (record { worker = worker; body = body }))
  pub later : EndBefore (decisions_of worker r.deeds) place

-- whose order is awaited at a place where the table has this, if one is
abbrev pub worker_awaited : Option (Option Awaited) → Option ℕ
worker_awaited (Some (Some order)) = Some order.worker
worker_awaited (Some None) = None
worker_awaited None = None

-- what the ruling publishes
abbrev pub published_by : Ruling → List Op
published_by (Made op) = op ∷ []
published_by (Late op pid) = []
published_by (GivenUp reason) = []

-- what is due after it
abbrev pub due_after : Option Batch → ℕ → Ruling → Option Batch
due_after due worker (Made op) = None
due_after due worker (Late op pid) = Some (Ordered op (Some pid) (Some worker))
due_after due worker (GivenUp reason) = due

-- its operation is of this body, and what is due is of this maker
abbrev pub IsOf : Body → Pid → Ruling → Type 0
IsOf body pid (Made op) = op.body ≡ body
IsOf body pid (Late op maker) = (op.body ≡ body) × (maker ≡ pid)
IsOf body pid (GivenUp reason) = Unit {0}

-- the row of the record
abbrev pub decision_of : {K : Type 0} → RegistrarOver K → RegistrarOver K → ℕ → ℕ → Ruling
    → Decision
decision_of old new worker place ruling =
    record {
      worker = worker;
      place = place;
      ruling = ruling;
      before = length old.press.list;
      after = length new.press.list;
    }
