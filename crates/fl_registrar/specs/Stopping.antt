-- Where a registrar stops.
use Rattle.std.specs.Prelude.{◌≡◌, ◌⊎◌, ℕ, Bool, true}
use Rattle.std.specs.declared.option.Option.{Option}
use Rattle.std.specs.declared.option.Option.TheVariants.{None, Some}
use Rattle.std.specs.declared.result.Result.{Result}
use Rattle.std.specs.declared.result.Result.TheVariants.{Ok, Err}
use Rattle.fl_system.specs.declared.answer.Fault.{Fault}
use Rattle.fl_system.specs.declared.answer.Fault.TheVariants as faults
use Rattle.fl_crew_model.specs.declared.record.FailedOrder.{FailedOrder}
use Rattle.fl_registrar.specs.Over.{RegistrarOver}

-- it stops where its keeper failed, and is stopped from then on
abbrev pub stopped_after : {A : Type 0} → Bool → Result A Fault → Bool
stopped_after stopped (Ok answer) = stopped
stopped_after stopped (Err faults.KeeperFailed) = true
stopped_after stopped (Err fault) = stopped

-- the order at which its keeper failed, where it did at this one
abbrev pub failed_after : {A : Type 0} → Option FailedOrder → ℕ → ℕ → Result A Fault
    → Option FailedOrder
failed_after failed worker place (Ok answer) = failed
failed_after failed worker place (Err faults.KeeperFailed) =
    Some (record { worker = worker; place = place })
failed_after failed worker place (Err fault) = failed

-- it is stopped, or was not to answer, or its keeper failed: no other fault is told
abbrev pub IsHalt : Fault → Type 0
IsHalt fault = (fault ≡ faults.Stopped) ⊎ (fault ≡ faults.KeeperFailed)

-- where its keeper failed: what is saved, the list and the record are as before, and nothing is due
pub record HasFailed {K : Type 0} (old new : RegistrarOver K) : Type 0 where
  pub saved : new.node.node.saved ≡ old.node.node.saved
  pub idle : old.due ≡ None
  pub none : new.due ≡ None
  pub list : new.press.list ≡ old.press.list
  pub orders : new.orders ≡ old.orders
  pub deeds : new.deeds ≡ old.deeds
