-- What becomes of the books by a packet, and of what is kept.
use Rattle.std.specs.Prelude.{◌≡◌, ℕ, false, List}
use Rattle.std.specs.declared.result.Result.{Result}
use Rattle.std.specs.declared.result.Result.TheVariants.{Ok, Err}
use Rattle.fl_ops.specs.declared.op.Op.{Op}
use Rattle.fl_store.specs.Kept.{Kept}
use Rattle.fl_system.specs.declared.answer.Fault.{Fault}
use Rattle.fl_system.specs.State.{kept_of}
use Rattle.fl_crew_model.specs.Books.{IsDelivery}
use Rattle.fl_registrar.specs.declared.parcel.Receipt.{Receipt}
use Rattle.fl_registrar.specs.Over.{RegistrarOver, books_of}
use Rattle.fl_registrar.specs.Taking.{delivery_of}

-- where there is no receipt they are as before
abbrev pub TakenAs : {K : Type 0} → RegistrarOver K → List Op → Result Receipt Fault
    → RegistrarOver K → Type 0
TakenAs old ops (Ok receipt) new =
    (place : ℕ) → IsDelivery old.node.node.number (books_of old)
    (delivery_of old new place ops receipt) (books_of new)
TakenAs old ops (Err fault) new = books_of new ≡ books_of old

pub record Takes {K : Type 0} (old : RegistrarOver K) (ops : List Op)
    (result : Result Receipt Fault) (new : RegistrarOver K) (k k' : Kept) : Type 0 where
  pub changes : TakenAs old ops result new
  pub kept : new.stopped ≡ false → k ≡ kept_of old.node.node → k' ≡ kept_of new.node.node
