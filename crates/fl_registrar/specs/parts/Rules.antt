-- What a ruling does to the books, and to what is kept.
use Rattle.std.specs.Prelude.{◌≡◌, ℕ, false}
use Rattle.std.specs.declared.result.Result.{Result}
use Rattle.std.specs.declared.result.Result.TheVariants.{Ok, Err}
use Rattle.fl_store.specs.Kept.{Kept}
use Rattle.fl_system.specs.declared.answer.Fault.{Fault}
use Rattle.fl_system.specs.State.{kept_of}
use Rattle.fl_crew_model.specs.declared.record.Ruling.{Ruling}
use Rattle.fl_crew_model.specs.Books.{Changes}
use Rattle.fl_registrar.specs.Over.{RegistrarOver, books_of}

-- where there is no ruling they are as before
abbrev pub ChangesBy : {K : Type 0} → RegistrarOver K → ℕ → Result Ruling Fault
    → RegistrarOver K → Type 0
ChangesBy old worker (Ok ruling) new =
    Changes old.node.node.number (books_of old) worker ruling (books_of new)
ChangesBy old worker (Err fault) new = books_of new ≡ books_of old

pub record Rules {K : Type 0} (old : RegistrarOver K) (worker : ℕ) (result : Result Ruling Fault)
    (new : RegistrarOver K) (k k' : Kept) : Type 0 where
  pub changes : ChangesBy old worker result new
  pub kept : new.stopped ≡ false → k ≡ kept_of old.node.node → k' ≡ kept_of new.node.node
