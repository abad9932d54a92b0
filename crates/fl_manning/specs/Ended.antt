-- How a batch ends.
use Rattle.std.specs.Prelude.{◌≡◌, ◌≢◌, ℕ, List, [], ◌∷◌, map, slice_index_or}
use Rattle.std.specs.declared.result.Result.TheVariants.{Err}
use Rattle.fl_system.specs.declared.answer.Fault.TheVariants.{KeeperFailed, Stopped}
use Rattle.fl_dealing.specs.Answered.{AreAnswered}
use Rattle.fl_dealing.specs.Dealt.{owners_of}
use Rattle.fl_dealing.specs.Shown.{shown, shown_taken}
use Rattle.fl_dealing.specs.declared.entry.Entry.{Entry}
use Rattle.fl_dealing.specs.declared.entry.Taken.{Taken}
use Rattle.fl_dealing.specs.declared.item.Item.{Item}
use Rattle.fl_registrar.specs.Over.{RegistrarOver}
use Rattle.fl_worker.specs.declared.task.Task.{Task}
use Rattle.fl_worker.specs.declared.worker.Worker.{Worker}
use Rattle.fl_worker.specs.Tasks.{AreOf}

-- the registrar ruled on the packet
pub record IsRuledOn (taken : Taken) : Type 0 where
  pub runs : taken.answer ≢ Err Stopped
  pub keeps : taken.answer ≢ Err KeeperFailed

-- the record is closed
abbrev pub IsClosed : {K : Type 0} → RegistrarOver K → RegistrarOver K → Type 0
IsClosed old new = new ≡ record old { orders = []; deeds = []; rows = 0 }

-- it is the same worker, with its bench and at its desk
pub record IsSame (old new : Worker) : Type 0 where
  pub number : new.number ≡ old.number
  pub bench : new.bench ≡ old.bench
  pub board : new.desk.board ≡ old.desk.board

-- so it is, and it answers its tasks still
pub record IsKept (old new : Worker) : Type 0 where
  pub same : IsSame old new
  pub tasks : (ts : List Task) → AreOf ts old.entries.items → AreOf ts new.entries.items

abbrev pub shown_of : Worker → List Entry
shown_of w = map shown w.entries.items

-- what the registrar, who has the number 0, and each worker say
abbrev pub said_of : List Worker → List Taken → ℕ → List Entry
said_of ws taken w = slice_index_or (map shown_taken taken ∷ map shown_of ws) w []

-- all items are answered, which stand at the places of these owners
pub record AreAllAnswered (owners : List ℕ) (ws : List Worker) (taken : List Taken)
    : Type 0 where
  pub workers : ℕ
  pub procs : ℕ
  pub items : List Item
  pub owners_are : owners ≡ owners_of workers procs items
  pub answered : AreAnswered workers procs items (said_of ws taken)
