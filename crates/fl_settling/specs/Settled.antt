-- What settling makes of a worker.
use Rattle.std.specs.Prelude.{◌≡◌, ◌≢◌, ◌⊎◌, ℕ, ◌≤◌, List, [], ◌∷◌, length, take, drop}
use Rattle.std.specs.declared.option.Option.{Option}
use Rattle.std.specs.declared.option.Option.TheVariants.{None, Some}
use Rattle.fl_ops.specs.declared.op.Op.{Op}
use Rattle.fl_system.specs.declared.answer.Fault.TheVariants.{KeeperFailed}
use Rattle.fl_replica.specs.Boards.{StartsWith}
use Rattle.fl_crew_model.specs.declared.record.Deed.{Deed}
use Rattle.fl_crew_model.specs.declared.record.Decision.{Decision}
use Rattle.fl_crew_model.specs.declared.record.Entry.{Entry}
use Rattle.fl_crew_model.specs.declared.record.FailedOrder.{FailedOrder}
use Rattle.fl_crew_model.specs.declared.record.Told.{Told}
use Rattle.fl_crew_model.specs.Compared.{AgreesUpTo, Agrees, Rise, decisions_of}
use Rattle.fl_worker.specs.declared.worker.Worker.{Worker}
use Rattle.fl_settling.specs.Cut.{given_up_from}

-- ---- where the keeper broke

-- the first of these entries is the order at this place, which saw so much at least, and at which
-- the worker stopped, as its keeper had broken
abbrev pub FailsFirst : ℕ → ℕ → List Entry → Type 0
FailsFirst place need [] = ⊥
FailsFirst place need (e ∷ es) =
    (e.place ≡ place) × (e.told ≡ Told.Refused KeeperFailed) × (need ≤ e.seen)

-- where the keeper broke at an order of worker w, that is the first of these entries
abbrev pub Meets : Option FailedOrder → ℕ → ℕ → List Entry → Type 0
Meets None w need es = Unit {0}
Meets (Some failed) w need es = failed.worker ≡ w → FailsFirst failed.place need es

-- it broke at none of its orders
abbrev pub IsElsewhere : Option FailedOrder → ℕ → Type 0
IsElsewhere None w = Unit {0}
IsElsewhere (Some failed) w = failed.worker ≢ w

-- ---- what stays of what a worker did

-- so many of its entries are the record's
abbrev pub IsRecorded : ℕ → List Deed → Worker → ℕ → Type 0
IsRecorded first deeds w good =
    (last : ℕ) × (left : List Decision)
    × AgreesUpTo first (decisions_of w.number deeds) (take good w.entries.items) last left

-- so many are, and no more: it has to have seen so much then
pub record IsFront (first : ℕ) (deeds : List Deed) (w : Worker) (front last : ℕ) : Type 0 where
  pub fits : front ≤ w.good
  pub left : List Decision
  pub agrees :
      AgreesUpTo first (decisions_of w.number deeds) (take front w.entries.items) last left
  pub most : (good : ℕ) → good ≤ w.good → IsRecorded first deeds w good → good ≤ front

-- its desk knows just the published list, and where the keeper broke at an order of it, it stopped
-- there, behind what agrees with the record: that stands
pub record Stands (list : List Op) (failed : Option FailedOrder) (front last : ℕ) (old new : Worker)
    : Type 0 where
  pub desk : new.desk.list ≡ list
  pub meets : Meets failed old.number last (drop front old.entries.items)
  pub good : new.good ≡ front

-- and else nothing that it did
pub record IsUndone (list : List Op) (failed : Option FailedOrder) (front last : ℕ)
    (old new : Worker) : Type 0 where
  pub why : new.desk.list ≡ list → ¬ Meets failed old.number last (drop front old.entries.items)
  pub good : new.good ≡ 0

-- with this list published, these deeds since it was `first` long, and a keeper that broke at this
-- order, if it did at one
pub record IsSettled (first : ℕ) (list : List Op) (deeds : List Deed) (failed : Option FailedOrder)
    (old new : Worker) : Type 0 where
  pub number : new.number ≡ old.number
  pub bench : new.bench ≡ old.bench
  pub ends : new.ends ≡ old.ends
  pub tasks : new.tasks ≡ old.tasks
  -- its desk knows no less than before, and all that is published
  pub board : new.desk.board ≡ old.desk.board
  pub later : StartsWith new.desk.list old.desk.list
  pub learns : StartsWith new.desk.list list
  -- what of its entries stands
  pub front : ℕ
  pub last : ℕ
  pub is_front : IsFront first deeds old front last
  pub stands : Stands list failed front last old new ⊎ IsUndone list failed front last old new
  -- and the others are given up
  pub entries : new.entries.items ≡ given_up_from failed old.number new.good old.entries.items

-- it did all its tasks, and what it did is what the record says
pub record IsFine (first : ℕ) (list : List Op) (deeds : List Deed) (failed : Option FailedOrder)
    (old new : Worker) : Type 0 where
  pub desk : new.desk.list ≡ list
  pub good : new.good ≡ old.good
  pub entries : new.entries.items ≡ old.entries.items
  pub all : new.good ≡ length new.entries.items
  -- no decision on its orders is left over, and the keeper broke at none
  pub agrees : (last : ℕ) × Agrees first (decisions_of new.number deeds) new.entries.items last
  pub rises : Rise (decisions_of new.number deeds)
  pub elsewhere : IsElsewhere failed old.number
