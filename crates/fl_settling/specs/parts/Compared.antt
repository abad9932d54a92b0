-- What comparing finds of a worker.
use Rattle.std.specs.Prelude.{◌≡◌, ℕ, List, length}
use Rattle.fl_crew_model.specs.declared.record.Deed.{Deed}
use Rattle.fl_crew_model.specs.Compared.{Agrees, Rise, decisions_of}
use Rattle.fl_worker.specs.declared.worker.Worker.{Worker}

-- it stopped nowhere, and what it did is what the record says
pub record IsWhole (first : ℕ) (deeds : List Deed) (w : Worker) : Type 0 where
  pub all : w.good ≡ length w.entries.items
  pub agrees : (last : ℕ) × Agrees first (decisions_of w.number deeds) w.entries.items last
  pub rises : Rise (decisions_of w.number deeds)
