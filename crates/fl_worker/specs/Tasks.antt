-- Which entry is of which task.
use Rattle.std.specs.Prelude.{◌≡◌, List, [], ◌∷◌}
use Rattle.fl_crew_model.specs.declared.record.Entry.{Entry}
use Rattle.fl_worker.specs.declared.task.Task.{Task}

pub record IsOf (t : Task) (e : Entry) : Type 0 where
  pub place : e.place ≡ t.place
  pub job : e.job.value ≡ t.job

-- one entry a task, in the order of the tasks
abbrev pub AreOf : List Task → List Entry → Type 0
AreOf [] [] = Unit {0}
AreOf (t ∷ ts) (e ∷ es) = IsOf t e × AreOf ts es
AreOf [] (e ∷ es) = ⊥
AreOf (t ∷ ts) [] = ⊥
