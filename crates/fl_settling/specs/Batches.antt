-- What the end of a batch says of its workers, where they and the registrar kept what they promise.
use Rattle.std.specs.Prelude.{◌≡◌, ◌⊎◌, ℕ, ◌+◌, ◌<◌, Bool, IsTrue, List, [], ◌∷◌, All, length}
use Rattle.std.specs.Prelude.{slice_index_or}
use Rattle.std.specs.declared.option.Option.{Option}
use Rattle.fl_ops.specs.declared.op.Op.{Op}
use Rattle.fl_bench.specs.Bench.{BenchState}
use Rattle.fl_crew_model.specs.declared.record.Decision.{Decision}
use Rattle.fl_crew_model.specs.declared.record.Deed.{Deed}
use Rattle.fl_crew_model.specs.declared.record.Entry.{Entry}
use Rattle.fl_crew_model.specs.declared.record.FailedOrder.{FailedOrder}
use Rattle.fl_crew_model.specs.Books.{Books}
use Rattle.fl_crew_model.specs.Crews.{AllHome, IsWorker, IsFront, IsBatch, home_of}
use Rattle.fl_worker.specs.declared.task.Task.{Task}
use Rattle.fl_worker.specs.declared.worker.Worker.{Worker}
use Rattle.fl_worker.specs.Done.{IsDone}
use Rattle.fl_worker.specs.Seen.{Rises}
use Rattle.fl_worker.specs.Stops.{IsStopAt}
use Rattle.fl_worker.specs.Tasks.{AreOf}
use Rattle.fl_settling.specs.Cut.{AreGivenUp}
use Rattle.fl_settling.specs.Each.{Each}
use Rattle.fl_settling.specs.Numbers.{AreNumbered, tasks_by, entries_by, good_by, lost_by, bench_by}
use Rattle.fl_settling.specs.Settled.{Meets}

-- the tasks are jobs of worker w
abbrev pub AreHome : ℕ → ℕ → List Task → Type 0
AreHome workers w ts = All (λ t. home_of workers w t.job ≡ w) ts

-- the workers `start` were given tasks of their own, and are `now` once those are done
pub record AreBack (start now : List Worker) : Type 0 where
  pub numbered : AreNumbered start
  pub home : (k : ℕ) (d : Worker) → k < length start
      → AreHome (length start) (k + 1) (slice_index_or start k d).tasks.items
  pub done : Each IsDone start now

-- the first of these, if there is one, is the job at which the worker stopped, whose bench is this
abbrev pub IsStopFirst : List Op → BenchState → List Entry → Type 0
IsStopFirst list b [] = Unit {0}
IsStopFirst list b (e ∷ es) = IsStopAt list b e

-- and are `now` once they are settled, where all is fine or not, and where the keeper broke at this
-- order, if it did at one
pub record BatchEnds (number : ℕ) (b b' : Books) (deeds : List Deed) (failed : Option FailedOrder)
    (start now : List Worker) (fine : Bool) : Type 0 where
  -- the bench of each worker behind its good entries
  pub benches : ℕ → BenchState
  pub last : ℕ → ℕ
  pub left : ℕ → List Decision
  pub front : IsFront number (length start) b b' deeds (bench_by start) benches (good_by now) last
      left
  -- who asked for any of the others is told so
  pub given_up : (w : ℕ) → IsWorker (length start) w → AreGivenUp failed w (lost_by now w)
  -- there it stopped, where it stopped, or nothing stands that it did
  pub undone : (w : ℕ) → IsWorker (length start) w
      → IsStopFirst b'.list (benches w) (lost_by now w) ⊎ (good_by now w ≡ [])
  -- where the keeper broke at an order of it, that is the first of them, or nothing stands
  pub met : (w : ℕ) → IsWorker (length start) w
      → Meets failed w (last w) (lost_by now w) ⊎ (good_by now w ≡ [])
  -- no task is left out, and each is the worker's own
  pub homes : (w : ℕ) → IsWorker (length start) w → AllHome (length start) w (entries_by now w)
  pub tasks : (w : ℕ) → IsWorker (length start) w → AreOf (tasks_by start w) (entries_by now w)
  -- none saw less than an earlier one
  pub rises : (w : ℕ) → IsWorker (length start) w → Rises 0 (entries_by now w)
  -- where all is fine the batch is whole, and the benches are those that the workers have
  pub whole : IsTrue fine → (w : ℕ) → IsWorker (length start) w
      → (left w ≡ []) × (benches w ≡ bench_by now w)
  pub batch : IsTrue fine
      → IsBatch number (length start) b b' deeds (bench_by start) (bench_by now) (good_by now) last
