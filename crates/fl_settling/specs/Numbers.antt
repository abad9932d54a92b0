-- The workers of a crew by their numbers, from 1 on.
use Rattle.std.specs.Prelude.{◌≡◌, ℕ, ◌+◌, ◌<◌, List, [], length, take, drop, slice_index_or}
use Rattle.std.specs.declared.option.Option.{Option}
use Rattle.std.specs.declared.option.Option.TheVariants.{None, Some}
use Rattle.fl_bench.specs.Bench.{BenchState, new_bench}
use Rattle.fl_system.specs.Numbered.{item_at}
use Rattle.fl_crew_model.specs.declared.record.Entry.{Entry}
use Rattle.fl_worker.specs.declared.task.Task.{Task}
use Rattle.fl_worker.specs.declared.worker.Worker.{Worker}

-- each has the number of its place
abbrev pub AreNumbered : List Worker → Type 0
AreNumbered ws = (k : ℕ) (d : Worker) → k < length ws → (slice_index_or ws k d).number ≡ k + 1

-- a part of the worker, or nothing where there is none
abbrev pub part_of : {A : Type 0} → (Worker → List A) → Option Worker → List A
part_of part None = []
part_of part (Some w) = part w

-- its bench, or an empty one where there is none
abbrev pub its_bench : Option Worker → BenchState
its_bench None = new_bench 1 1 1 1
its_bench (Some w) = w.bench

-- its entries of jobs that were done
abbrev pub good_of : Worker → List Entry
good_of w = take w.good w.entries.items

-- and those of the others
abbrev pub lost_of : Worker → List Entry
lost_of w = drop w.good w.entries.items

-- ---- of the worker of this number

abbrev pub tasks_by : List Worker → ℕ → List Task
tasks_by ws number = part_of (λ w. w.tasks.items) (item_at ws number)

abbrev pub entries_by : List Worker → ℕ → List Entry
entries_by ws number = part_of (λ w. w.entries.items) (item_at ws number)

abbrev pub good_by : List Worker → ℕ → List Entry
good_by ws number = part_of good_of (item_at ws number)

abbrev pub lost_by : List Worker → ℕ → List Entry
lost_by ws number = part_of lost_of (item_at ws number)

abbrev pub bench_by : List Worker → ℕ → BenchState
bench_by ws number = its_bench (item_at ws number)
