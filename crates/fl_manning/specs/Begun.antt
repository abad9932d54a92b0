-- How a batch begins.
use Rattle.std.specs.Prelude.{◌≡◌, ◌++◌, ℕ, [], List, length, All, slice_index_or, ◌<◌}
use Rattle.std.specs.declared.option.Option.{Option}
use Rattle.std.specs.declared.option.Option.TheVariants.{None, Some}
use Rattle.fl_system.specs.declared.state.Batch.{Batch}
use Rattle.fl_system.specs.State.{ops_in}
use Rattle.fl_bench.specs.Bench.{BenchState}
use Rattle.fl_crew_model.specs.Crews.{IsWorker, benches_with}
use Rattle.fl_dealing.specs.declared.dealing.Queue.{Queue}
use Rattle.fl_registrar.specs.declared.awaited.Awaited.{Awaited}
use Rattle.fl_registrar.specs.Over.{RegistrarOver}
use Rattle.fl_registrar.specs.Publishing.{IsSameButList}
use Rattle.fl_settling.specs.Each.{Each}
use Rattle.fl_settling.specs.Numbers.{bench_by}
use Rattle.fl_worker.specs.Done.{IsReady}
use Rattle.fl_worker.specs.declared.worker.Worker.{Worker}

-- its number, and the board of its desk
pub record IsAtDesk (old new : Worker) : Type 0 where
  pub number : new.number ≡ old.number
  pub board : new.desk.board ≡ old.desk.board

-- the registrar awaits these orders, and what was due is published
pub record IsBegun {K : Type 0} (orders : List (Option Awaited)) (old new : RegistrarOver K)
    : Type 0 where
  pub node : IsSameButList old.node new.node
  pub board : new.press.board ≡ old.press.board
  pub list : new.press.list ≡ old.press.list ++ ops_in old.due
  pub due : new.due ≡ None
  pub orders_are : new.orders ≡ orders
  pub deeds : new.deeds ≡ []
  pub failed : new.failed ≡ None
  pub stopped : new.stopped ≡ old.stopped

-- what is saved, published and due is as it was
pub record IsNotBegun {K : Type 0} (old new : RegistrarOver K) : Type 0 where
  pub node : IsSameButList old.node new.node
  pub board : new.press.board ≡ old.press.board
  pub list : new.press.list ≡ old.press.list
  pub due : new.due ≡ old.due
  pub stopped : new.stopped ≡ old.stopped

-- the maker of what was due, if it has one, has what that gives
abbrev pub benches_after : (ℕ → BenchState) → Option Batch → ℕ → BenchState
benches_after benches None w = benches w
benches_after benches (Some batch) w = benches_with benches batch w

-- the workers have these tasks, and the maker of what was due has gone on
pub record AreBegun (queues : List Queue) (due : Option Batch) (old new : List Worker)
    : Type 0 where
  pub ready : All IsReady new
  pub tasks : (k : ℕ) (w : Worker) (q : Queue) → k < length old
      → (slice_index_or new k w).tasks.items ≡ (slice_index_or queues k q).tasks.items
  pub bench : (w : ℕ) → IsWorker (length old) w
      → bench_by new w ≡ benches_after (bench_by old) due w
  pub at : Each IsAtDesk old new

-- each has its number, its bench and its desk
pub record IsUnmoved (old new : Worker) : Type 0 where
  pub number : new.number ≡ old.number
  pub bench : new.bench ≡ old.bench
  pub board : new.desk.board ≡ old.desk.board
