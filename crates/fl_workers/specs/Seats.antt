-- The seats of a crew: what is true of its workers and its registrar.
use Rattle.std.specs.Prelude.{◌≡◌, ℕ, ◌≤◌, ◌<◌, Bool, true, false, List, [], map, length, All}
use Rattle.std.specs.declared.option.Option.TheVariants.{None}
use Rattle.logbook.specs.Pages.{Book}
use Rattle.fl_bench.specs.Bench.{BenchState}
use Rattle.fl_node.specs.Over.{NodeOver}
use Rattle.fl_registrar.specs.Over.{RegistrarOver}
use Rattle.fl_worker.specs.declared.worker.Worker.{Worker}
use Rattle.fl_settling.specs.Numbers.{AreNumbered}
use Rattle.fl_workers.specs.Over.{CrewOver}

-- each worker has the number of its place, a desk of the press's board, and a line
pub record AreSeated {K : Type 0} (workers : List Worker) (registrar : RegistrarOver K)
    (lines procs : ℕ) : Type 0 where
  pub lines_are : lines ≡ length workers
  pub numbered : AreNumbered workers
  pub boards : All (λ w. w.desk.board ≡ registrar.press.board) workers
  pub next : procs < length workers
  pub runs : registrar.stopped ≡ false

-- so it is where the crew is not stopped; it has from 1 to 16 workers in any case
pub record IsManned {K : Type 0} (workers : List Worker) (registrar : RegistrarOver K)
    (lines procs : ℕ) (stopped : Bool) : Type 0 where
  pub some : 1 ≤ length workers
  pub few : length workers ≤ 16
  pub seated : stopped ≡ false → AreSeated workers registrar lines procs

-- its desk is of this board
abbrev pub IsAtBoard : Book → Worker → Type 0
IsAtBoard board w = w.desk.board ≡ board

abbrev pub bench_of_worker : Worker → BenchState
bench_of_worker w = w.bench

-- the crew with these seats
abbrev pub manned_of : {K : Type 0} → List Worker → RegistrarOver K → ℕ → Bool → CrewOver K
manned_of workers registrar procs stopped =
    record {
      node = registrar.node;
      list = registrar.press.list;
      due = registrar.due;
      benches = map bench_of_worker workers;
      procs = procs;
      size = length workers;
      failed = registrar.failed;
      stopped = stopped;
    }

-- and one that has none, but is to have so many workers
abbrev pub empty_of : {K : Type 0} → NodeOver K → ℕ → CrewOver K
empty_of node size =
    record {
      node = node;
      list = [];
      due = None;
      benches = [];
      procs = 0;
      size = size;
      failed = None;
      stopped = true;
    }
