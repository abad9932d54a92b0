-- One task of a worker.
use Rattle.std.specs.Prelude.{◌≡◌, List, length}
use Rattle.fl_ops.specs.Registry.{Listed}
use Rattle.fl_ops.specs.declared.op.Op.{Op}
use Rattle.fl_bench.specs.Bench.{BenchState}
use Rattle.fl_crew_model.specs.Served.{Serves}
use Rattle.fl_crew_model.specs.declared.record.Entry.{Entry}
use Rattle.fl_worker.specs.Stops.{StopsAt}
use Rattle.fl_worker.specs.Tasks.{IsOf}
use Rattle.fl_worker.specs.declared.task.Task.{Task}
use Rattle.fl_worker.specs.declared.worker.Seat.{Seat}
use Rattle.fl_worker.specs.declared.worker.Worker.{Worker}
use Rattle.fl_replica.specs.Boards.{Front}

-- the entry of a task that was served when the desk had this list
pub record IsKept (t : Task) (list : List Op) (e : Entry) : Type 0 where
  pub of : IsOf t e
  pub seen : e.seen ≡ length list

-- a right one
pub record IsRight (t : Task) (list : List Op) (b b' : BenchState) (e : Entry) : Type 0 where
  pub kept : IsKept t list e
  pub serves : Serves (Listed list) b e.job.value e.told e.ruling b'

-- that of a worker that stops there
pub record IsLast (t : Task) (list : List Op) (b b' : BenchState) (e : Entry) : Type 0 where
  pub kept : IsKept t list e
  pub bench : b' ≡ b
  pub stops : StopsAt (Listed list) b e

-- a worker in its seat, with its desk
abbrev pub seated : Seat → Front → Worker
seated seat desk = record {
  number = seat.number;
  bench = seat.bench;
  desk = desk;
  ends = seat.ends;
  tasks = seat.tasks;
  entries = seat.entries;
  good = seat.good;
}
