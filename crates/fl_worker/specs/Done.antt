-- What a worker did.
use Rattle.std.specs.Prelude.{◌≡◌, ◌≤◌, List, [], length, take, drop, vec_len, vec_capacity}
use Rattle.fl_replica.specs.Boards.{StartsWith}
use Rattle.fl_crew_model.specs.Served.{Served}
use Rattle.fl_worker.specs.declared.task.Task.{Task}
use Rattle.fl_worker.specs.declared.worker.Worker.{Worker}
use Rattle.fl_worker.specs.Seen.{Rises, last_seen}
use Rattle.fl_worker.specs.Stops.{AreUndone}
use Rattle.fl_worker.specs.Tasks.{AreOf}

-- a worker that has tasks, no entry yet, and room for all of them
pub record IsReady (w : Worker) : Type 0 where
  pub empty : w.entries.items ≡ []
  pub none : w.good ≡ 0
  pub room : vec_len w.tasks ≤ vec_capacity w.entries

-- The worker `old` has done these tasks, and is `w` now. All that it saw begins the list of its
-- desk: of each job, as many operations as its entry says.
pub record Done (old : Worker) (ts : List Task) (w : Worker) : Type 0 where
  pub number : w.number ≡ old.number
  pub board : w.desk.board ≡ old.desk.board
  pub later : StartsWith w.desk.list old.desk.list
  -- nothing is left out
  pub tasks : AreOf ts w.entries.items
  pub rises : Rises (length old.desk.list) w.entries.items
  pub last : last_seen (length old.desk.list) w.entries.items ≤ length w.desk.list
  -- so many of its entries are steps of its bench
  pub some : w.good ≤ length w.entries.items
  pub served : Served w.desk.list old.bench (take w.good w.entries.items) w.bench
  -- and at the next one, if there is one, it stopped
  pub undone : AreUndone w.desk.list w.bench (drop w.good w.entries.items)

-- it did those that it had
abbrev pub IsDone : Worker → Worker → Type 0
IsDone old w = Done old old.tasks.items w
