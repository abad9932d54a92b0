-- What each call leaves of a worker.
use Rattle.std.specs.Prelude.{◌≡◌, List, []}
use Rattle.fl_ops.specs.declared.op.Op.{Op}
use Rattle.fl_replica.specs.Boards.{StartsWith}
use Rattle.fl_worker.specs.declared.worker.Worker.{Worker}

-- it is still the same one, whatever its tasks and entries are
pub record IsStill (old new : Worker) : Type 0 where
  pub number : new.number ≡ old.number
  pub bench : new.bench ≡ old.bench
  pub desk : new.desk ≡ old.desk

-- its desk knows no less than before, and all that is published; nothing else has changed
pub record IsCaughtUp (list : List Op) (old new : Worker) : Type 0 where
  pub board : new.desk.board ≡ old.desk.board
  pub later : StartsWith new.desk.list old.desk.list
  pub learns : StartsWith new.desk.list list
  pub number : new.number ≡ old.number
  pub bench : new.bench ≡ old.bench
  pub ends : new.ends ≡ old.ends
  pub tasks : new.tasks ≡ old.tasks
  pub entries : new.entries ≡ old.entries
  pub good : new.good ≡ old.good

-- nothing but its bench has changed
pub record IsButBench (old new : Worker) : Type 0 where
  pub number : new.number ≡ old.number
  pub desk : new.desk ≡ old.desk
  pub ends : new.ends ≡ old.ends
  pub tasks : new.tasks ≡ old.tasks
  pub entries : new.entries ≡ old.entries
  pub good : new.good ≡ old.good

-- it has no entry; nothing else has changed
pub record IsEmptied (old new : Worker) : Type 0 where
  pub entries : new.entries.items ≡ []
  pub good : new.good ≡ 0
  pub number : new.number ≡ old.number
  pub bench : new.bench ≡ old.bench
  pub desk : new.desk ≡ old.desk
  pub ends : new.ends ≡ old.ends
  pub tasks : new.tasks ≡ old.tasks
