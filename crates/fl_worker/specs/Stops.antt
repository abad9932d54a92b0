-- What stands from where a worker stopped on.
use Rattle.std.specs.Prelude.{◌≡◌, ◌≢◌, ◌⊎◌, ◌≤◌, List, [], ◌∷◌, length, All}
use Rattle.std.specs.declared.result.Result.TheVariants.{Ok}
use Rattle.fl_labels.specs.declared.pid.Pid.{Pid}
use Rattle.fl_ops.specs.Registry.{Registry}
use Rattle.fl_ops.specs.declared.op.Op.{Op}
use Rattle.fl_ops.specs.declared.op.Body.{Body}
use Rattle.fl_jobs.specs.declared.answer.Outcome.{Outcome}
use Rattle.fl_bench.specs.Bench.{BenchState}
use Rattle.fl_bench.specs.Jobs.{Does}
use Rattle.fl_system.specs.State.{first_ops}
use Rattle.fl_system.specs.declared.answer.Fault.{Fault}
use Rattle.fl_system.specs.declared.answer.Fault.TheVariants.{KeeperFailed, Stopped}
use Rattle.fl_crew_model.specs.declared.record.Told.{Told}
use Rattle.fl_crew_model.specs.declared.record.Entry.{Entry}

-- why a worker stops
abbrev pub IsStop : Fault → Type 0
IsStop fault = (fault ≡ KeeperFailed) ⊎ (fault ≡ Stopped)

-- the keeper broke at this job's order, which the bench had decided and then took back
pub record IsLost (V : Registry) (b : BenchState) (e : Entry) : Type 0 where
  pub is_told : e.told ≡ Told.Refused KeeperFailed
  pub body : Body
  pub pid : Pid
  pub left : BenchState
  pub does : Does V b e.job.value (Ok (Outcome.Order body pid)) left

-- who asked is told that the worker is stopped
abbrev pub IsGivenUp : Entry → Type 0
IsGivenUp e = e.told ≡ Told.Refused Stopped

-- of the job at which the worker stopped, whose bench is this one still, under these operations
abbrev pub StopsAt : Registry → BenchState → Entry → Type 0
StopsAt V b e = IsGivenUp e ⊎ IsLost V b e

-- under the operations that were seen of the list
pub record IsStopAt (list : List Op) (b : BenchState) (e : Entry) : Type 0 where
  pub seen : e.seen ≤ length list
  pub stops : StopsAt (first_ops e.seen list) b e

-- a worker stopped at the first of these, and gave up the others
abbrev pub AreUndone : List Op → BenchState → List Entry → Type 0
AreUndone list b [] = Unit {0}
AreUndone list b (e ∷ es) = IsStopAt list b e × All IsGivenUp es

-- who asked is told nothing by which a worker stops
pub record IsAnswered (e : Entry) : Type 0 where
  pub broken : e.told ≢ Told.Refused KeeperFailed
  pub stopped : e.told ≢ Told.Refused Stopped
