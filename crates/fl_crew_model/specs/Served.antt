-- What one worker did: its entries are steps of its bench, each under a beginning of one list.
use Rattle.std.specs.Prelude.{◌≡◌, ◌≤◌, List, [], ◌∷◌, length}
use Rattle.std.specs.declared.option.Option.{Option}
use Rattle.std.specs.declared.option.Option.TheVariants.{None, Some}
use Rattle.std.specs.declared.result.Result.{Result}
use Rattle.std.specs.declared.result.Result.TheVariants.{Ok, Err}
use Rattle.fl_labels.specs.declared.pid.Pid.{Pid}
use Rattle.fl_ops.specs.Registry.{Registry}
use Rattle.fl_ops.specs.declared.op.Op.{Op}
use Rattle.fl_ops.specs.declared.op.Body.{Body}
use Rattle.fl_jobs.specs.declared.job.Job.{Job}
use Rattle.fl_jobs.specs.declared.answer.Refusal.{Refusal}
use Rattle.fl_jobs.specs.declared.answer.Refusal.TheVariants as refusals
use Rattle.fl_jobs.specs.declared.answer.Outcome.{Outcome}
use Rattle.fl_bench.specs.Bench.{BenchState}
use Rattle.fl_bench.specs.Gifts.{finished, cancelled}
use Rattle.fl_bench.specs.Jobs.{Does}
use Rattle.fl_system.specs.State.{first_ops}
use Rattle.fl_system.specs.declared.answer.Fault.TheVariants as faults
use Rattle.fl_crew_model.specs.declared.record.Told.{Told}
use Rattle.fl_crew_model.specs.declared.record.Reason.{Reason}
use Rattle.fl_crew_model.specs.declared.record.Ruling.{Ruling}
use Rattle.fl_crew_model.specs.declared.record.Ruling.TheVariants.{Made, Late, GivenUp}
use Rattle.fl_crew_model.specs.declared.record.Entry.{Entry}
use Rattle.fl_crew_model.specs.Reasons.{refusal_of}

-- who asked is told what the bench answered; an order is no answer yet
abbrev pub IsTold : Result Outcome Refusal → Told → Type 0
IsTold (Ok (Outcome.Reply reply)) told = told ≡ Told.Reply reply
IsTold (Ok (Outcome.Out packet)) told = told ≡ Told.Out packet
IsTold (Ok (Outcome.Order body pid)) told = ⊥
IsTold (Err refusal) told = told ≡ Told.Refused (faults.Refused refusal)

-- a job that the bench answered alone
pub record Alone (V : Registry) (b : BenchState) (job : Job) (told : Told) (b' : BenchState)
    : Type 0 where
  pub result : Result Outcome Refusal
  pub does : Does V b job result b'
  pub is_told : IsTold result told

-- an order whose operation is published: its maker is finished
pub record Finished (V : Registry) (b : BenchState) (job : Job) (told : Told) (op : Op)
    (b' : BenchState) : Type 0 where
  pub pid : Pid
  pub left : BenchState
  pub does : Does V b job (Ok (Outcome.Order op.body pid)) left
  pub is_told : told ≡ Told.Published op.name
  pub bench : b' ≡ finished left pid op

-- an order whose operation is saved and due: its maker waits
pub record LeftDue (V : Registry) (b : BenchState) (job : Job) (told : Told) (op : Op) (pid : Pid)
    (b' : BenchState) : Type 0 where
  pub does : Does V b job (Ok (Outcome.Order op.body pid)) b'
  pub is_told : told ≡ Told.Refused (faults.Refused refusals.Memory)

-- an order that is given up: its maker goes on with nothing
pub record Cancelled (V : Registry) (b : BenchState) (job : Job) (told : Told) (reason : Reason)
    (b' : BenchState) : Type 0 where
  pub pid : Pid
  pub body : Body
  pub left : BenchState
  pub does : Does V b job (Ok (Outcome.Order body pid)) left
  pub is_told : told ≡ Told.Refused (faults.Refused (refusal_of reason))
  pub bench : b' ≡ cancelled left pid

-- one job at a bench: what it is told, by the ruling where the registrar was asked
abbrev pub Serves : Registry → BenchState → Job → Told → Option Ruling → BenchState → Type 0
Serves V b job told None b' = Alone V b job told b'
Serves V b job told (Some (Made op)) b' = Finished V b job told op b'
Serves V b job told (Some (Late op pid)) b' = LeftDue V b job told op pid b'
Serves V b job told (Some (GivenUp reason)) b' = Cancelled V b job told reason b'

-- one entry, and the bench after it
pub record IsServed (list : List Op) (b : BenchState) (e : Entry) (b' : BenchState) : Type 0 where
  pub seen : e.seen ≤ length list
  pub serves : Serves (first_ops e.seen list) b e.job.value e.told e.ruling b'

-- the entries of a worker, from one bench to another
abbrev pub Served : List Op → BenchState → List Entry → BenchState → Type 0
Served list b [] b' = b' ≡ b
Served list b (e ∷ es) b' = (mid : BenchState) × IsServed list b e mid × Served list mid es b'
