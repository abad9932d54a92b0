-- What comes of what a bench answered.
use Rattle.std.specs.Prelude.{◌≡◌}
use Rattle.std.specs.declared.option.Option.{Option}
use Rattle.std.specs.declared.option.Option.TheVariants.{None, Some}
use Rattle.std.specs.declared.result.Result.{Result}
use Rattle.std.specs.declared.result.Result.TheVariants.{Ok, Err}
use Rattle.fl_labels.specs.declared.pid.Pid.{Pid}
use Rattle.fl_ops.specs.declared.op.Body.{Body}
use Rattle.fl_jobs.specs.declared.answer.Refusal.{Refusal}
use Rattle.fl_jobs.specs.declared.answer.Refusal.TheVariants.{Memory}
use Rattle.fl_jobs.specs.declared.answer.Outcome.{Outcome}
use Rattle.fl_bench.specs.Bench.{BenchState}
use Rattle.fl_bench.specs.Gifts.{finished, cancelled}
use Rattle.fl_system.specs.declared.answer.Fault.TheVariants as faults
use Rattle.fl_crew_model.specs.declared.record.Told.{Told}
use Rattle.fl_crew_model.specs.declared.record.Ruling.{Ruling}
use Rattle.fl_crew_model.specs.declared.record.Ruling.TheVariants.{Made, Late, GivenUp}
use Rattle.fl_crew_model.specs.Reasons.{refusal_of}
use Rattle.fl_crew_model.specs.Served.{IsTold}

-- an order of this body and maker, which left this bench, is ended as it is ruled
abbrev pub IsEnded : Body → Pid → BenchState → Ruling → Told → BenchState → Type 0
IsEnded body pid left (Made op) told b' =
    (op.body ≡ body) × (told ≡ Told.Published op.name) × (b' ≡ finished left pid op)
IsEnded body pid left (Late op maker) told b' =
    (op.body ≡ body) × (maker ≡ pid) × (told ≡ Told.Refused (faults.Refused Memory)) × (b' ≡ left)
IsEnded body pid left (GivenUp reason) told b' =
    (told ≡ Told.Refused (faults.Refused (refusal_of reason))) × (b' ≡ cancelled left pid)

-- what is no order ends so
abbrev pub IsAlone : Result Outcome Refusal → BenchState → Told → Option Ruling → BenchState
    → Type 0
IsAlone result left told None b' = IsTold result told × (b' ≡ left)
IsAlone result left told (Some ruling) b' = ⊥

abbrev pub IsRuled : Body → Pid → BenchState → Told → Option Ruling → BenchState → Type 0
IsRuled body pid left told None b' = ⊥
IsRuled body pid left told (Some ruling) b' = IsEnded body pid left ruling told b'

-- a job with this result, which left this bench, is over
abbrev pub IsSettled : Result Outcome Refusal → BenchState → Told → Option Ruling → BenchState
    → Type 0
IsSettled (Ok (Outcome.Order body pid)) left told ruling b' =
    IsRuled body pid left told ruling b'
IsSettled (Ok (Outcome.Reply reply)) left told ruling b' =
    IsAlone (Ok (Outcome.Reply reply)) left told ruling b'
IsSettled (Ok (Outcome.Out packet)) left told ruling b' =
    IsAlone (Ok (Outcome.Out packet)) left told ruling b'
IsSettled (Err refusal) left told ruling b' = IsAlone (Err refusal) left told ruling b'

-- a job with this result, which left this bench, is taken back: it was an order
abbrev pub IsTakenBack : Result Outcome Refusal → BenchState → BenchState → Type 0
IsTakenBack (Ok (Outcome.Order body pid)) left b' = b' ≡ cancelled left pid
IsTakenBack (Ok (Outcome.Reply reply)) left b' = ⊥
IsTakenBack (Ok (Outcome.Out packet)) left b' = ⊥
IsTakenBack (Err refusal) left b' = ⊥
