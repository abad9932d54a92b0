-- A run of a crew's node, and the entries of its workers in it.
use Rattle.std.specs.Prelude.{◌≡◌, ◌==◌, ℕ, ◌-◌, ◌≤◌, ◌<◌, cond, List, [], ◌∷◌, length}
use Rattle.std.specs.List.{Contains}
use Rattle.std.specs.declared.option.Option.{Option}
use Rattle.std.specs.declared.option.Option.TheVariants.{None, Some}
use Rattle.std.specs.declared.result.Result.{Result}
use Rattle.std.specs.declared.result.Result.TheVariants.{Ok, Err}
use Rattle.fl_labels.specs.SetBy as set
use Rattle.fl_labels.specs.declared.pid.Pid.{Pid}
use Rattle.fl_ops.specs.Registry.{Listed}
use Rattle.fl_ops.specs.declared.op.Op.{Op}
use Rattle.fl_message.specs.declared.message.Data.{Data}
use Rattle.fl_jobs.specs.declared.job.Job.{Job}
use Rattle.fl_jobs.specs.declared.job.Job.TheVariants.{Arrive}
use Rattle.fl_jobs.specs.declared.answer.Reply.{Reply}
use Rattle.fl_jobs.specs.declared.answer.Refusal.TheVariants as refusals
use Rattle.fl_store.specs.Kept.{Kept, with_batch}
use Rattle.fl_system.specs.declared.admission.Admission.{Admission}
use Rattle.fl_system.specs.declared.answer.Answer.{Answer}
use Rattle.fl_system.specs.declared.answer.Answer.TheVariants as answers
use Rattle.fl_system.specs.declared.answer.Fault.{Fault}
use Rattle.fl_system.specs.declared.answer.Fault.TheVariants as faults
use Rattle.fl_system.specs.Numbered.{item_at}
use Rattle.fl_system.specs.State.{NodeState}
use Rattle.fl_system.specs.Jobs.{Jobs, place_of}
use Rattle.fl_system.specs.Arrives.{Arrives}
use Rattle.fl_system.specs.Receives.{Receives}
use Rattle.fl_system.specs.Saves.{Saves}
use Rattle.fl_system.specs.Publishes.{Publishes}
use Rattle.fl_system.specs.WorldSteps.{IsArrival}
use Rattle.fl_system.specs.Audit.{SafeUnder, entries}
use Rattle.fl_crew_model.specs.declared.record.Told.{Told}
use Rattle.fl_crew_model.specs.declared.record.Reason.{Reason}
use Rattle.fl_crew_model.specs.declared.record.Ruling.{Ruling}
use Rattle.fl_crew_model.specs.declared.record.Ruling.TheVariants.{Made, Late, GivenUp}
use Rattle.fl_crew_model.specs.declared.record.Entry.{Entry}
use Rattle.fl_crew_model.specs.declared.record.Decision.{Decision}
use Rattle.fl_crew_model.specs.declared.record.Verdict.TheVariants.{Taken, TakenLate, Declined}
use Rattle.fl_crew_model.specs.declared.record.Delivery.{Delivery}
use Rattle.fl_crew_model.specs.declared.record.Deed.{Deed}
use Rattle.fl_crew_model.specs.declared.record.Deed.TheVariants.{Decided, Delivered}
use Rattle.fl_crew_model.specs.Reasons.{refusal_of}

-- with its new processes counted so that the next one is born on the bench of worker w
abbrev pub placed : NodeState → ℕ → NodeState
placed n w = record n { procs = w - 1 }

-- the job of worker w is one of its bench
abbrev pub IsHome : NodeState → ℕ → Entry → Type 0
IsHome n w e = place_of (placed n w) e.job.value ≡ w

-- the batch is saved, whatever is kept; beside the node, that with the batch is kept
abbrev pub SavesAll : NodeState → List Op → NodeState → Type 0
SavesAll n ops n' = (k : Kept) → Saves n k (Ok tt) n' (with_batch k ops)

-- what takes its turn in the run: an entry of a worker, or a packet that the registrar was handed
pub data Turn : Type 0 where
  Entered : (worker : ℕ) → (entry : Entry) → Turn
  Packet : Delivery → Turn

-- ---- the turn of an entry

-- as the node answers a job
abbrev pub said : Told → Result Answer Fault
said (Told.Reply reply) = Ok (answers.Reply reply)
said (Told.Out packet) = Ok (answers.Out packet)
said (Told.Published name) = Ok (answers.Begun name)
said (Told.Refused fault) = Err fault

-- as it tells of a message that came
abbrev pub told_of : Result Reply Fault → Told
told_of (Ok reply) = Told.Reply reply
told_of (Err fault) = Told.Refused fault

-- The events of one entry. The saving and the publication of an order's operation stand directly
-- behind it.
pub data Goes (n : NodeState) (w : ℕ) (e : Entry) (n' : NodeState) : Type 0 where
  alone : e.ruling ≡ None → ¬ IsArrival e.job.value
      → Jobs (placed n w) w e.seen e.job.value (said e.told) n' → Goes n w e n'
  arrived : (d : Data) (result : Result Reply Fault) → e.ruling ≡ None → e.job.value ≡ Arrive d
      → e.told ≡ told_of result → Arrives n d result n' → Goes n w e n'
  made : (op : Op) (begun saved : NodeState) → e.ruling ≡ Some (Made op)
      → e.told ≡ Told.Published op.name
      → Jobs (placed n w) w e.seen e.job.value (Ok (answers.Begun op.name)) begun
      → SavesAll begun (op ∷ []) saved
      → Publishes saved (Ok (length n'.published)) n' → Goes n w e n'
  late : (op : Op) (maker : Pid) (begun : NodeState) → e.ruling ≡ Some (Late op maker)
      → e.told ≡ Told.Refused (faults.Refused refusals.Memory)
      → Jobs (placed n w) w e.seen e.job.value (Ok (answers.Begun op.name)) begun
      → SavesAll begun (op ∷ []) n'
      → Publishes n' (Err (faults.Refused refusals.Memory)) n' → Goes n w e n'
  given_up : (reason : Reason) → e.ruling ≡ Some (GivenUp reason)
      → e.told ≡ Told.Refused (faults.Refused (refusal_of reason))
      → Jobs (placed n w) w e.seen e.job.value (Err (faults.Refused (refusal_of reason))) n'
      → Goes n w e n'

-- what the job itself was answered
abbrev pub answered : Told → Option Ruling → Result Answer Fault
answered told None = said told
answered told (Some (Made op)) = Ok (answers.Begun op.name)
answered told (Some (Late op maker)) = Ok (answers.Begun op.name)
answered told (Some (GivenUp reason)) = Err (faults.Refused (refusal_of reason))

-- what is noted of a job with this answer
abbrev pub noted : NodeState → Job → Result Answer Fault → List Admission
noted n job (Ok answer) = entries n job answer
noted n job (Err fault) = []

-- the admissions of a turn, but an arrival's
abbrev pub admitted : NodeState → ℕ → Entry → List Admission
admitted n w e = noted (placed n w) e.job.value (answered e.told e.ruling)

-- ---- the turn of a packet

-- as the node answers what it receives
abbrev pub Receiving : NodeState → List Op → Result ℕ Fault → NodeState → Type 0
Receiving n ops answer n' = Receives n (set.of_list ops) answer n'

-- The events of a packet of operations: where some are new and may be taken, its saving and its
-- publication stand directly behind it.
pub data Delivers (n : NodeState) (p : Delivery) (n' : NodeState) : Type 0 where
  taken : (count : ℕ) (new : List Op) (begun saved : NodeState) → p.verdict ≡ Taken → 0 < count
      → p.answer ≡ Ok count → Receiving n p.ops (Ok count) begun → SavesAll begun new saved
      → Publishes saved (Ok (length n'.published)) n' → Delivers n p n'
  late : (count : ℕ) (new : List Op) (begun : NodeState) → p.verdict ≡ TakenLate → 0 < count
      → p.answer ≡ Err (faults.Refused refusals.Memory) → Receiving n p.ops (Ok count) begun
      → SavesAll begun new n'
      → Publishes n' (Err (faults.Refused refusals.Memory)) n' → Delivers n p n'
  declined : p.verdict ≡ Declined → Receiving n p.ops p.answer n' → Delivers n p n'

-- ---- a run, with the record beside it

-- the decision on the entry is made here
pub record IsHere (n : NodeState) (rs : List Deed) (w : ℕ) (e : Entry) (ruling : Ruling)
    (n' : NodeState) (rest : List Deed) : Type 0 where
  pub decision : Decision
  pub first : rs ≡ Decided decision ∷ rest
  pub worker : decision.worker ≡ w
  pub place : decision.place ≡ e.place
  pub same : decision.ruling ≡ ruling
  pub before : decision.before ≡ length n.published
  pub after : decision.after ≡ length n'.published

-- where the registrar was not asked no deed is done
abbrev pub Stands : NodeState → List Deed → ℕ → Entry → Option Ruling → NodeState → List Deed
    → Type 0
Stands n rs w e None n' rest = rest ≡ rs
Stands n rs w e (Some ruling) n' rest = IsHere n rs w e ruling n' rest

-- the turn of an entry
pub record IsEntered (n : NodeState) (rs : List Deed) (w : ℕ) (e : Entry) (n' : NodeState)
    (rest : List Deed) : Type 0 where
  pub goes : Goes n w e n'
  pub stands : Stands n rs w e e.ruling n' rest
  -- the list has what was seen, and the desk has seen no more, so the first `seen` elements are the
  -- view
  pub enough : e.seen ≤ length n.published
  pub v : ℕ
  pub has_seen : item_at n.views w ≡ Some v
  pub no_more : v ≤ e.seen
  -- what is admitted is safe under the list after it
  pub safe : (a : Admission) → Contains (admitted n w e) a → SafeUnder (Listed n'.published) a

-- the turn of a packet
pub record IsDelivered (n : NodeState) (rs : List Deed) (p : Delivery) (n' : NodeState)
    (rest : List Deed) : Type 0 where
  pub goes : Delivers n p n'
  pub first : rs ≡ Delivered p ∷ rest
  pub before : p.before ≡ length n.published
  pub after : p.after ≡ length n'.published

-- one turn: the node and the record after it
abbrev pub IsTurn : NodeState → List Deed → Turn → NodeState → List Deed → Type 0
IsTurn n rs (Entered w e) n' rest = IsEntered n rs w e n' rest
IsTurn n rs (Packet p) n' rest = IsDelivered n rs p n' rest

-- The turns are a run from one node to another, in which each deed is done where it stands.
abbrev pub Woven : NodeState → List Deed → List Turn → NodeState → Type 0
Woven n rs [] n' = (n' ≡ n) × (rs ≡ [])
Woven n rs (t ∷ ts) n' =
    (mid : NodeState) × (rest : List Deed) × IsTurn n rs t mid rest × Woven mid rest ts n'

-- the entries of one worker, in their order
abbrev pub entries_of : ℕ → List Turn → List Entry
entries_of w [] = []
entries_of w (Entered v e ∷ ts) = cond (v == w) (e ∷ entries_of w ts) (entries_of w ts)
entries_of w (Packet p ∷ ts) = entries_of w ts
