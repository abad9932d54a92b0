-- A run of a crew's node, event by event, with what is kept of it.
use Rattle.std.specs.Prelude.{◌≡◌, ℕ, List, [], ◌∷◌, ◌++◌}
use Rattle.std.specs.declared.option.Option.{Option}
use Rattle.std.specs.declared.option.Option.TheVariants.{None, Some}
use Rattle.std.specs.declared.result.Result.{Result}
use Rattle.fl_ops.specs.declared.op.Op.{Op}
use Rattle.fl_message.specs.declared.message.Data.{Data}
use Rattle.fl_jobs.specs.declared.job.Job.{Job}
use Rattle.fl_jobs.specs.declared.job.Job.TheVariants as jobs
use Rattle.fl_jobs.specs.declared.answer.Reply.{Reply}
use Rattle.fl_store.specs.Kept.{Kept}
use Rattle.fl_system.specs.declared.answer.Answer.{Answer}
use Rattle.fl_system.specs.declared.answer.Fault.{Fault}
use Rattle.fl_system.specs.State.{NodeState}
use Rattle.fl_system.specs.Jobs.{Jobs}
use Rattle.fl_system.specs.Arrives.{Arrives}
use Rattle.fl_system.specs.Saves.{Saves}
use Rattle.fl_system.specs.Publishes.{Publishes}
use Rattle.fl_crew_model.specs.declared.record.Ruling.{Ruling}
use Rattle.fl_crew_model.specs.declared.record.Ruling.TheVariants.{Made, Late, GivenUp}
use Rattle.fl_crew_model.specs.declared.record.Verdict.{Verdict}
use Rattle.fl_crew_model.specs.declared.record.Verdict.TheVariants.{Taken, TakenLate, Declined}
use Rattle.fl_crew_model.specs.Woven.{placed, Receiving, Turn, Entered, Packet}

pub data Event : Type 0 where
  -- a job of worker w, whose desk looks up to a length
  Do : (w upto : ℕ) → Job → Event
  -- a message comes, or operations
  Arrive : Data → Event
  Receive : List Op → Event
  Save : Event
  Publish : Event

-- the event at the node, with what is kept of it
abbrev pub Step : NodeState → Kept → Event → NodeState → Kept → Type 0
Step n k (Do w upto job) n' k' =
    (r : Result Answer Fault) × Jobs (placed n w) w upto job r n' × (k' ≡ k)
Step n k (Arrive d) n' k' = (r : Result Reply Fault) × Arrives n d r n' × (k' ≡ k)
Step n k (Receive ops) n' k' = (r : Result ℕ Fault) × Receiving n ops r n' × (k' ≡ k)
Step n k Save n' k' = (r : Result (Unit {0}) Fault) × Saves n k r n' k'
Step n k Publish n' k' = (r : Result ℕ Fault) × Publishes n r n' × (k' ≡ k)

-- these events, one after the other
abbrev pub Runs : NodeState → Kept → List Event → NodeState → Kept → Type 0
Runs n k [] n' k' = (n' ≡ n) × (k' ≡ k)
Runs n k (event ∷ events) n' k' =
    (mid : NodeState) × (kept : Kept) × Step n k event mid kept × Runs mid kept events n' k'

-- the event of a job: that of a message that comes is no job at a desk
abbrev pub job_event : ℕ → ℕ → Job → Event
job_event w seen jobs.Proc = Do w seen jobs.Proc
job_event w seen (jobs.Member root c) = Do w seen (jobs.Member root c)
job_event w seen (jobs.By pid act) = Do w seen (jobs.By pid act)
job_event w seen (jobs.Arrive d) = Arrive d

-- the events of an entry
abbrev pub entry_events : ℕ → ℕ → Job → Option Ruling → List Event
entry_events w seen job None = job_event w seen job ∷ []
entry_events w seen job (Some (Made op)) = Do w seen job ∷ Save ∷ Publish ∷ []
entry_events w seen job (Some (Late op maker)) = Do w seen job ∷ Save ∷ Publish ∷ []
entry_events w seen job (Some (GivenUp reason)) = Do w seen job ∷ []

-- those of a packet
abbrev pub packet_events : List Op → Verdict → List Event
packet_events ops Taken = Receive ops ∷ Save ∷ Publish ∷ []
packet_events ops TakenLate = Receive ops ∷ Save ∷ Publish ∷ []
packet_events ops Declined = Receive ops ∷ []

-- those of either
abbrev pub turn_events : Turn → List Event
turn_events (Entered w e) = entry_events w e.seen e.job.value e.ruling
turn_events (Packet p) = packet_events p.ops p.verdict

-- those of all turns
abbrev pub events : List Turn → List Event
events [] = []
events (t ∷ ts) = turn_events t ++ events ts
