-- The open endpoints of a node stay safe under what it has published, whatever it does.
use Rattle.std.proofs.Common.{◌≡◌, inl, inr, sym, subst, ℕ, List}
use Rattle.std.proofs.Common.{[], ◌+◌, Bool, Option, Some, None, Result, Ok, length}
use Rattle.std.proofs.lemmas.List.Elements.{Contains-append_left}
use Rattle.fl_labels.specs.SetBy.{SetBy}
use Rattle.fl_labels.specs.declared.cap.Cap.{Cap}
use Rattle.fl_labels.specs.declared.name.Name.{Name}
use Rattle.fl_labels.specs.declared.pid.Pid.{Pid}
use Rattle.fl_ops.specs.OpOrder.{op_cmp}
use Rattle.fl_ops.specs.Registry.{Listed}
use Rattle.fl_ops.specs.declared.op.Body.{Body}
use Rattle.fl_ops.specs.declared.op.Op.{Op}
use Rattle.fl_message.specs.declared.message.Data.{Data}
use Rattle.fl_jobs.specs.declared.answer.Outcome.{Outcome as AnyOutcome}
use Rattle.fl_jobs.specs.declared.answer.Refusal.{Refusal}
use Rattle.fl_jobs.specs.declared.answer.Reply.{Reply as JobReply}
use Rattle.fl_jobs.specs.declared.job.Job.{Job}
use Rattle.fl_jobs.specs.declared.job.Job.TheVariants.{Arrive}
use Rattle.fl_bench.specs.Bench.{BenchState, new_bench}
use Rattle.fl_bench.specs.Gifts.{given, settles}
use Rattle.fl_bench.specs.Guarded.{IsGuarded}
use Rattle.fl_bench_laws.specs.laws.Guarded.{opened_guarded, settles_guarded, does_guarded}
use Rattle.fl_bench_laws.specs.laws.Guarded.{registry_guarded}
use Rattle.fl_store.specs.Kept.{Kept}
use Rattle.fl_system.specs.Arrives.{Arrives, ArrivesAt, Unasked, delivered}
use Rattle.fl_system.specs.Begins.{Begins}
use Rattle.fl_system.specs.Jobs.{Jobs, Decides, bench_of, place_of, worked}
use Rattle.fl_system.specs.Numbered.{item_at, change_item, with_item}
use Rattle.fl_system.specs.Openings.{Opens, OpensAgain, Restarts, opened}
use Rattle.fl_system.specs.Publishes.{Publishes, Cancels, given_to, released}
use Rattle.fl_system.specs.Receives.{Receives}
use Rattle.fl_system.specs.Saves.{Saves, stored}
use Rattle.fl_system.specs.State.{NodeState, first_ops, ops_of}
use Rattle.fl_system.specs.World.{KeptNode}
use Rattle.fl_system.specs.declared.admission.Admission.{Admission}
use Rattle.fl_system.specs.declared.admission.Party.{Party}
use Rattle.fl_system.specs.declared.answer.Answer.{Answer}
use Rattle.fl_system.specs.declared.answer.Fault.{Fault}
use Rattle.fl_system.specs.declared.reply.Reply.{Reply}
use Rattle.fl_system.specs.declared.sent.Sent.{Sent}
use Rattle.fl_system.specs.declared.state.Batch.{Batch}
use Rattle.fl_system.specs.declared.state.Batch.TheVariants.{Ordered, Received}
use Rattle.fl_system_laws.specs.laws.Numbered.{was_at, made_at}
use Rattle.fl_machine_model.specs.Acts.{Act, Outcome}
use Rattle.fl_machine_model.specs.Alone.{JobAlone, SaveAlone, PublishAlone, CancelAlone}
use Rattle.fl_machine_model.specs.Alone.{RestartAlone}
use Rattle.fl_machine_model.specs.Alone.{TellAlone, WindowAlone, BatchAlone, MessageAlone}
use Rattle.fl_machine_model.specs.Alone.{PacketAlone}
use Rattle.fl_machine_model.specs.Alone.{MachineStep}
use Rattle.fl_machine_model.specs.Machines.{Machine}
use Rattle.fl_machine_model.specs.Processes.{Doing, Goes}
use Rattle.fl_noninterference_laws.specs.Endpoints.{HasSafeEndpoints, IsSafeMachine}
use Rattle.fl_noninterference_laws.proofs.Views.{seen_there}

-- each bench of the list is guarded
abbrev AllGuarded : (Op → Type 0) → List BenchState → Type 0
AllGuarded V benches = (k : ℕ) (b : BenchState) → item_at benches k ≡ Some b → IsGuarded V b

module _ (V : Op → Type 0) (benches : List BenchState) (all : AllGuarded V benches) where
  change_safe : (change : BenchState → BenchState) (k : ℕ)
      → ((b : BenchState) → IsGuarded V b → IsGuarded V (change b))
      → AllGuarded V (change_item change benches k)
  change_safe change k each j b e =
      let was = was_at change benches k j b e in
      let safe = all j was.before was.there in
      elim was.became [
        | inl same ↦ subst (IsGuarded V) (sym same) safe
        | inr (at, is) ↦ subst (IsGuarded V) (sym is) (each was.before safe)
      ]

  put_safe : (k : ℕ) (left : BenchState) → IsGuarded V left
      → AllGuarded V (with_item benches k left)
  put_safe k left safe = change_safe (λ _. left) k (λ b h. safe)

  settled_safe : (pid : Pid) (caps : List Cap) (k : ℕ)
      → AllGuarded V (change_item (λ b. settles b pid caps) benches k)
  settled_safe pid caps k = change_safe (λ b. settles b pid caps) k
      (λ b h. settles_guarded V b h pid caps)

  given_safe : (batch : Batch) → AllGuarded V (given_to batch benches)
  given_safe (Ordered op None desk) = all
  given_safe (Ordered op (Some pid) desk) =
      settled_safe pid (given op) (bench_of (length benches) pid.serial)
  given_safe (Received ops) = all

  released_safe : (batch : Batch) → AllGuarded V (released batch benches)
  released_safe (Ordered op None desk) = all
  released_safe (Ordered op (Some pid) desk) =
      settled_safe pid [] (bench_of (length benches) pid.serial)
  released_safe (Received ops) = all

opened_safe : (desks : ℕ) (k : Kept) → HasSafeEndpoints (opened desks k)
opened_safe desks k j b e =
    let V = Listed (opened desks k).published in
    let made = made_at desks (λ index. new_bench k.number (k.boot + 1) index desks) j b e in
    subst (IsGuarded V) (sym made.is) (opened_guarded V k.number (k.boot + 1) j desks)

pub opens_safe : {desks : ℕ} {own : Kept → Type 0} {k k' : Kept} {x : NodeState}
    → Opens desks own k (Ok x) k' → HasSafeEndpoints x
opens_safe {desks} {k = k} (Opens.opens is low) = opened_safe desks k

again_safe : {n : NodeState} {doubt : Option Batch} {k k' : Kept} {result : Result ℕ Fault}
    {x : NodeState} → HasSafeEndpoints n → OpensAgain n doubt k result x k' → HasSafeEndpoints x
again_safe safe (OpensAgain.opens does) = opens_safe does
again_safe safe (OpensAgain.stays does) = safe

begun_safe : {n x : NodeState} {body : Body} {maker : Option Pid} {desk : Option ℕ}
    {r : Result Name Fault} → HasSafeEndpoints n → Begins n body maker desk r x
    → HasSafeEndpoints x
begun_safe safe (Begins.begins idle next) = safe
begun_safe safe (Begins.taken why) = safe
begun_safe safe (Begins.spent idle last) = safe

module _ (n : NodeState) (safe : HasSafeEndpoints n) where
  worked_safe : {v : ℕ} {job : Job} {result : Result AnyOutcome Refusal} {left : BenchState}
      (desk : ℕ) → Decides n v job result left → HasSafeEndpoints (worked n desk v job left)
  worked_safe {v} {job} {left = left} desk d =
      put_safe (Listed n.published) n.benches safe (place_of n job) left
      (does_guarded (first_ops v n.published) (Listed n.published) (seen_there v n.published)
      d.bench (safe (place_of n job) d.bench d.stands) d.does)

  jobs_safe : {desk upto : ℕ} {job : Job} {r : Result Answer Fault} {x : NodeState}
      → Jobs n desk upto job r x → HasSafeEndpoints x
  jobs_safe (Jobs.stopped why) = safe
  jobs_safe (Jobs.no_room look less which) = safe
  jobs_safe {desk} (Jobs.refused look d) = worked_safe desk d
  jobs_safe {desk} (Jobs.replied look d) = worked_safe desk d
  jobs_safe {desk} (Jobs.sent look d) = worked_safe desk d
  jobs_safe {desk} (Jobs.begun look d start) = begun_safe (worked_safe desk d) start
  jobs_safe (Jobs.not_begun look d start) = safe

  job_safe : {number : ℕ} {desk upto : ℕ} {job : Job} {count : ℕ} {reply : Reply}
      {x : NodeState} {sent : List Sent} {admitted : List Admission}
      → JobAlone number n desk upto job count reply x sent admitted → HasSafeEndpoints x
  job_safe (JobAlone.refused does) = jobs_safe does
  job_safe (JobAlone.replied does) = jobs_safe does
  job_safe (JobAlone.begun does) = jobs_safe does
  job_safe (JobAlone.sends does) = jobs_safe does
  job_safe (JobAlone.no_room look which noted) = safe

  saves_safe : {k k' : Kept} {r : Result (Unit {0}) Fault} {x : NodeState} → Saves n k r x k'
      → HasSafeEndpoints x
  saves_safe (Saves.saved is) = safe
  saves_safe (Saves.no_room is) = safe
  saves_safe (Saves.failed is which) = safe
  saves_safe (Saves.none why) = safe

  publishes_safe : {r : Result ℕ Fault} {x : NodeState} → Publishes n r x → HasSafeEndpoints x
  publishes_safe (Publishes.published {batch} is) = λ k b e.
      registry_guarded (λ op h. Contains-append_left n.published (ops_of batch) op h)
      (given_safe (Listed n.published) n.benches safe batch k b e)
  publishes_safe (Publishes.no_room is) = safe
  publishes_safe (Publishes.none why) = safe

  cancels_safe : {r : Result (Unit {0}) Fault} {x : NodeState} → Cancels n r x
      → HasSafeEndpoints x
  cancels_safe (Cancels.given_up {batch} is) =
      released_safe (Listed n.published) n.benches safe batch
  cancels_safe (Cancels.none why) = safe

  restarts_safe : {k k' : Kept} {keeps : Bool} {r : Result ℕ Fault} {x : NodeState}
      → Restarts n k keeps r x k' → HasSafeEndpoints x
  restarts_safe (Restarts.not_saved keeping is does) = saves_safe does
  restarts_safe (Restarts.saved {batch} keeping is does) = again_safe {n = stored n batch} safe does
  restarts_safe (Restarts.lost loses is does) = again_safe safe does
  restarts_safe (Restarts.idle is does) = again_safe safe does
  restarts_safe (Restarts.due is does) = again_safe safe does
  restarts_safe (Restarts.stopped is does) = again_safe safe does

  receives_safe : {ops : SetBy op_cmp} {r : Result ℕ Fault} {x : NodeState} → Receives n ops r x
      → HasSafeEndpoints x
  receives_safe (Receives.stopped why) = safe
  receives_safe (Receives.no_room runs new) = safe
  receives_safe (Receives.impostor runs first bad) = safe
  receives_safe (Receives.clash runs first bad) = safe
  receives_safe (Receives.nothing_new runs may all) = safe
  receives_safe (Receives.taken op runs may there new why) = safe
  receives_safe (Receives.receives idle may lacking some) = safe

  batch_safe : {ops : SetBy op_cmp} {reply : Reply} {x : NodeState} → BatchAlone n ops reply x
      → HasSafeEndpoints x
  batch_safe (BatchAlone.nothing_new does) = receives_safe does
  batch_safe (BatchAlone.takes does some) = receives_safe does
  batch_safe (BatchAlone.refused does) = receives_safe does

  arrived_safe : {d : Data} {result : Result AnyOutcome Refusal} {left : BenchState}
      → ArrivesAt n d result left → HasSafeEndpoints (delivered n d left)
  arrived_safe {d} {left = left} it =
      put_safe (Listed n.published) n.benches safe (place_of n (Arrive d)) left
      (does_guarded Unasked (Listed n.published) (λ op u. absurd u) it.bench
      (safe (place_of n (Arrive d)) it.bench it.stands) it.does)

  arrives_safe : {d : Data} {r : Result JobReply Fault} {x : NodeState} → Arrives n d r x
      → HasSafeEndpoints x
  arrives_safe (Arrives.stopped why) = safe
  arrives_safe (Arrives.refused it) = arrived_safe it
  arrives_safe (Arrives.arrives it) = arrived_safe it

  message_safe : {sender : Option Party} {d : Data} {reply : Reply} {x : NodeState}
      {admitted : List Admission} → MessageAlone n sender d reply x admitted
      → HasSafeEndpoints x
  message_safe (MessageAlone.arrives does) = arrives_safe does
  message_safe (MessageAlone.refused does) = arrives_safe does
  message_safe (MessageAlone.no_room runs) = safe

pub step_safe : {number : ℕ} (s : KeptNode) {act : Act} {o : Outcome}
    → HasSafeEndpoints s.node → MachineStep number s act o → HasSafeEndpoints o.after.node
step_safe s safe (MachineStep.no_desk none) = safe
step_safe s safe (MachineStep.no_such_job arrival) = safe
step_safe s safe (MachineStep.job asked does) = job_safe s.node safe does
step_safe s safe (MachineStep.save (SaveAlone.saved does)) = saves_safe s.node safe does
step_safe s safe (MachineStep.save (SaveAlone.refused does)) = saves_safe s.node safe does
step_safe s safe (MachineStep.publish (PublishAlone.ordered is does)) =
    publishes_safe s.node safe does
step_safe s safe (MachineStep.publish (PublishAlone.received is does)) =
    publishes_safe s.node safe does
step_safe s safe (MachineStep.publish (PublishAlone.refused does)) =
    publishes_safe s.node safe does
step_safe s safe (MachineStep.cancel (CancelAlone.given_up does)) = cancels_safe s.node safe does
step_safe s safe (MachineStep.cancel (CancelAlone.refused does)) = cancels_safe s.node safe does
step_safe s safe (MachineStep.restart (RestartAlone.booted does)) =
    restarts_safe s.node safe does
step_safe s safe (MachineStep.restart (RestartAlone.refused does)) =
    restarts_safe s.node safe does
step_safe s safe (MachineStep.tell (TellAlone.stopped why)) = safe
step_safe s safe (MachineStep.tell (TellAlone.no_room runs)) = safe
step_safe s safe (MachineStep.tell (TellAlone.tells runs summary)) = safe
step_safe s safe (MachineStep.receive (PacketAlone.have is (WindowAlone.stopped why))) = safe
step_safe s safe (MachineStep.receive (PacketAlone.have is (WindowAlone.no_room runs lacks))) =
    safe
step_safe s safe (MachineStep.receive (PacketAlone.have is (WindowAlone.answers runs told))) =
    safe
step_safe s safe (MachineStep.receive (PacketAlone.ops is does)) = batch_safe s.node safe does
step_safe s safe (MachineStep.receive (PacketAlone.message is does)) =
    message_safe s.node safe (does None)

pub goes_safe : {desks number : ℕ} {old mid : Option Machine} {d : Doing}
    → IsSafeMachine old → Goes desks number old d mid → IsSafeMachine mid
goes_safe safe (Goes.born blank opening) = opens_safe opening
goes_safe safe (Goes.not_born blank opening) = tt
goes_safe safe (Goes.opens opening) = opens_safe opening
goes_safe safe (Goes.not_opened opening) = tt
goes_safe safe (Goes.does {s} step) = step_safe s safe step
goes_safe safe (Goes.stops leaves) = tt
