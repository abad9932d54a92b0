-- No event of a world that is reached is answered a clash or an impostor.
use Rattle.std.proofs.Common.{◌≡◌, ℕ, Bool, List, Err, subst}
use Rattle.std.specs.declared.option.Option.{Option}
use Rattle.std.specs.List.{Contains}
use Rattle.fl_labels.specs.declared.pid.Pid.{Pid}
use Rattle.fl_labels.specs.Found.{Within}
use Rattle.fl_labels.specs.SetBy as set
use Rattle.fl_labels.specs.SetBy.{SetBy, In}
use Rattle.fl_ops.specs.OpOrder.{op_cmp}
use Rattle.fl_ops.specs.declared.op.Body.{Body}
use Rattle.fl_ops.specs.declared.op.Op.{Op}
use Rattle.fl_message.specs.declared.message.Data.{Data}
use Rattle.fl_opset.specs.declared.intervals.Intervals.{Intervals}
use Rattle.fl_jobs.specs.declared.job.Job.{Job}
use Rattle.fl_store.specs.Kept.{Kept}
use Rattle.fl_system.specs.declared.answer.Fault.{Fault}
use Rattle.fl_system.specs.declared.event.Event.{Event}
use Rattle.fl_system.specs.declared.reply.Reply.{Reply}
use Rattle.fl_system.specs.declared.sent.Sent.{Sent}
use Rattle.fl_system.specs.declared.state.Batch.{Batch}
use Rattle.fl_system.specs.declared.state.Pending.TheVariants.{Nothing, Unsaved, Due}
use Rattle.fl_system.specs.declared.state.State.{State}
use Rattle.fl_system.specs.declared.state.State.TheVariants.{Running, Stopped}
use Rattle.fl_system.specs.State.{NodeState}
use Rattle.fl_system.specs.Waiting.{NotRunning, IsTaken, NoneUnsaved, NoneDue}
use Rattle.fl_system.specs.Begins.{Begins}
use Rattle.fl_system.specs.Jobs.{Jobs}
use Rattle.fl_system.specs.Receives.{Receives}
use Rattle.fl_system.specs.Arrives.{Arrives}
use Rattle.fl_system.specs.Saves.{Saves}
use Rattle.fl_system.specs.Publishes.{Publishes, Cancels}
use Rattle.fl_system.specs.Openings.{FailsToOpen, Opens, OpensAgain, Restarts}
use Rattle.fl_system.specs.World.{World, KeptNode}
use Rattle.fl_system.specs.WorldSteps.{IsAt, Step}
use Rattle.fl_system.specs.WorldJobs.{JobAt}
use Rattle.fl_system.specs.WorldCalls.{SaveAt, PublishAt, CancelAt, RestartAt}
use Rattle.fl_system.specs.Deliveries.{TellAt, WindowAt, BatchAt, MessageAt, DeliverAt}
use Rattle.fl_system.specs.Union.{Union}
use Rattle.fl_system_laws.specs.Goes.{carried}
use Rattle.fl_system_laws.specs.laws.Going.{carried_is, item_there}
use Rattle.fl_world_laws.specs.Places.{IsNameFault, IsNameRefusal}
use Rattle.fl_world_laws.specs.laws.Naming.{IsNamed, carried_known, no_impostor, no_clash}

plain_as : {f g : Fault} → f ≡ g → ¬ IsNameFault g → ¬ IsNameFault f
plain_as e not_it h = not_it (subst IsNameFault e h)

-- ---- why a node does nothing

not_running : (s : State) (f : Fault) → NotRunning s f → ¬ IsNameFault f
not_running (Running pending) f why = absurd why
not_running (Stopped doubt) f why = plain_as why (λ h. h)

taken : (s : State) (f : Fault) → IsTaken s f → ¬ IsNameFault f
taken (Running Nothing) f why = absurd why
taken (Running (Unsaved batch)) f why = plain_as why (λ h. h)
taken (Running (Due batch)) f why = plain_as why (λ h. h)
taken (Stopped doubt) f why = plain_as why (λ h. h)

none_unsaved : (s : State) (f : Fault) → NoneUnsaved s f → ¬ IsNameFault f
none_unsaved (Running Nothing) f why = plain_as why (λ h. h)
none_unsaved (Running (Unsaved batch)) f why = absurd why
none_unsaved (Running (Due batch)) f why = plain_as why (λ h. h)
none_unsaved (Stopped doubt) f why = plain_as why (λ h. h)

none_due : (s : State) (f : Fault) → NoneDue s f → ¬ IsNameFault f
none_due (Running Nothing) f why = plain_as why (λ h. h)
none_due (Running (Unsaved batch)) f why = plain_as why (λ h. h)
none_due (Running (Due batch)) f why = absurd why
none_due (Stopped doubt) f why = plain_as why (λ h. h)

-- ---- the calls of a node

begins_plain : {n : NodeState} {body : Body} {maker : Option Pid} {desk : Option ℕ} {f : Fault} {n' : NodeState}
    → Begins n body maker desk (Err f) n' → ¬ IsNameFault f
begins_plain {n} (Begins.taken why) = taken n.state _ why
begins_plain (Begins.spent idle last) = λ h. h

jobs_plain : {n : NodeState} {desk upto : ℕ} {job : Job} {f : Fault} {n' : NodeState} → Jobs n desk upto job (Err f) n'
    → ¬ IsNameFault f
jobs_plain {n} (Jobs.stopped why) = not_running n.state _ why
jobs_plain (Jobs.no_room look less left) = λ h. h
jobs_plain (Jobs.refused look decided) = λ h. h
jobs_plain (Jobs.not_begun look decided begun) = begins_plain begun

arrives_plain : {n : NodeState} {d : Data} {f : Fault} {n' : NodeState} → Arrives n d (Err f) n' → ¬ IsNameFault f
arrives_plain {n} (Arrives.stopped why) = not_running n.state _ why
arrives_plain (Arrives.refused at) = λ h. h

saves_plain : {n : NodeState} {k : Kept} {f : Fault} {n' : NodeState} {k' : Kept} → Saves n k (Err f) n' k'
    → ¬ IsNameFault f
saves_plain (Saves.no_room is) = λ h. h
saves_plain (Saves.failed is left) = λ h. h
saves_plain {n} (Saves.none why) = none_unsaved n.state _ why

publishes_plain : {n : NodeState} {f : Fault} {n' : NodeState} → Publishes n (Err f) n' → ¬ IsNameFault f
publishes_plain (Publishes.no_room is) = λ h. h
publishes_plain {n} (Publishes.none why) = none_due n.state _ why

cancels_plain : {n : NodeState} {f : Fault} {n' : NodeState} → Cancels n (Err f) n' → ¬ IsNameFault f
cancels_plain {n} (Cancels.none why) = none_unsaved n.state _ why

fails_plain : {own : Kept → Type 0} {k : Kept} {f : Fault} → FailsToOpen own k f → ¬ IsNameFault f
fails_plain FailsToOpen.no_room = λ h. h
fails_plain FailsToOpen.keeper_failed = λ h. h
fails_plain (FailsToOpen.other e) = λ h. h

opens_plain : {desks : ℕ} {own : Kept → Type 0} {k : Kept} {f : Fault} {k' : Kept} → Opens desks own k (Err f) k'
    → ¬ IsNameFault f
opens_plain (Opens.spent own all) = λ h. h
opens_plain (Opens.refused why left) = fails_plain why

again_plain : {n : NodeState} {doubt : Option Batch} {k : Kept} {f : Fault} {n' : NodeState} {k' : Kept}
    → OpensAgain n doubt k (Err f) n' k' → ¬ IsNameFault f
again_plain (OpensAgain.stays h) = opens_plain h

restarts_plain : {n : NodeState} {k : Kept} {keeps : Bool} {f : Fault} {n' : NodeState} {k' : Kept}
    → Restarts n k keeps (Err f) n' k' → ¬ IsNameFault f
restarts_plain (Restarts.not_saved kept is s) = saves_plain s
restarts_plain (Restarts.saved kept is h) = again_plain h
restarts_plain (Restarts.lost lost is h) = again_plain h
restarts_plain (Restarts.idle is h) = again_plain h
restarts_plain (Restarts.due is h) = again_plain h
restarts_plain (Restarts.stopped is h) = again_plain h

-- ---- events

module _ (w : World) (named : IsNamed w) (number : ℕ) (s : KeptNode) (at : IsAt w number s) where
  receives_plain : {ops : SetBy op_cmp} {f : Fault} {n' : NodeState} → Within (In ops) (Union w)
      → Receives s.node ops (Err f) n' → ¬ IsNameFault f
  receives_plain from (Receives.stopped why) = not_running s.node.state _ why
  receives_plain from (Receives.no_room is some) = λ h. h
  receives_plain from (Receives.impostor {op = op} is least fault) =
      absurd (no_impostor w named number s at op (from op least.member) fault)
  receives_plain from (Receives.clash {op = op} is least fault) =
      absurd (no_clash w named number s at op (from op least.member) fault)
  receives_plain from (Receives.taken op is can there lacks why) = taken s.node.state _ why

  batch_plain : {reply : Reply} {w' : World} (ops : List Op) → Within (In (set.of_list {R = op_cmp} ops)) (Union w)
      → BatchAt w number s ops reply w' → ¬ IsNameRefusal reply
  batch_plain ops from (BatchAt.nothing_new does) = λ h. h
  batch_plain ops from (BatchAt.takes does some) = λ h. h
  batch_plain ops from (BatchAt.refused does) = receives_plain from does

  window_plain : {window : Intervals} {reply : Reply} {w' : World} → WindowAt w number s window reply w'
      → ¬ IsNameRefusal reply
  window_plain (WindowAt.stopped why) = not_running s.node.state _ why
  window_plain (WindowAt.no_room running some) = λ h. h
  window_plain (WindowAt.answers running told) = λ h. h

  message_plain : {sent : Sent} {d : Data} {reply : Reply} {w' : World} → MessageAt w number s sent d reply w'
      → ¬ IsNameRefusal reply
  message_plain (MessageAt.arrives does) = λ h. h
  message_plain (MessageAt.refused does) = arrives_plain does
  message_plain (MessageAt.no_room running) = λ h. h

  deliver_plain : (sent : Sent) {reply : Reply} {w' : World} → Contains w.packets sent
      → DeliverAt w number s sent reply w' → ¬ IsNameRefusal reply
  deliver_plain sent there (DeliverAt.have is h) = window_plain h
  deliver_plain sent {reply} {w'} there (DeliverAt.ops is h) =
      batch_plain (carried sent) (carried_known w named sent there)
      (subst (λ l. BatchAt w number s l reply w') (carried_is sent is) h)
  deliver_plain sent there (DeliverAt.message is h) = message_plain h

  job_plain : {desk upto : ℕ} {job : Job} {reply : Reply} {w' : World} → JobAt w number s desk upto job reply w'
      → ¬ IsNameRefusal reply
  job_plain (JobAt.refused does) = jobs_plain does
  job_plain (JobAt.replied does) = λ h. h
  job_plain (JobAt.begun does) = λ h. h
  job_plain (JobAt.sends does) = λ h. h
  job_plain (JobAt.no_room look seen noted) = λ h. h

  save_plain : {reply : Reply} {w' : World} → SaveAt w number s reply w' → ¬ IsNameRefusal reply
  save_plain (SaveAt.saved does) = λ h. h
  save_plain (SaveAt.refused does) = saves_plain does

  publish_plain : {reply : Reply} {w' : World} → PublishAt w number s reply w' → ¬ IsNameRefusal reply
  publish_plain (PublishAt.ordered is does) = λ h. h
  publish_plain (PublishAt.received is does) = λ h. h
  publish_plain (PublishAt.refused does) = publishes_plain does

  cancel_plain : {reply : Reply} {w' : World} → CancelAt w number s reply w' → ¬ IsNameRefusal reply
  cancel_plain (CancelAt.given_up does) = λ h. h
  cancel_plain (CancelAt.refused does) = cancels_plain does

  restart_plain : {keeps : Bool} {reply : Reply} {w' : World} → RestartAt w number s keeps reply w'
      → ¬ IsNameRefusal reply
  restart_plain (RestartAt.booted does) = λ h. h
  restart_plain (RestartAt.refused does) = restarts_plain does

  tell_plain : {reply : Reply} {w' : World} → TellAt w number s reply w' → ¬ IsNameRefusal reply
  tell_plain (TellAt.stopped why) = not_running s.node.state _ why
  tell_plain (TellAt.no_room running) = λ h. h
  tell_plain (TellAt.tells running told) = λ h. h

pub step_plain : (w : World) → IsNamed w → {event : Event} {reply : Reply} {w' : World} → Step w event reply w'
    → ¬ IsNameRefusal reply
step_plain w named (Step.no_node e) = λ h. h
step_plain w named (Step.no_desk at e) = λ h. h
step_plain w named (Step.no_such_job is) = λ h. h
step_plain w named (Step.no_packet e) = λ h. h
step_plain w named (Step.job {number = number} {s = s} at is h) = job_plain w named number s at h
step_plain w named (Step.save {number = number} {s = s} at h) = save_plain w named number s at h
step_plain w named (Step.publish {number = number} {s = s} at h) = publish_plain w named number s at h
step_plain w named (Step.cancel {number = number} {s = s} at h) = cancel_plain w named number s at h
step_plain w named (Step.restart {number = number} {s = s} at h) = restart_plain w named number s at h
step_plain w named (Step.tell {number = number} {s = s} at h) = tell_plain w named number s at h
step_plain w named (Step.deliver {packet = packet} {number = number} {s = s} {sent = sent} e at h) =
    deliver_plain w named number s at sent (item_there w.packets packet sent e) h
