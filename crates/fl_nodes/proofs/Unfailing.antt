-- In these calls no keeper fails: by their definitions nothing of them is refused so.
use Rattle.std.proofs.Common.{◌≡◌, ◌≢◌, inl, inr, ℕ, subst, List, length, Option, Err}
use Rattle.fl_labels.specs.SetBy.{SetBy}
use Rattle.fl_labels.specs.declared.pid.Pid.{Pid}
use Rattle.fl_ops.specs.declared.op.Body.{Body}
use Rattle.fl_ops.specs.OpOrder.{op_cmp}
use Rattle.fl_message.specs.declared.message.Data.{Data}
use Rattle.fl_wire.specs.declared.packet.Packet.{Packet}
use Rattle.fl_jobs.specs.declared.answer.Refusal.{Refusal}
use Rattle.fl_jobs.specs.declared.job.Job.{Job}
use Rattle.fl_system.specs.declared.admission.Admission.{Admission}
use Rattle.fl_system.specs.declared.admission.Party.{Party}
use Rattle.fl_system.specs.declared.answer.Fault.{Fault}
use Rattle.fl_system.specs.declared.answer.Fault.TheVariants as faults
use Rattle.fl_system.specs.declared.reply.Reply.{Reply}
use Rattle.fl_system.specs.declared.reply.Reply.TheVariants as reply
use Rattle.fl_system.specs.declared.sent.Sent.{Sent}
use Rattle.fl_system.specs.declared.state.Batch.TheVariants.{Ordered, Received}
use Rattle.fl_system.specs.declared.state.Pending.TheVariants.{Nothing, Unsaved, Due}
use Rattle.fl_system.specs.declared.state.State.{State}
use Rattle.fl_system.specs.declared.state.State.TheVariants.{Running, Stopped}
use Rattle.fl_system.specs.Arrives.{Arrives}
use Rattle.fl_system.specs.Begins.{Begins}
use Rattle.fl_system.specs.Jobs.{Jobs}
use Rattle.fl_system.specs.Publishes.{Publishes, Cancels}
use Rattle.fl_system.specs.Receives.{Receives}
use Rattle.fl_opset.specs.declared.intervals.Intervals.{Intervals}
use Rattle.fl_system.specs.State.{NodeState}
use Rattle.fl_system.specs.Waiting.{NotRunning, IsTaken, NoneUnsaved, NoneDue}
use Rattle.fl_node.specs.Telling.{TellsNothing, AnswersNothing}
use Rattle.fl_machine_model.specs.Alone.{BatchAlone, MessageAlone}
use Rattle.fl_notes.specs.Bringing.{Brought}
use Rattle.fl_machine_model.specs.Alone.{JobAlone}
use Rattle.fl_notes.specs.Working.{Worked}
use Rattle.fl_nodes.specs.parts.Delivering.{Sends}
use Rattle.fl_nodes.specs.parts.Published.{published_reply}
use Rattle.fl_nodes.proofs.FailLemmas.{same_fault}

-- ---- by a node's state

no_refusal : (refusal : Refusal) → faults.KeeperFailed ≡ faults.Refused refusal → ⊥
no_refusal refusal e = cc

no_stop : faults.KeeperFailed ≡ faults.Stopped → ⊥
no_stop e = cc

not_running : (s : State) → NotRunning s faults.KeeperFailed → ⊥
not_running (Running pending) h = h
not_running (Stopped doubt) h = no_stop h

is_taken : (s : State) → IsTaken s faults.KeeperFailed → ⊥
is_taken (Running Nothing) h = h
is_taken (Running (Unsaved batch)) h = no_refusal _ h
is_taken (Running (Due batch)) h = no_refusal _ h
is_taken (Stopped doubt) h = no_stop h

none_unsaved : (s : State) → NoneUnsaved s faults.KeeperFailed → ⊥
none_unsaved (Running Nothing) h = no_refusal _ h
none_unsaved (Running (Unsaved batch)) h = h
none_unsaved (Running (Due batch)) h = no_refusal _ h
none_unsaved (Stopped doubt) h = no_stop h

none_due : (s : State) → NoneDue s faults.KeeperFailed → ⊥
none_due (Running Nothing) h = no_refusal _ h
none_due (Running (Unsaved batch)) h = no_refusal _ h
none_due (Running (Due batch)) h = h
none_due (Stopped doubt) h = no_stop h

tells_nothing : (s : State) → TellsNothing s faults.KeeperFailed → ⊥
tells_nothing s (inl stopped) = not_running s stopped
tells_nothing s (inr starved) = no_refusal _ starved.1

answers_nothing : (n : NodeState) (window : Intervals) → AnswersNothing n window faults.KeeperFailed → ⊥
answers_nothing n window (inl stopped) = not_running n.state stopped
answers_nothing n window (inr starved) = no_refusal _ starved.1

-- ---- by what is asked of a node

cancels : (n n' : NodeState) → Cancels n (Err faults.KeeperFailed) n' → ⊥
cancels n n' (Cancels.none h) = none_unsaved n.state h

publishes : (n n' : NodeState) → Publishes n (Err faults.KeeperFailed) n' → ⊥
publishes n n' (Publishes.none h) = none_due n.state h

begins : (n n' : NodeState) (body : Body) (maker : Option Pid) (desk : Option ℕ)
    → Begins n body maker desk (Err faults.KeeperFailed) n' → ⊥
begins n n' body maker desk (Begins.taken h) = is_taken n.state h

jobs : (n n' : NodeState) (desk upto : ℕ) (job : Job) → Jobs n desk upto job (Err faults.KeeperFailed) n' → ⊥
jobs n n' desk upto job (Jobs.stopped h) = not_running n.state h
jobs n n' desk upto job (Jobs.not_begun look decides begun) = begins _ _ _ _ _ begun

receives : (n n' : NodeState) (ops : SetBy op_cmp) → Receives n ops (Err faults.KeeperFailed) n' → ⊥
receives n n' ops (Receives.stopped h) = not_running n.state h
receives n n' ops (Receives.taken op running can in_it lacks h) = is_taken n.state h

arrives : (n n' : NodeState) (d : Data) → Arrives n d (Err faults.KeeperFailed) n' → ⊥
arrives n n' d (Arrives.stopped h) = not_running n.state h

-- ---- by what is replied

works : (number : ℕ) (n n' : NodeState) (desk upto : ℕ) (job : Job) (count : ℕ) (sent : List Sent) (admitted : List Admission)
    → JobAlone number n desk upto job count (reply.Refused faults.KeeperFailed) n' sent admitted → ⊥
works number n n' desk upto job count sent admitted (JobAlone.refused h) = jobs n n' desk upto job h

takes : (n n' : NodeState) (ops : SetBy op_cmp) → BatchAlone n ops (reply.Refused faults.KeeperFailed) n' → ⊥
takes n n' ops (BatchAlone.refused h) = receives n n' ops h

brings : (n n' : NodeState) (sender : Option Party) (d : Data) (admitted : List Admission)
    → MessageAlone n sender d (reply.Refused faults.KeeperFailed) n' admitted → ⊥
brings n n' sender d admitted (MessageAlone.refused h) = arrives n n' d h

sends : (number : ℕ) (told : List Packet) (before after : List Sent)
    → Sends number told before (reply.Refused faults.KeeperFailed) after → ⊥
sends number told before after h = elim h [ ]

-- ---- in the calls

-- what is refused for a fault that is so is not refused for one that never is
refused_so : (So : Fault → Type 0) → (So faults.KeeperFailed → ⊥) → (fault : Fault) → So fault
    → reply.Refused fault ≢ reply.Refused faults.KeeperFailed
refused_so So never fault so e = never (subst So (same_fault fault faults.KeeperFailed e) so)

pub cancel_refused : (n n' : NodeState) (fault : Fault) → Cancels n (Err fault) n'
    → reply.Refused fault ≢ reply.Refused faults.KeeperFailed
cancel_refused n n' = refused_so (λ fault. Cancels n (Err fault) n') (cancels n n')

pub publish_refused : (n n' : NodeState) (fault : Fault) → Publishes n (Err fault) n'
    → reply.Refused fault ≢ reply.Refused faults.KeeperFailed
publish_refused n n' = refused_so (λ fault. Publishes n (Err fault) n') (publishes n n')

pub tell_refused : (s : State) (fault : Fault) → TellsNothing s fault
    → reply.Refused fault ≢ reply.Refused faults.KeeperFailed
tell_refused s = refused_so (TellsNothing s) (tells_nothing s)

pub window_refused : (n : NodeState) (window : Intervals) (fault : Fault) → AnswersNothing n window fault
    → reply.Refused fault ≢ reply.Refused faults.KeeperFailed
window_refused n window = refused_so (AnswersNothing n window) (answers_nothing n window)

pub publish_replied : (s : State) → published_reply s ≢ reply.Refused faults.KeeperFailed
publish_replied (Running (Due (Ordered op maker desk))) e = cc
publish_replied (Running (Due (Received ops))) e = cc
publish_replied (Running Nothing) e = cc
publish_replied (Running (Unsaved batch)) e = cc
publish_replied (Stopped doubt) e = cc

pub job_replied : (number : ℕ) (n n' : NodeState) (desk upto : ℕ) (job : Job) (result : Reply)
    (packets packets_after : List Sent) (audit audit_after : List Admission)
    → Worked number n desk upto job result n' packets packets_after audit audit_after
    → result ≢ reply.Refused faults.KeeperFailed
job_replied number n n' desk upto job result packets packets_after audit audit_after worked e =
    works number n n' desk upto job (length packets) worked.sent worked.admitted
    (subst (λ r. JobAlone number n desk upto job (length packets) r n' worked.sent worked.admitted) e worked.works)

pub taking_replied : (n n' : NodeState) (ops : SetBy op_cmp) (result : Reply) → BatchAlone n ops result n'
    → result ≢ reply.Refused faults.KeeperFailed
taking_replied n n' ops result taken e = takes n n' ops (subst (λ r. BatchAlone n ops r n') e taken)

pub bringing_replied : (n n' : NodeState) (sender : Option Party) (d : Data) (result : Reply) (audit audit_after : List Admission)
    → Brought n sender d result n' audit audit_after → result ≢ reply.Refused faults.KeeperFailed
bringing_replied n n' sender d result audit audit_after brought e =
    brings n n' sender d brought.admitted (subst (λ r. MessageAlone n sender d r n' brought.admitted) e brought.brings)

pub sending_replied : (number : ℕ) (told : List Packet) (before after : List Sent) (result : Reply) → Sends number told before result after
    → result ≢ reply.Refused faults.KeeperFailed
sending_replied number told before after result sent e =
    sends number told before after (subst (λ r. Sends number told before r after) e sent)
