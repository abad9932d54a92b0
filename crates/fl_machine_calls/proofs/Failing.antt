-- In these calls no keeper fails: by their definitions nothing of them is refused so.
use Rattle.std.proofs.Common.{◌≡◌, ◌≢◌, ◌∙◌, inl, inr, ℕ, ap, sym, subst, Option, Result}
use Rattle.std.proofs.Common.{Ok, Err, IfErr}
use Rattle.fl_labels.specs.SetBy.{SetBy}
use Rattle.fl_labels.specs.declared.pid.Pid.{Pid}
use Rattle.fl_ops.specs.declared.op.Body.{Body}
use Rattle.fl_ops.specs.OpOrder.{op_cmp}
use Rattle.fl_message.specs.declared.message.Data.{Data}
use Rattle.fl_jobs.specs.declared.answer.Refusal.{Refusal}
use Rattle.fl_jobs.specs.declared.answer.Reply.{Reply as JobReply}
use Rattle.fl_jobs.specs.declared.job.Job.{Job}
use Rattle.fl_system.specs.declared.answer.Answer.{Answer}
use Rattle.fl_system.specs.declared.answer.Answer.TheVariants as answers
use Rattle.fl_system.specs.declared.answer.Fault.{Fault}
use Rattle.fl_system.specs.declared.answer.Fault.TheVariants as faults
use Rattle.fl_system.specs.declared.reply.Reply.{Reply}
use Rattle.fl_system.specs.declared.reply.Reply.TheVariants as reply
use Rattle.fl_system.specs.declared.state.Batch.TheVariants.{Ordered, Received}
use Rattle.fl_system.specs.declared.state.Pending.TheVariants.{Nothing, Unsaved, Due}
use Rattle.fl_system.specs.declared.state.State.{State}
use Rattle.fl_system.specs.declared.state.State.TheVariants.{Running, Stopped}
use Rattle.fl_system.specs.Arrives.{Arrives}
use Rattle.fl_system.specs.Begins.{Begins}
use Rattle.fl_system.specs.Jobs.{Jobs}
use Rattle.fl_system.specs.Publishes.{Publishes, Cancels}
use Rattle.fl_system.specs.Receives.{Receives}
use Rattle.fl_system.specs.State.{NodeState}
use Rattle.fl_system.specs.Waiting.{NotRunning, IsTaken, NoneUnsaved, NoneDue}
use Rattle.fl_node.specs.Telling.{TellsNothing}
use Rattle.fl_machine_model.specs.Acts.{Replies}
use Rattle.fl_machine_model.specs.Alone.{BatchAlone}
use Rattle.fl_calls.specs.Completing.{starved}
use Rattle.fl_machine_calls.specs.Saying.{published_reply, saying_of, says_of}
use Rattle.fl_machine_calls.specs.declared.said.Said.{Said}
use Rattle.fl_machine_calls.specs.declared.said.Said.TheVariants as said

-- ---- by a node's state

no_refusal : (refusal : Refusal) → faults.KeeperFailed ≡ faults.Refused refusal → ⊥
no_refusal refusal e = cc

no_stop : faults.KeeperFailed ≡ faults.Stopped → ⊥
no_stop e = cc

not_running : (s : State) → NotRunning s faults.KeeperFailed → ⊥
not_running (Running pending) h = h
not_running (Stopped doubt) h = no_stop h

is_taken : (s : State) → IsTaken s faults.KeeperFailed → ⊥
is_taken (Running Nothing) h = h
is_taken (Running (Unsaved batch)) h = no_refusal _ h
is_taken (Running (Due batch)) h = no_refusal _ h
is_taken (Stopped doubt) h = no_stop h

none_unsaved : (s : State) → NoneUnsaved s faults.KeeperFailed → ⊥
none_unsaved (Running Nothing) h = no_refusal _ h
none_unsaved (Running (Unsaved batch)) h = h
none_unsaved (Running (Due batch)) h = no_refusal _ h
none_unsaved (Stopped doubt) h = no_stop h

none_due : (s : State) → NoneDue s faults.KeeperFailed → ⊥
none_due (Running Nothing) h = no_refusal _ h
none_due (Running (Unsaved batch)) h = no_refusal _ h
none_due (Running (Due batch)) h = h
none_due (Stopped doubt) h = no_stop h

tells_nothing : (s : State) → TellsNothing s faults.KeeperFailed → ⊥
tells_nothing s (inl stopped) = not_running s stopped
tells_nothing s (inr hungry) = no_refusal _ hungry.1

-- ---- by what is asked of a node

cancels : (n n' : NodeState) → Cancels n (Err faults.KeeperFailed) n' → ⊥
cancels n n' (Cancels.none h) = none_unsaved n.state h

publishes : (n n' : NodeState) → Publishes n (Err faults.KeeperFailed) n' → ⊥
publishes n n' (Publishes.none h) = none_due n.state h

begins : (n n' : NodeState) (body : Body) (maker : Option Pid) (desk : Option ℕ)
    → Begins n body maker desk (Err faults.KeeperFailed) n' → ⊥
begins n n' body maker desk (Begins.taken h) = is_taken n.state h

jobs : (n n' : NodeState) (desk upto : ℕ) (job : Job)
    → Jobs n desk upto job (Err faults.KeeperFailed) n' → ⊥
jobs n n' desk upto job (Jobs.stopped h) = not_running n.state h
jobs n n' desk upto job (Jobs.not_begun look decides begun) = begins _ _ _ _ _ begun

receives : (n n' : NodeState) (ops : SetBy op_cmp)
    → Receives n ops (Err faults.KeeperFailed) n' → ⊥
receives n n' ops (Receives.stopped h) = not_running n.state h
receives n n' ops (Receives.taken op running can in_it lacks h) = is_taken n.state h

arrives : (n n' : NodeState) (d : Data) → Arrives n d (Err faults.KeeperFailed) n' → ⊥
arrives n n' d (Arrives.stopped h) = not_running n.state h

-- ---- by what is replied

takes : (n n' : NodeState) (ops : SetBy op_cmp)
    → BatchAlone n ops (reply.Refused faults.KeeperFailed) n' → ⊥
takes n n' ops (BatchAlone.refused h) = receives n n' ops h

-- ---- in the calls

-- what is refused is refused so
pub same_fault : (fault other : Fault) → reply.Refused fault ≡ reply.Refused other → fault ≡ other
same_fault fault other e = cc

-- what is refused for a fault that is so is not refused for one that never is
refused_so : (So : Fault → Type 0) → (So faults.KeeperFailed → ⊥) → (fault : Fault) → So fault
    → reply.Refused fault ≢ reply.Refused faults.KeeperFailed
refused_so So never fault so e = never (subst So (same_fault fault faults.KeeperFailed e) so)

pub done_otherwise : reply.Done ≢ reply.Refused faults.KeeperFailed
done_otherwise e = cc

pub no_such_otherwise : reply.NoSuch ≢ reply.Refused faults.KeeperFailed
no_such_otherwise e = cc

pub starved_otherwise : starved ≢ reply.Refused faults.KeeperFailed
starved_otherwise e = cc

pub cancel_refused : (n n' : NodeState) (fault : Fault) → Cancels n (Err fault) n'
    → reply.Refused fault ≢ reply.Refused faults.KeeperFailed
cancel_refused n n' = refused_so (λ fault. Cancels n (Err fault) n') (cancels n n')

pub publish_refused : (n n' : NodeState) (fault : Fault) → Publishes n (Err fault) n'
    → reply.Refused fault ≢ reply.Refused faults.KeeperFailed
publish_refused n n' = refused_so (λ fault. Publishes n (Err fault) n') (publishes n n')

pub publish_replied : (s : State) → published_reply s ≢ reply.Refused faults.KeeperFailed
publish_replied (Running (Due (Ordered op maker desk))) e = cc
publish_replied (Running (Due (Received ops))) e = cc
publish_replied (Running Nothing) e = cc
publish_replied (Running (Unsaved batch)) e = cc
publish_replied (Stopped doubt) e = cc

pub job_refused : (n n' : NodeState) (desk upto : ℕ) (job : Job) (fault : Fault)
    → Jobs n desk upto job (Err fault) n' → reply.Refused fault ≢ reply.Refused faults.KeeperFailed
job_refused n n' desk upto job =
    refused_so (λ fault. Jobs n desk upto job (Err fault) n') (jobs n n' desk upto job)

pub stopped_otherwise : (s : State) (fault : Fault) → NotRunning s fault
    → reply.Refused fault ≢ reply.Refused faults.KeeperFailed
stopped_otherwise s = refused_so (NotRunning s) (not_running s)

pub arrival_refused : (n n' : NodeState) (d : Data) (fault : Fault) → Arrives n d (Err fault) n'
    → reply.Refused fault ≢ reply.Refused faults.KeeperFailed
arrival_refused n n' d = refused_so (λ fault. Arrives n d (Err fault) n') (arrives n n' d)

pub replied_otherwise : (told : JobReply) → reply.Job told ≢ reply.Refused faults.KeeperFailed
replied_otherwise told e = cc

pub taking_replied : (n n' : NodeState) (ops : SetBy op_cmp) (result : Reply)
    → BatchAlone n ops result n' → result ≢ reply.Refused faults.KeeperFailed
taking_replied n n' ops result taken e = takes n n' ops (subst (λ r. BatchAlone n ops r n') e taken)

-- of calls that answer a fault
module _ {V : Type 0} where
  same_error : (fault other : Fault) → ◌≡◌ {A = Result V Fault} (Err fault) (Err other)
      → fault ≡ other
  same_error fault other e = cc

  pub failed_so : (So : Fault → Type 0) → (So faults.KeeperFailed → ⊥) → (r : Result V Fault)
      → IfErr r So → r ≢ Err faults.KeeperFailed
  failed_so So never (Ok v) so e = cc
  failed_so So never (Err fault) so e =
      never (subst So (same_error fault faults.KeeperFailed e) so)

  pub tell_failed : (s : State) (r : Result V Fault) → IfErr r (TellsNothing s)
      → r ≢ Err faults.KeeperFailed
  tell_failed s = failed_so (TellsNothing s) (tells_nothing s)

  pub stop_failed : (s : State) (fault : Fault) → NotRunning s fault
      → ◌≡◌ {A = Result V Fault} (Err fault) (Err faults.KeeperFailed) → ⊥
  stop_failed s fault why e =
      not_running s (subst (NotRunning s) (same_error fault faults.KeeperFailed e) why)

-- ---- in what is said

pub said_reply : (a b : Reply) → said.Reply a ≡ said.Reply b → a ≡ b
said_reply a b e = cc

pub said_otherwise : (r : Reply) → r ≢ reply.Refused faults.KeeperFailed
    → said.Reply r ≢ said.Reply (reply.Refused faults.KeeperFailed)
said_otherwise r other e = other (said_reply r (reply.Refused faults.KeeperFailed) e)

-- what an admitted job is answered says nothing of a keeper
pub answer_otherwise : (a : Answer) → says_of a ≢ Replies (reply.Refused faults.KeeperFailed)
answer_otherwise (answers.Reply told) e = cc
answer_otherwise (answers.Begun name) e = cc
answer_otherwise (answers.Out d) e = cc

pub says_otherwise : (s : Said) (a : Answer) → saying_of s ≡ says_of a
    → s ≢ said.Reply (reply.Refused faults.KeeperFailed)
says_otherwise s a says e = answer_otherwise a (sym says ∙ ap saying_of e)
