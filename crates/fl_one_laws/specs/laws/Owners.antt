-- What is kept of each node is its own, and no restart is refused as another node's, where no node
-- was opened over another keeper.
use Rattle.std.proofs.Common.{◌≡◌, ◌⊎◌, ◌∙◌, inl, inr, ℕ, Bool, List, [], ◌∷◌, refl, sym, ap, subst, arith, le_refl, Option, None, Some, Result, Err}
use Rattle.std.specs.FinMap as map
use Rattle.std.specs.Ordering.{nat_cmp}
use Rattle.fl_labels.specs.SetBy.{SetBy}
use Rattle.fl_labels.specs.declared.name.Name.{Name}
use Rattle.fl_labels.specs.declared.pid.Pid.{Pid}
use Rattle.fl_ops.specs.OpOrder.{op_cmp}
use Rattle.fl_ops.specs.declared.op.Body.{Body}
use Rattle.fl_ops.specs.declared.op.Op.{Op}
use Rattle.fl_opset.specs.declared.intervals.Intervals.{Intervals}
use Rattle.fl_message.specs.declared.message.Data.{Data}
use Rattle.fl_jobs.specs.declared.answer.Reply.{Reply as JobReply}
use Rattle.fl_jobs.specs.declared.job.Job.{Job as AnyJob}
use Rattle.fl_bench.specs.laws.Puts.{none_some}
use Rattle.fl_store.specs.Kept.{Kept, with_batch}
use Rattle.fl_system.specs.declared.admission.Admission.{Admission}
use Rattle.fl_system.specs.declared.answer.Answer.{Answer}
use Rattle.fl_system.specs.declared.answer.Fault.{Fault}
use Rattle.fl_system.specs.declared.answer.Fault.TheVariants.{WrongNode}
use Rattle.fl_system.specs.declared.event.Event.{Event}
use Rattle.fl_system.specs.declared.event.Event.TheVariants.{Job, Save, Publish, Cancel, Restart, Tell, Deliver}
use Rattle.fl_system.specs.declared.reply.Reply.{Reply}
use Rattle.fl_system.specs.declared.reply.Reply.TheVariants as replies
use Rattle.fl_system.specs.declared.sent.Sent.{Sent}
use Rattle.fl_system.specs.declared.state.Batch.{Batch}
use Rattle.fl_system.specs.declared.state.State.{State}
use Rattle.fl_system.specs.declared.state.State.TheVariants.{Stopped}
use Rattle.fl_system.specs.State.{NodeState, kept_of, ops_of}
use Rattle.fl_system.specs.Begins.{Begins}
use Rattle.fl_system.specs.Waiting.{IsRunning}
use Rattle.fl_system.specs.Jobs.{Jobs}
use Rattle.fl_system.specs.Receives.{Receives}
use Rattle.fl_system.specs.Arrives.{Arrives}
use Rattle.fl_system.specs.Saves.{Saves, stored}
use Rattle.fl_system.specs.Publishes.{Publishes, Cancels}
use Rattle.fl_system.specs.Openings.{Opens, OpensAgain, Restarts, IsOwn, opened}
use Rattle.fl_system.specs.Joins.{Joins}
use Rattle.fl_system.specs.Runs.{Run}
use Rattle.fl_system.specs.World.{World, KeptNode, empty_world, went}
use Rattle.fl_system.specs.WorldJobs.{JobAt}
use Rattle.fl_system.specs.WorldCalls.{SaveAt, PublishAt, CancelAt, RestartAt}
use Rattle.fl_system.specs.Deliveries.{TellAt, WindowAt, BatchAt, MessageAt, DeliverAt}
use Rattle.fl_system.specs.WorldSteps.{IsAt, Step}
use Rattle.fl_system_laws.specs.Owned.{IsKeptOwn}
use Rattle.fl_system_laws.specs.laws.Finding.{own_kept, opens_other, saves_other}
use Rattle.fl_system_laws.specs.laws.Owning as owning
use Rattle.fl_world_laws.specs.laws.Nodes.{Now, is_new, is_old, now}
use Rattle.fl_one_laws.specs.Ample.{IsLeft, IsOwnKept, HaveOwn, IsSettled, AreSettled}

-- ---- a call at a node

-- a node that runs
runs : {n : NodeState} {k : Kept} → IsRunning n.state → IsKeptOwn n k → IsOwnKept n k
runs running own = record { running = own; stopped = λ doubt is. absurd (subst IsRunning is running) }

still_runs : {s t : State} → s ≡ t → IsRunning t → IsRunning s
still_runs e running = subst IsRunning (sym e) running

begins_runs : {n : NodeState} {body : Body} {maker : Option Pid} {desk : Option ℕ} {result : Result Name Fault}
    {n' : NodeState} → IsRunning n.state → Begins n body maker desk result n' → IsRunning n'.state
begins_runs running (Begins.begins idle next) = tt
begins_runs running (Begins.taken why) = running
begins_runs running (Begins.spent idle last) = running

jobs_owned : {n : NodeState} {desk upto : ℕ} {job : AnyJob} {result : Result Answer Fault} {n' : NodeState} {k : Kept}
    → IsOwnKept n k → Jobs n desk upto job result n' → IsOwnKept n' k
jobs_owned h (Jobs.stopped why) = h
jobs_owned h (Jobs.no_room look less left) = runs look.running (owning.jobs_own h.running (Jobs.no_room look less left))
jobs_owned h (Jobs.refused look decides) = runs look.running (owning.jobs_own h.running (Jobs.refused look decides))
jobs_owned h (Jobs.replied look decides) = runs look.running (owning.jobs_own h.running (Jobs.replied look decides))
jobs_owned h (Jobs.sent look decides) = runs look.running (owning.jobs_own h.running (Jobs.sent look decides))
jobs_owned h (Jobs.begun look decides start) =
    runs (begins_runs look.running start) (owning.jobs_own h.running (Jobs.begun look decides start))
jobs_owned h (Jobs.not_begun look decides start) =
    runs look.running (owning.jobs_own h.running (Jobs.not_begun look decides start))

receives_owned : {n : NodeState} {ops : SetBy op_cmp} {result : Result ℕ Fault} {n' : NodeState} {k : Kept}
    → IsOwnKept n k → Receives n ops result n' → IsOwnKept n' k
receives_owned h (Receives.stopped why) = h
receives_owned h (Receives.no_room running some) = h
receives_owned h (Receives.impostor running first bad) = h
receives_owned h (Receives.clash running first bad) = h
receives_owned h (Receives.nothing_new running can all) = h
receives_owned h (Receives.taken op running can there lacks why) = h
receives_owned h (Receives.receives idle can are some) =
    runs tt (owning.receives_own h.running (Receives.receives idle can are some))

arrives_owned : {n : NodeState} {d : Data} {result : Result JobReply Fault} {n' : NodeState} {k : Kept}
    → IsOwnKept n k → Arrives n d result n' → IsOwnKept n' k
arrives_owned h (Arrives.stopped why) = h
arrives_owned h (Arrives.refused at) = runs at.running (owning.arrives_own h.running (Arrives.refused at))
arrives_owned h (Arrives.arrives at) = runs at.running (owning.arrives_own h.running (Arrives.arrives at))

publishes_owned : {n : NodeState} {result : Result ℕ Fault} {n' : NodeState} {k : Kept} → IsOwnKept n k
    → Publishes n result n' → IsOwnKept n' k
publishes_owned h (Publishes.published is) = runs tt (owning.publishes_own h.running (Publishes.published is))
publishes_owned h (Publishes.no_room is) = h
publishes_owned h (Publishes.none why) = h

cancels_owned : {n : NodeState} {result : Result (Unit {0}) Fault} {n' : NodeState} {k : Kept} → IsOwnKept n k
    → Cancels n result n' → IsOwnKept n' k
cancels_owned h (Cancels.given_up is) = runs tt (owning.cancels_own h.running (Cancels.given_up is))
cancels_owned h (Cancels.none why) = h

-- what was kept of a node that ran is its own, with whatever is in doubt
ran_own : {n : NodeState} {k : Kept} {state : State} (doubt : Option Batch) → IsOwnKept n k → n.state ≡ state
    → IsRunning state → IsOwn (kept_of n) doubt k
ran_own {n} doubt h is running =
    subst (IsOwn (kept_of n) doubt) (sym (h.running.own (still_runs is running))) (own_kept n doubt)

-- what a saving leaves that failed
doubted : (n : NodeState) (k left : Kept) (batch : Batch) → k ≡ kept_of n
    → (left ≡ k) ⊎ (left ≡ with_batch k (ops_of batch)) → IsOwn (kept_of n) (Some batch) left
doubted n k left batch own (inl is) =
    subst (IsOwn (kept_of n) (Some batch)) (sym (is ∙ own)) (own_kept n (Some batch))
doubted n k left batch own (inr is) =
    subst (IsOwn (kept_of n) (Some batch)) (sym (is ∙ ap (λ x. with_batch x (ops_of batch)) own))
    (record { number = refl; boot = le_refl _; saved = inr refl })

stopped_with : {doubt other : Option Batch} → Stopped doubt ≡ Stopped other → doubt ≡ other
stopped_with e = cc

saves_owned : {n : NodeState} {k : Kept} {result : Result (Unit {0}) Fault} {n' : NodeState} {k' : Kept}
    → IsOwnKept n k → Saves n k result n' k' → IsOwnKept n' k'
saves_owned h (Saves.saved is) = runs tt (owning.saves_own h.running (Saves.saved is))
saves_owned h (Saves.no_room is) = h
saves_owned {n} {k} {k' = k'} h (Saves.failed {batch} is left) =
    record {
      running = owning.saves_own h.running (Saves.failed is left);
      stopped = λ doubt e. subst (λ d. IsOwn (kept_of n) d k') (stopped_with e)
          (doubted n k k' batch (h.running.own (still_runs is tt)) left);
    }
saves_owned h (Saves.none why) = h

-- what a refused opening leaves is as much its own
left_own : {was : Kept} {doubt : Option Batch} {k left : Kept} → IsOwn was doubt k → IsLeft k left → IsOwn was doubt left
left_own {was} {doubt} own (inl is) = subst (IsOwn was doubt) (sym is) own
left_own {was} {doubt} own (inr is) =
    subst (IsOwn was doubt) (sym is)
    (let low = own.boot in record { number = own.number; boot = omega (arith, low); saved = own.saved })

refused_own : {desks : ℕ} {was : Kept} {doubt : Option Batch} {k left : Kept} {fault : Fault} → IsOwn was doubt k
    → Opens desks (IsOwn was doubt) k (Err fault) left → IsOwn was doubt left
refused_own own (Opens.spent its all) = own
refused_own own (Opens.refused why left) = left_own own left

again_owned : {n : NodeState} {doubt : Option Batch} {k : Kept} {result : Result ℕ Fault} {n' : NodeState} {k' : Kept}
    → IsOwn (kept_of n) doubt k → OpensAgain n doubt k result n' k' → IsOwnKept n' k'
again_owned {n} own (OpensAgain.opens (Opens.opens its left)) =
    runs tt (owning.again_own {n = n} (OpensAgain.opens (Opens.opens its left)))
again_owned {n} {k' = k'} own (OpensAgain.stays fails) =
    record {
      running = owning.again_own {n = n} (OpensAgain.stays fails);
      stopped = λ doubt e. subst (λ d. IsOwn (kept_of n) d k') (stopped_with e) (refused_own own fails);
    }

-- what is stored is its own
stored_own : (n : NodeState) (k : Kept) (batch : Batch) → k ≡ kept_of n
    → IsOwn (kept_of (stored n batch)) None (with_batch k (ops_of batch))
stored_own n k batch own =
    subst (λ x. IsOwn (kept_of (stored n batch)) None (with_batch x (ops_of batch))) (sym own)
    (own_kept (stored n batch) None)

restarts_owned : {n : NodeState} {k : Kept} {keeps : Bool} {result : Result ℕ Fault} {n' : NodeState} {k' : Kept}
    → IsOwnKept n k → Restarts n k keeps result n' k' → IsOwnKept n' k'
restarts_owned h (Restarts.not_saved kept is f) = saves_owned h f
restarts_owned {n} {k} h (Restarts.saved {batch} kept is again) =
    again_owned (stored_own n k batch (h.running.own (still_runs is tt))) again
restarts_owned h (Restarts.lost lost is again) = again_owned (ran_own None h is tt) again
restarts_owned h (Restarts.idle is again) = again_owned (ran_own None h is tt) again
restarts_owned h (Restarts.due is again) = again_owned (ran_own None h is tt) again
restarts_owned h (Restarts.stopped {doubt} is again) = again_owned (h.stopped doubt is) again

-- what is its own is not another's
again_other : {n : NodeState} {doubt : Option Batch} {k : Kept} {fault : Fault} {n' : NodeState} {k' : Kept}
    → IsOwn (kept_of n) doubt k → OpensAgain n doubt k (Err fault) n' k' → fault ≡ WrongNode → ⊥
again_other {n} {doubt} {k} own (OpensAgain.stays fails) e = opens_other (IsOwn (kept_of n) doubt) k own _ fails e

restarts_other : {n : NodeState} {k : Kept} {keeps : Bool} {fault : Fault} {n' : NodeState} {k' : Kept} → IsOwnKept n k
    → Restarts n k keeps (Err fault) n' k' → fault ≡ WrongNode → ⊥
restarts_other {n} {k} h (Restarts.not_saved kept is f) e = saves_other n k f e
restarts_other {n} {k} h (Restarts.saved {batch} kept is again) e =
    again_other {n = stored n batch} (stored_own n k batch (h.running.own (still_runs is tt))) again e
restarts_other h (Restarts.lost lost is again) e = again_other (ran_own None h is tt) again e
restarts_other h (Restarts.idle is again) e = again_other (ran_own None h is tt) again e
restarts_other h (Restarts.due is again) e = again_other (ran_own None h is tt) again e
restarts_other h (Restarts.stopped {doubt} is again) e = again_other (h.stopped doubt is) again e

-- ---- worlds

put_own : {w : World} (number : ℕ) {n : NodeState} {k : Kept} (sent : List Sent) (admitted : List Admission) → HaveOwn w
    → IsOwnKept n k → HaveOwn (went w number n k sent admitted)
put_own {w} number {n} {k} sent admitted h its =
    record { each = λ m x e. by_now m x (now w.nodes number (record { node = n; kept = k }) m x e) }
  where
    by_now : (m : ℕ) (x : KeptNode) → Now w.nodes number (record { node = n; kept = k }) m x → IsOwnKept x.node x.kept
    by_now m x (is_new is same) = subst (λ (y : KeptNode). IsOwnKept y.node y.kept) same its
    by_now m x (is_old other at) = h.each m x at

pub empty_owned : (desks : ℕ) → HaveOwn (empty_world desks)
empty_owned desks = record { each = λ number s e. absurd (none_some (map.get-empty nat_cmp number) e) }

module _ {w : World} {number : ℕ} {s : KeptNode} (h : HaveOwn w) (at : IsAt w number s) where
  job_owned : {desk upto : ℕ} {job : AnyJob} {r : Reply} {a : World} → JobAt w number s desk upto job r a → HaveOwn a
  job_owned (JobAt.refused does) = put_own number _ _ h (jobs_owned (h.each number s at) does)
  job_owned (JobAt.replied does) = put_own number _ _ h (jobs_owned (h.each number s at) does)
  job_owned (JobAt.begun does) = put_own number _ _ h (jobs_owned (h.each number s at) does)
  job_owned (JobAt.sends does) = put_own number _ _ h (jobs_owned (h.each number s at) does)
  job_owned (JobAt.no_room {seen} look sees noted) =
      put_own number _ _ h (runs look.running (owning.looks_own seen (h.each number s at).running look))

  save_owned : {r : Reply} {a : World} → SaveAt w number s r a → HaveOwn a
  save_owned (SaveAt.saved does) = put_own number _ _ h (saves_owned (h.each number s at) does)
  save_owned (SaveAt.refused does) = put_own number _ _ h (saves_owned (h.each number s at) does)

  publish_owned : {r : Reply} {a : World} → PublishAt w number s r a → HaveOwn a
  publish_owned (PublishAt.ordered is does) = put_own number _ _ h (publishes_owned (h.each number s at) does)
  publish_owned (PublishAt.received is does) = put_own number _ _ h (publishes_owned (h.each number s at) does)
  publish_owned (PublishAt.refused does) = put_own number _ _ h (publishes_owned (h.each number s at) does)

  cancel_owned : {r : Reply} {a : World} → CancelAt w number s r a → HaveOwn a
  cancel_owned (CancelAt.given_up does) = put_own number _ _ h (cancels_owned (h.each number s at) does)
  cancel_owned (CancelAt.refused does) = put_own number _ _ h (cancels_owned (h.each number s at) does)

  restart_owned : {keeps : Bool} {r : Reply} {a : World} → RestartAt w number s keeps r a → HaveOwn a
  restart_owned (RestartAt.booted does) = put_own number _ _ h (restarts_owned (h.each number s at) does)
  restart_owned (RestartAt.refused does) = put_own number _ _ h (restarts_owned (h.each number s at) does)

  tell_owned : {r : Reply} {a : World} → TellAt w number s r a → HaveOwn a
  tell_owned (TellAt.stopped why) = h
  tell_owned (TellAt.no_room running) = h
  tell_owned (TellAt.tells running are) = record { each = h.each }

  window_owned : {window : Intervals} {r : Reply} {a : World} → WindowAt w number s window r a → HaveOwn a
  window_owned (WindowAt.stopped why) = h
  window_owned (WindowAt.no_room running some) = h
  window_owned (WindowAt.answers running are) = record { each = h.each }

  batch_owned : {ops : List Op} {r : Reply} {a : World} → BatchAt w number s ops r a → HaveOwn a
  batch_owned (BatchAt.nothing_new does) = put_own number _ _ h (receives_owned (h.each number s at) does)
  batch_owned (BatchAt.takes does some) = put_own number _ _ h (receives_owned (h.each number s at) does)
  batch_owned (BatchAt.refused does) = put_own number _ _ h (receives_owned (h.each number s at) does)

  message_owned : {sent : Sent} {d : Data} {r : Reply} {a : World} → MessageAt w number s sent d r a → HaveOwn a
  message_owned (MessageAt.arrives does) = put_own number _ _ h (arrives_owned (h.each number s at) does)
  message_owned (MessageAt.refused does) = put_own number _ _ h (arrives_owned (h.each number s at) does)
  message_owned (MessageAt.no_room running) = h

  delivery_owned : {sent : Sent} {r : Reply} {a : World} → DeliverAt w number s sent r a → HaveOwn a
  delivery_owned (DeliverAt.have is does) = window_owned does
  delivery_owned (DeliverAt.ops is does) = batch_owned does
  delivery_owned (DeliverAt.message is does) = message_owned does

module _ {w : World} where
  pub step_owned : {event : Event} {r : Reply} {a : World} → HaveOwn w → Step w event r a → HaveOwn a
  step_owned h (Step.no_node e) = h
  step_owned h (Step.no_desk at e) = h
  step_owned h (Step.no_such_job is) = h
  step_owned h (Step.no_packet e) = h
  step_owned h (Step.job at is does) = job_owned h at does
  step_owned h (Step.save at does) = save_owned h at does
  step_owned h (Step.publish at does) = publish_owned h at does
  step_owned h (Step.cancel at does) = cancel_owned h at does
  step_owned h (Step.restart at does) = restart_owned h at does
  step_owned h (Step.tell at does) = tell_owned h at does
  step_owned h (Step.deliver e at does) = delivery_owned h at does

  pub joins_owned : {number : ℕ} {k : Kept} {r : Reply} {a : World} → HaveOwn w → Joins w number k r a → HaveOwn a
  joins_owned h (Joins.there at) = h
  joins_owned h (Joins.not_opened free why) = h
  joins_owned h (Joins.clash free is left least) = h
  joins_owned h (Joins.impostor free is left none least) = h
  joins_owned {number} {k} h (Joins.joins free is left names no_clash no_stray) =
      put_own number _ _ h (runs tt (owning.opened_own w.desks k))

  restart_settled : {number : ℕ} {s : KeptNode} {keeps : Bool} {r : Reply} {a : World} → HaveOwn w → IsAt w number s
      → RestartAt w number s keeps r a → IsSettled (Restart number keeps) r
  restart_settled h at (RestartAt.booted does) = λ e. cc
  restart_settled {number} {s} h at (RestartAt.refused {fault} does) =
      λ e. restarts_other (h.each number s at) does (wrong e)
    where
      wrong : replies.Refused fault ≡ replies.Refused WrongNode → fault ≡ WrongNode
      wrong e = cc

  pub step_settled : {event : Event} {r : Reply} {a : World} → HaveOwn w → Step w event r a → IsSettled event r
  step_settled {event} h (Step.no_node e) = none event
    where
      none : (event : Event) → IsSettled event replies.NoSuch
      none (Restart number keeps) = λ e. cc
      none (Job number desk upto job) = tt
      none (Save number) = tt
      none (Publish number) = tt
      none (Cancel number) = tt
      none (Tell number) = tt
      none (Deliver packet number) = tt
  step_settled h (Step.no_desk at e) = tt
  step_settled h (Step.no_such_job is) = tt
  step_settled h (Step.no_packet e) = tt
  step_settled h (Step.job at is does) = tt
  step_settled h (Step.save at does) = tt
  step_settled h (Step.publish at does) = tt
  step_settled h (Step.cancel at does) = tt
  step_settled h (Step.restart at does) = restart_settled h at does
  step_settled h (Step.tell at does) = tt
  step_settled h (Step.deliver e at does) = tt

pub run_settled : (w : World) (events : List Event) (rs : List Reply) (a : World) → HaveOwn w → Run w events rs a
    → AreSettled events rs
run_settled w [] [] a h run = tt
run_settled w [] (r ∷ rs) a h run = absurd run
run_settled w (event ∷ events) [] a h run = absurd run
run_settled w (event ∷ events) (r ∷ rs) a h run =
    (step_settled h run.1, run_settled run.0 events rs a (step_owned h run.1) run.2)
