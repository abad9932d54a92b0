-- An event of a world has one outcome.
use Rattle.std.proofs.Common.{◌≡◌, ◌≢◌, ◌⊎◌, ◌∙◌, inl, inr, ℕ, Bool, [], ◌∷◌, refl, sym, ap, subst, None, Some, Result, Ok, Err}
use Rattle.std.specs.FinMap as map
use Rattle.fl_jobs.specs.declared.job.Job.{Job as AnyJob}
use Rattle.fl_jobs.specs.declared.answer.Refusal.TheVariants.{Memory}
use Rattle.fl_bench.specs.laws.Puts.{none_some, same_found}
use Rattle.fl_system.specs.declared.answer.Answer.{Answer}
use Rattle.fl_system.specs.declared.answer.Answer.TheVariants as answers
use Rattle.fl_system.specs.declared.answer.Fault.{Fault}
use Rattle.fl_system.specs.declared.answer.Fault.TheVariants.{Refused, KeeperFailed, WrongNode}
use Rattle.fl_system.specs.declared.event.Event.{Event}
use Rattle.fl_system.specs.declared.event.Event.TheVariants.{Job, Save, Publish, Cancel, Restart, Tell, Deliver}
use Rattle.fl_system.specs.declared.reply.Reply.{Reply}
use Rattle.fl_system.specs.declared.reply.Reply.TheVariants as replies
use Rattle.fl_system.specs.declared.sent.Sent.{Sent}
use Rattle.fl_labels.specs.SetBy as set
use Rattle.fl_ops.specs.declared.op.Op.{Op}
use Rattle.fl_system.specs.Numbered.{item_at}
use Rattle.fl_system.specs.State.{NodeState}
use Rattle.fl_system.specs.Waiting.{IsRunning}
use Rattle.fl_system.specs.Jobs.{Jobs}
use Rattle.fl_system.specs.Audit.{entries}
use Rattle.fl_system.specs.World.{World, KeptNode, went}
use Rattle.fl_system.specs.WorldJobs.{JobAt, next_packet, sent_message}
use Rattle.fl_system.specs.WorldCalls.{SaveAt, PublishAt, CancelAt, RestartAt}
use Rattle.fl_system.specs.Deliveries.{TellAt, DeliverAt}
use Rattle.fl_system.specs.WorldSteps.{IsAt, IsArrival, Step, node_of}
use Rattle.fl_one_laws.specs.Ample.{IsAmple, IsSettled, AreSameButBoot, HasDesk}
use Rattle.fl_one_laws.specs.laws.Benches.{one_job, no_view}
use Rattle.fl_one_laws.specs.laws.Calls.{one_save, one_publish, one_cancel}
use Rattle.fl_one_laws.specs.laws.Deliveries.{one_tell, one_delivery}
use Rattle.fl_one_laws.specs.laws.Restarts.{one_restart_at, others}

-- ---- a job

-- what the world answers where its node has this result
abbrev job_reply : World → Result Answer Fault → Reply
job_reply w (Err fault) = replies.Refused fault
job_reply w (Ok (answers.Reply reply)) = replies.Job reply
job_reply w (Ok (answers.Begun name)) = replies.Begun name
job_reply w (Ok (answers.Out d)) = replies.Sent (next_packet w) 1

-- and what it is then
abbrev job_after : World → ℕ → KeptNode → AnyJob → Result Answer Fault → NodeState → World
job_after w number s job (Err fault) n = went w number n s.kept [] []
job_after w number s job (Ok (answers.Reply reply)) n =
    went w number n s.kept [] (entries s.node job (answers.Reply reply))
job_after w number s job (Ok (answers.Begun name)) n =
    went w number n s.kept [] (entries s.node job (answers.Begun name))
job_after w number s job (Ok (answers.Out d)) n =
    went w number n s.kept (sent_message number s.node d ∷ []) (entries s.node job (answers.Out d))

record Judged (w : World) (number : ℕ) (s : KeptNode) (desk upto : ℕ) (job : AnyJob) (r : Reply) (a : World)
    : Type 0 where
  result : Result Answer Fault
  after : NodeState
  does : Jobs s.node desk upto job result after
  says : r ≡ job_reply w result
  leaves : a ≡ job_after w number s job result after

module _ {w : World} {number : ℕ} {s : KeptNode} {desk upto : ℕ} {job : AnyJob} where
  judged : {r : Reply} {a : World} → JobAt w number s desk upto job r a → IsAmple r
      → Judged w number s desk upto job r a
  judged (JobAt.refused {fault} {n} does) p =
      record { result = Err fault; after = n; does = does; says = refl; leaves = refl }
  judged (JobAt.replied {reply} {n} does) p =
      record { result = Ok (answers.Reply reply); after = n; does = does; says = refl; leaves = refl }
  judged (JobAt.begun {name} {n} does) p =
      record { result = Ok (answers.Begun name); after = n; does = does; says = refl; leaves = refl }
  judged (JobAt.sends {d} {n} does) p =
      record { result = Ok (answers.Out d); after = n; does = does; says = refl; leaves = refl }
  judged (JobAt.no_room look seen noted) p = absurd (p.memory refl)

  ample_job : {r : Reply} {a : World} (j : Judged w number s desk upto job r a) → IsAmple r
      → j.result ≢ Err (Refused Memory)
  ample_job j p e = p.memory (j.says ∙ ap (job_reply w) e)

  one_job_at : {r r' : Reply} {a b : World} → JobAt w number s desk upto job r a
      → JobAt w number s desk upto job r' b → IsAmple r → IsAmple r' → (r ≡ r') × (a ≡ b)
  one_job_at h k p q =
      let x = judged h p in
      let y = judged k q in
      let one = one_job x.does y.does (ample_job x p) (ample_job y q) in (
        x.says ∙ ap (job_reply w) one.0 ∙ sym y.says,
        x.leaves ∙ (λ i. job_after w number s job (one.0 i) (one.1 i)) ∙ sym y.leaves,
      )

  -- a job is done at a desk that is there
  no_desk_at : {r : Reply} {a : World} → JobAt w number s desk upto job r a → IsAmple r
      → IsRunning s.node.state ⊎ (item_at s.node.views desk ≢ None) → item_at s.node.views desk ≡ None → ⊥
  no_desk_at h p (inl runs) none = no_view (judged h p).does runs none
  no_desk_at h p (inr there) none = there none

-- ---- the calls

ample_memory : {A : Type 0} (fault : Fault) → IsAmple (replies.Refused fault)
    → ◌≢◌ {A = Result A Fault} (Err fault) (Err (Refused Memory))
ample_memory fault p e = p.memory (cc)

ample_keeper : {A : Type 0} (fault : Fault) → IsAmple (replies.Refused fault)
    → ◌≢◌ {A = Result A Fault} (Err fault) (Err KeeperFailed)
ample_keeper fault p e = p.keeper (cc)

fine : {A : Type 0} {x : A} {fault : Fault} → ◌≢◌ {A = Result A Fault} (Ok x) (Err fault)
fine e = cc

module _ {w : World} {number : ℕ} {s : KeptNode} where
  one_save_at : {r r' : Reply} {a b : World} → SaveAt w number s r a → SaveAt w number s r' b → IsAmple r → IsAmple r'
      → (r ≡ r') × (a ≡ b)
  one_save_at (SaveAt.saved h) (SaveAt.saved k) p q =
      let one = one_save h k fine fine fine fine in (refl, λ i. went w number (one.1 i) (one.2 i) [] [])
  one_save_at (SaveAt.saved h) (SaveAt.refused {fault} k) p q =
      let said = (one_save h k fine fine (ample_memory fault q) (ample_keeper fault q)).0 in absurd (cc)
  one_save_at (SaveAt.refused {fault} h) (SaveAt.saved k) p q =
      let said = (one_save h k (ample_memory fault p) (ample_keeper fault p) fine fine).0 in absurd (cc)
  one_save_at (SaveAt.refused {fault} h) (SaveAt.refused {fault = other} k) p q =
      let one = one_save h k (ample_memory fault p) (ample_keeper fault p) (ample_memory other q) (ample_keeper other q)
      in
      let said = one.0 in
      let same : fault ≡ other = cc in
      (ap replies.Refused same, λ i. went w number (one.1 i) (one.2 i) [] [])

  one_publish_at : {r r' : Reply} {a b : World} → PublishAt w number s r a → PublishAt w number s r' b → IsAmple r
      → IsAmple r' → (r ≡ r') × (a ≡ b)
  one_publish_at (PublishAt.ordered {op} e h) (PublishAt.ordered {op = other} f k) p q =
      let same : op ≡ other = cc in (
        ap (λ (o : Op). replies.Published o.name) same,
        ap (λ n. went w number n s.kept [] []) (one_publish h k fine fine).1,
      )
  one_publish_at (PublishAt.ordered e h) (PublishAt.received f k) p q = absurd (cc)
  one_publish_at (PublishAt.received e h) (PublishAt.ordered f k) p q = absurd (cc)
  one_publish_at (PublishAt.received {ops} e h) (PublishAt.received {ops = others} f k) p q =
      let same : ops ≡ others = cc in (
        ap (λ o. replies.Took (set.len o)) same,
        ap (λ n. went w number n s.kept [] []) (one_publish h k fine fine).1,
      )
  one_publish_at (PublishAt.ordered e h) (PublishAt.refused {fault} k) p q =
      let said = (one_publish h k fine (ample_memory fault q)).0 in absurd (cc)
  one_publish_at (PublishAt.received e h) (PublishAt.refused {fault} k) p q =
      let said = (one_publish h k fine (ample_memory fault q)).0 in absurd (cc)
  one_publish_at (PublishAt.refused {fault} h) (PublishAt.ordered e k) p q =
      let said = (one_publish h k (ample_memory fault p) fine).0 in absurd (cc)
  one_publish_at (PublishAt.refused {fault} h) (PublishAt.received e k) p q =
      let said = (one_publish h k (ample_memory fault p) fine).0 in absurd (cc)
  one_publish_at (PublishAt.refused {fault} h) (PublishAt.refused {fault = other} k) p q =
      let one = one_publish h k (ample_memory fault p) (ample_memory other q) in
      let said = one.0 in
      let same : fault ≡ other = cc in
      (ap replies.Refused same, ap (λ n. went w number n s.kept [] []) one.1)

  one_cancel_at : {r r' : Reply} {a b : World} → CancelAt w number s r a → CancelAt w number s r' b
      → (r ≡ r') × (a ≡ b)
  one_cancel_at (CancelAt.given_up h) (CancelAt.given_up k) =
      (refl, ap (λ n. went w number n s.kept [] []) (one_cancel h k).1)
  one_cancel_at (CancelAt.given_up h) (CancelAt.refused k) = let said = (one_cancel h k).0 in absurd (cc)
  one_cancel_at (CancelAt.refused h) (CancelAt.given_up k) = let said = (one_cancel h k).0 in absurd (cc)
  one_cancel_at (CancelAt.refused {fault} h) (CancelAt.refused {fault = other} k) =
      let one = one_cancel h k in
      let said = one.0 in
      let same : fault ≡ other = cc in
      (ap replies.Refused same, ap (λ n. went w number n s.kept [] []) one.1)

-- ---- what is named is there, or not

-- the desk, the kind of job or the packet that is named is not there
abbrev IsUnfit : World → Event → Type 0
IsUnfit w (Job number desk upto job) =
    ((s : KeptNode) × IsAt w number s × (item_at s.node.views desk ≡ None)) ⊎ IsArrival job
IsUnfit w (Save number) = ⊥
IsUnfit w (Publish number) = ⊥
IsUnfit w (Cancel number) = ⊥
IsUnfit w (Restart number keeps) = ⊥
IsUnfit w (Tell number) = ⊥
IsUnfit w (Deliver packet number) = item_at w.packets packet ≡ None

-- or no such node is
abbrev IsMissing : World → Event → Type 0
IsMissing w event = (map.get w.nodes (node_of event) ≡ None) ⊎ IsUnfit w event

-- the event is answered by this node
abbrev AnswersAt : World → KeptNode → Event → Reply → World → Type 0
AnswersAt w s (Job number desk upto job) r a = (¬ IsArrival job) × JobAt w number s desk upto job r a
AnswersAt w s (Save number) r a = SaveAt w number s r a
AnswersAt w s (Publish number) r a = PublishAt w number s r a
AnswersAt w s (Cancel number) r a = CancelAt w number s r a
AnswersAt w s (Restart number keeps) r a = RestartAt w number s keeps r a
AnswersAt w s (Tell number) r a = TellAt w number s r a
AnswersAt w s (Deliver packet number) r a =
    (sent : Sent) × (item_at w.packets packet ≡ Some sent) × DeliverAt w number s sent r a

data Sees (w : World) (event : Event) (r : Reply) (a : World) : Type 0 where
  misses : IsMissing w event → r ≡ replies.NoSuch → a ≡ w → Sees w event r a
  finds : (s : KeptNode) → IsAt w (node_of event) s → AnswersAt w s event r a → Sees w event r a

module _ (w : World) where
  sees : {event : Event} {r : Reply} {a : World} → Step w event r a → Sees w event r a
  sees (Step.no_node e) = misses (inl e) refl refl
  sees (Step.no_desk {s = s} at e) = misses (inr (inl (s, at, e))) refl refl
  sees (Step.no_such_job is) = misses (inr (inr is)) refl refl
  sees (Step.no_packet e) = misses (inr e) refl refl
  sees (Step.job {s = s} at is h) = finds s at (is, h)
  sees (Step.save {s = s} at h) = finds s at h
  sees (Step.publish {s = s} at h) = finds s at h
  sees (Step.cancel {s = s} at h) = finds s at h
  sees (Step.restart {s = s} at h) = finds s at h
  sees (Step.tell {s = s} at h) = finds s at h
  sees (Step.deliver {s = s} {sent = sent} e at h) = finds s at (sent, e, h)

  not_unfit : (event : Event) (s : KeptNode) (r : Reply) (a : World) → HasDesk w event → IsAmple r
      → IsAt w (node_of event) s → AnswersAt w s event r a → IsUnfit w event → ⊥
  not_unfit (Job number desk upto job) s r a has p at (is, h) (inl (t, at', none)) =
      no_desk_at h p (has s at)
      (subst (λ (x : KeptNode). item_at x.node.views desk ≡ None) (same_found at' at) none)
  not_unfit (Job number desk upto job) s r a has p at (is, h) (inr arrives) = is arrives
  not_unfit (Save number) s r a has p at h unfit = unfit
  not_unfit (Publish number) s r a has p at h unfit = unfit
  not_unfit (Cancel number) s r a has p at h unfit = unfit
  not_unfit (Restart number keeps) s r a has p at h unfit = unfit
  not_unfit (Tell number) s r a has p at h unfit = unfit
  not_unfit (Deliver packet number) s r a has p at (sent, e, h) none = none_some none e

  not_missing : (event : Event) (s : KeptNode) (r : Reply) (a : World) → HasDesk w event → IsAmple r
      → IsAt w (node_of event) s → AnswersAt w s event r a → IsMissing w event → ⊥
  not_missing event s r a has p at h (inl none) = none_some none at
  not_missing event s r a has p at h (inr unfit) = not_unfit event s r a has p at h unfit

  -- one answer and one world
  one_end : {P : Type 0} {r r' : Reply} {a b : World} → (r ≡ r') × (a ≡ b) → (r ≡ r') × (P → a ≡ b)
  one_end one = (one.0, λ settled. one.1)

  one_answering : (event : Event) (s : KeptNode) (r r' : Reply) (a b : World) → AnswersAt w s event r a
      → AnswersAt w s event r' b → IsAmple r → IsAmple r' → (r ≡ r') × (IsSettled event r → a ≡ b)
  one_answering (Job number desk upto job) s r r' a b h k p q = one_end (one_job_at h.1 k.1 p q)
  one_answering (Save number) s r r' a b h k p q = one_end (one_save_at h k p q)
  one_answering (Publish number) s r r' a b h k p q = one_end (one_publish_at h k p q)
  one_answering (Cancel number) s r r' a b h k p q = one_end (one_cancel_at h k)
  one_answering (Restart number keeps) s r r' a b h k p q =
      let one = one_restart_at keeps h k p q in (one.says, one.settled)
  one_answering (Tell number) s r r' a b h k p q = one_end (one_tell w number s h k p q)
  one_answering (Deliver packet number) s r r' a b h k p q =
      let same : k.0 ≡ h.0 = same_found k.1 h.1 in
      one_end (one_delivery w number s h.2 (subst (λ sent. DeliverAt w number s sent r' b) same k.2) p q)

  pub one_step : (event : Event) (r r' : Reply) (a b : World) → Step w event r a → Step w event r' b → IsAmple r
      → IsAmple r' → HasDesk w event → (r ≡ r') × (IsSettled event r → a ≡ b)
  one_step event r r' a b h k p q desk = both (sees h) (sees k)
    where
      both : Sees w event r a → Sees w event r' b → (r ≡ r') × (IsSettled event r → a ≡ b)
      both (misses none says leaves) (misses none' says' leaves') =
          one_end (says ∙ sym says', leaves ∙ sym leaves')
      both (misses none says leaves) (finds s at does) = absurd (not_missing event s r' b desk q at does none)
      both (finds s at does) (misses none says leaves) = absurd (not_missing event s r a desk p at does none)
      both (finds s at does) (finds t at' does') =
          one_answering event s r r' a b does
          (subst (λ x. AnswersAt w x event r' b) (same_found at' at) does') p q

  -- a restart that is refused as another node's
  pub refused_restart : (number : ℕ) (keeps : Bool) (a b : World)
      → Step w (Restart number keeps) (replies.Refused WrongNode) a
      → Step w (Restart number keeps) (replies.Refused WrongNode) b → AreSameButBoot w number a b
  refused_restart number keeps a b (Step.restart at h) (Step.restart at' k) =
      let same = same_found at' at in
      (one_restart_at keeps h (subst (λ x. RestartAt w number x keeps (replies.Refused WrongNode) b) same k) others
      others).kept
