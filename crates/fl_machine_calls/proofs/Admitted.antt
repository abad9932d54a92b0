-- How much is noted of a job that was admitted: who asks stands there, and what is tuned is open.
use Rattle.std.proofs.Common.{◌≡◌, ◌∙◌, refl, sym, ap, subst, ℕ, Bool, true, false, inl, inr}
use Rattle.std.proofs.Common.{Option, Some, Ok, Err, [], ◌∷◌, length, cond, not}
use Rattle.fl_labels.specs.declared.cap.Cap.{Cap}
use Rattle.fl_labels.specs.declared.endpoint.Endpoint.{Endpoint}
use Rattle.fl_labels.specs.declared.name.Name.{Name}
use Rattle.fl_labels.specs.declared.pid.Pid.{Pid}
use Rattle.fl_ops.specs.Registry.{Registry}
use Rattle.fl_ops.specs.declared.op.Body.{Body}
use Rattle.fl_mailbox.specs.Mailbox.{closed}
use Rattle.fl_mailbox.specs.declared.mailbox.Mailbox.{Mailbox}
use Rattle.fl_message.specs.declared.message.Data.{Data}
use Rattle.fl_jobs.specs.declared.answer.Outcome.{Outcome}
use Rattle.fl_jobs.specs.declared.answer.Outcome.TheVariants as outcome
use Rattle.fl_jobs.specs.declared.answer.Reply.{Reply}
use Rattle.fl_jobs.specs.declared.answer.Reply.TheVariants.{Yes, NotYet}
use Rattle.fl_jobs.specs.declared.job.Act.{Act}
use Rattle.fl_jobs.specs.declared.job.Act.TheVariants.{Order, Relabel, Ask, Spawn, Exit}
use Rattle.fl_jobs.specs.declared.job.Act.TheVariants.{Drop, Enter, Emit, Mail}
use Rattle.fl_jobs.specs.declared.job.GivenLabels.{GivenLabels}
use Rattle.fl_jobs.specs.declared.job.Job.{Job}
use Rattle.fl_jobs.specs.declared.job.Job.TheVariants.{Proc, By, Member, Arrive}
use Rattle.fl_jobs.specs.declared.job.Mail.{Mail as AnyMail}
use Rattle.fl_jobs.specs.declared.job.Mail.TheVariants.{Open, Tune, Close, Send, Take}
use Rattle.fl_bench.specs.Bench.{BenchState}
use Rattle.fl_bench.specs.Jobs.{Answers, Does, Effect, Performs}
use Rattle.fl_bench.specs.Mailbox.{MailDoes}
use Rattle.fl_bench.specs.Process.{newborn, takes_nothing}
use Rattle.fl_bench.specs.declared.process.Process.{Process}
use Rattle.fl_audit.specs.Noted.{act_noted, asker_noted, mail_noted}
use Rattle.fl_notes.specs.Working.{is_tuning}
use Rattle.fl_system.specs.Audit.{act_entries, entries, entries_by, if_yes, mail_entries, party}
use Rattle.fl_system.specs.Jobs.{Decides, Jobs, place_of}
use Rattle.fl_system.specs.Numbered.{item_at}
use Rattle.fl_system.specs.Processes.{process_at, process_of}
use Rattle.fl_system.specs.State.{NodeState, first_ops}
use Rattle.fl_system.specs.declared.admission.Admission.{Admission}
use Rattle.fl_system.specs.declared.answer.Answer.{Answer}
use Rattle.fl_system.specs.declared.answer.Answer.TheVariants as answers
use Rattle.fl_machine_calls.specs.Counting.{IsNotedSo, counted}

-- ---- the answer of a node, by what its bench did

data Answered : Outcome → Answer → Type 0 where
  replied : {reply : Reply} → Answered (outcome.Reply reply) (answers.Reply reply)
  sent : {d : Data} → Answered (outcome.Out d) (answers.Out d)
  begun : {body : Body} {pid : Pid} {name : Name}
      → Answered (outcome.Order body pid) (answers.Begun name)

reply_of : {reply : Reply} {a : Answer} → Answered (outcome.Reply reply) a
    → a ≡ answers.Reply reply
reply_of Answered.replied = refl

out_of : {d : Data} {a : Answer} → Answered (outcome.Out d) a → a ≡ answers.Out d
out_of Answered.sent = refl

begun_of : {body : Body} {pid : Pid} {a : Answer} → Answered (outcome.Order body pid) a
    → (name : Name) × (a ≡ answers.Begun name)
begun_of (Answered.begun {name = name}) = (name, refl)

module _ {o : Outcome} {a : Answer} (h : Answered o a) where
  -- it is answered that
  replies : (reply : Reply) → o ≡ outcome.Reply reply → a ≡ answers.Reply reply
  replies reply e = reply_of (subst (λ x. Answered x a) e h)

  sends : (d : Data) → o ≡ outcome.Out d → a ≡ answers.Out d
  sends d e = out_of (subst (λ x. Answered x a) e h)

  begins : (body : Body) (pid : Pid) → o ≡ outcome.Order body pid
      → (name : Name) × (a ≡ answers.Begun name)
  begins body pid e = begun_of (subst (λ x. Answered x a) e h)

  -- a question is noted where it is answered yes
  question_counted : (P : Type 0) (entry : Admission) → Answers o P
      → length (if_yes a entry) ≡ counted true a
  question_counted P entry (inl said) =
      subst (λ x. length (if_yes x entry) ≡ counted true x) (sym (replies Yes said.0)) refl
  question_counted P entry (inr said) =
      subst (λ x. length (if_yes x entry) ≡ counted true x) (sym (replies NotYet said.0)) refl

-- ---- by the act

order_counted : (nothing : Bool) (entry : Admission) (name : Name)
    → length (cond nothing [] (entry ∷ [])) ≡ counted (not nothing) (answers.Begun name)
order_counted true entry name = refl
order_counted false entry name = refl

module _ (pid : Pid) (p : Process) {o : Outcome} {a : Answer} (h : Answered o a) where
  -- what is tuned is open
  tuned_counted : (e : Endpoint) (given : GivenLabels) (ch : Mailbox)
      → MailDoes pid p.mailbox (Tune e given) o ch
      → length (mail_entries (party pid p) p.mailbox (Tune e given)) ≡ counted true a
  tuned_counted e given ch does = rw (does.3, does.1, replies h _ does.4) refl

  mail_counted : (mail : AnyMail) (ch : Mailbox) → is_tuning (By pid (Mail mail)) ≡ false
      → MailDoes pid p.mailbox mail o ch
      → length (mail_entries (party pid p) p.mailbox mail) ≡ counted (mail_noted closed mail) a
  mail_counted (Open mode given) ch other does = rw (does.1, replies h _ does.4) refl
  mail_counted (Tune e given) ch other does = absurd (cc)
  mail_counted (Close e) ch other does = refl
  mail_counted (Send from receiver to message) ch other does = rw (sends h _ does.4) refl
  mail_counted Take ch other does = refl

  act_counted : (V : Registry) (b b' : BenchState) (act : Act) → is_tuning (By pid act) ≡ false
      → Performs V b pid p act o b'
      → length (act_entries pid p act a) ≡ counted (act_noted newborn act) a
  act_counted V b b' (Order order) other does =
      let named = begins h _ _ does.0 in
      rw named.1 (order_counted (takes_nothing order) _ named.0)
  act_counted V b b' (Relabel side (Err e)) other does = absurd does
  act_counted V b b' (Relabel side (Ok label)) other does = rw (replies h _ does.0) refl
  act_counted V b b' (Ask c) other does = question_counted h _ _ does.0
  act_counted V b b' (Spawn caps) other does = rw (replies h _ does.2) refl
  act_counted V b b' Exit other does = refl
  act_counted V b b' (Drop c) other does = refl
  act_counted V b b' (Enter login secret) other does = rw (replies h _ does.2) refl
  act_counted V b b' (Emit bytes) other does = rw (replies h _ does.0) refl
  act_counted V b b' (Mail mail) other does = mail_counted mail does.0 other does.1

-- ---- by the job

-- the bench of the job did it, which the node answers so
record IsDone (n : NodeState) (job : Job) (a : Answer) : Type 1 where
  pub V : Registry
  pub bench : BenchState
  pub left : BenchState
  pub does : Outcome
  pub stands : item_at n.benches (place_of n job) ≡ Some bench
  pub effect : Effect V bench job does left
  pub answered : Answered does a

effect_of : {V : Registry} {b b' : BenchState} {job : Job} {o : Outcome}
    → Does V b job (Ok o) b' → Effect V b job o b'
effect_of (Does.passed checks effect) = effect

done_by : {n : NodeState} {v : ℕ} {job : Job} {o : Outcome} {left : BenchState} {a : Answer}
    → Decides n v job (Ok o) left → Answered o a → IsDone n job a
done_by {n} {v} {left = left} d h =
    record {
      V = first_ops v n.published;
      bench = d.bench;
      left = left;
      does = _;
      stands = d.stands;
      effect = effect_of d.does;
      answered = h;
    }

is_done : {n n' : NodeState} {desk upto : ℕ} {job : Job} {a : Answer}
    → Jobs n desk upto job (Ok a) n' → IsDone n job a
is_done (Jobs.replied look decides) = done_by decides Answered.replied
is_done (Jobs.sent look decides) = done_by decides Answered.sent
is_done (Jobs.begun look decides name) = done_by decides Answered.begun

module _ (n : NodeState) (pid : Pid) (act : Act) (a : Answer) (d : IsDone n (By pid act) a) where
  -- who asks stands at the bench
  asks : process_of n pid ≡ Some d.effect.0
  asks = ap (λ (b : Option BenchState). process_at b pid) d.stands ∙ d.effect.1

  by_counted : is_tuning (By pid act) ≡ false
      → length (entries n (By pid act) a) ≡ counted (act_noted newborn act) a
  by_counted other =
      subst (λ x. length (entries_by x pid act a) ≡ counted (act_noted newborn act) a) (sym asks)
      (act_counted pid d.effect.0 d.answered d.V d.bench d.left act other d.effect.2)

tuning_counted : (n : NodeState) (pid : Pid) (e : Endpoint) (given : GivenLabels) (a : Answer)
    → IsDone n (By pid (Mail (Tune e given))) a
    → length (entries n (By pid (Mail (Tune e given))) a) ≡ counted true a
tuning_counted n pid e given a d =
    subst (λ x. length (entries_by x pid (Mail (Tune e given)) a) ≡ counted true a)
    (sym (asks n pid (Mail (Tune e given)) a d))
    (tuned_counted pid d.effect.0 d.answered e given d.effect.2.0 d.effect.2.1)

pub member_noted : (root c : Cap) → IsNotedSo (Member root c) true
member_noted root c = record {
  each = λ n n' desk upto a does. let d = is_done does in question_counted d.answered _ _ d.effect.0;
}

pub tuning_noted : (job : Job) → is_tuning job ≡ true → IsNotedSo job true
tuning_noted (By pid (Mail (Tune e given))) is = record {
  each = λ n n' desk upto a does. tuning_counted n pid e given a (is_done does);
}
tuning_noted other is = absurd (cc)

pub other_noted : (job : Job) → is_tuning job ≡ false
    → ((root c : Cap) → job ≡ Member root c → ⊥)
    → (noted : Bool) → noted ≡ asker_noted (Some newborn) job → IsNotedSo job noted
other_noted job other no_member noted is = subst (IsNotedSo job) (sym is) (by_job job other no_member)
  where
    by_job : (job : Job) → is_tuning job ≡ false → ((root c : Cap) → job ≡ Member root c → ⊥)
        → IsNotedSo job (asker_noted (Some newborn) job)
    by_job Proc other no_member = record { each = λ n n' desk upto a does. refl }
    by_job (By pid act) other no_member = record {
      each = λ n n' desk upto a does. by_counted n pid act a (is_done does) other;
    }
    by_job (Member root c) other no_member = absurd (no_member root c refl)
    by_job (Arrive d) other no_member = record { each = λ n n' desk upto a does. refl }
