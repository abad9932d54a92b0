-- A job at a node.
use Rattle.std.proofs.Common.{◌≡◌, ◌≤◌, ◌<◌, ◌++◌, ◌∙◌, refl, sym, ap, subst, ℕ, zero, suc, List, [], ◌∷◌, length, Option, Some, None, Result, Ok, Err, OnErr, arith, inl}
use Rattle.std.specs.Prelude.{min, max, IsSome, take, false, ◌≢◌}
use Rattle.std.specs.List.{Contains}
use Rattle.std.proofs.Math.Seq.{take-append_seam}
use Rattle.std.proofs.lemmas.Bool.{false≢true}
use Rattle.std.proofs.lemmas.List.{append-nil}
use Rattle.fl_labels.specs.declared.pid.Pid.{Pid}
use Rattle.fl_message.specs.declared.message.Data.{Data}
use Rattle.fl_wire.specs.declared.packet.Packet.TheVariants as packet
use Rattle.fl_jobs.specs.declared.job.Act.{Act}
use Rattle.fl_jobs.specs.declared.job.Act.TheVariants.{Order, Relabel, Ask, Spawn, Exit, Drop, Enter, Emit, Mail}
use Rattle.fl_jobs.specs.declared.job.Mail as mails
use Rattle.fl_jobs.specs.declared.job.Mail.TheVariants.{Open, Tune, Close, Send, Take}
use Rattle.fl_jobs.specs.declared.job.Job.{Job}
use Rattle.fl_jobs.specs.declared.job.Job.TheVariants.{Proc, By, Member, Arrive}
use Rattle.fl_jobs.specs.declared.answer.Refusal.TheVariants.{Memory}
use Rattle.fl_jobs.specs.declared.answer.Reply.TheVariants as replies
use Rattle.fl_bench.specs.Process.{newborn}
use Rattle.fl_bench.specs.declared.process.Process.{Process}
use Rattle.fl_bench.specs.laws.Orders.{sending_at}
use Rattle.fl_system.specs.declared.admission.Admission.{Admission}
use Rattle.fl_system.specs.declared.admission.Admission.TheVariants.{Grant}
use Rattle.fl_system.specs.declared.admission.Party.{Party}
use Rattle.fl_system.specs.declared.answer.Answer.{Answer}
use Rattle.fl_system.specs.declared.answer.Answer.TheVariants as answers
use Rattle.fl_system.specs.declared.answer.Fault.{Fault}
use Rattle.fl_system.specs.declared.answer.Fault.TheVariants as faults
use Rattle.fl_system.specs.declared.reply.Reply.{Reply}
use Rattle.fl_system.specs.declared.reply.Reply.TheVariants as reply
use Rattle.fl_system.specs.declared.sent.Sent.{Sent}
use Rattle.fl_system.specs.declared.state.Batch.{Batch}
use Rattle.fl_system.specs.declared.state.State.{State}
use Rattle.fl_system.specs.declared.state.State.TheVariants.{Running, Stopped}
use Rattle.fl_system.specs.Audit.{party, entries, entries_by}
use Rattle.fl_system.specs.Jobs.{Jobs, Looks, place_of}
use Rattle.fl_system.specs.Numbered.{item_at, with_item}
use Rattle.fl_system.specs.Processes.{process_of, process_at}
use Rattle.fl_system.specs.State.{NodeState}
use Rattle.fl_system.specs.Waiting.{IsRunning, NotRunning}
use Rattle.fl_system.specs.WorldJobs.{MayBeNoted, party_at, sent_message}
use Rattle.fl_audit.specs.Drafts.{asker_of, IsAskedAt, IsDrafted}
use Rattle.fl_audit.specs.Noted.{asker_noted}
use Rattle.fl_audit.specs.Senders.{sender_of}
use Rattle.fl_audit.specs.declared.draft.Draft.{Draft}
use Rattle.fl_node.specs.Desks.{IsDeskOf}
use Rattle.fl_machine_model.specs.Alone.{JobAlone}
use Rattle.fl_notes.specs.Working.{IsUnready, Shows, Worked, is_sending, is_tuning}

-- ---- what is shared

-- what is not noted of a new process is noted of none, unless an endpoint is tuned
pub untuned : (asker : Option Process) (job : Job) → is_tuning job ≡ false → asker_noted (Some newborn) job ≡ false → false ≡ asker_noted asker job
untuned None job other none = refl
untuned (Some p) Proc other none = refl
untuned (Some p) (Member root c) other none = refl
untuned (Some p) (Arrive d) other none = refl
untuned (Some p) (By pid (Mail (Tune endpoint given))) other none = absurd (false≢true (sym other))
untuned (Some p) (By pid (Mail (Open mode given))) other none = sym none
untuned (Some p) (By pid (Mail (Close endpoint))) other none = sym none
untuned (Some p) (By pid (Mail (Send from receiver to message))) other none = sym none
untuned (Some p) (By pid (Mail Take)) other none = sym none
untuned (Some p) (By pid (Order order)) other none = sym none
untuned (Some p) (By pid (Relabel side (Ok label))) other none = sym none
untuned (Some p) (By pid (Relabel side (Err long))) other none = sym none
untuned (Some p) (By pid (Ask c)) other none = sym none
untuned (Some p) (By pid (Spawn caps)) other none = sym none
untuned (Some p) (By pid Exit) other none = sym none
untuned (Some p) (By pid (Drop c)) other none = sym none
untuned (Some p) (By pid (Enter login secret)) other none = sym none
untuned (Some p) (By pid (Emit bytes)) other none = sym none

-- the process that asks is there, so what any may have noted may be noted
pub any_noted : {T E : Type 0} (r : Result T E) (n : NodeState) (job : Job) (pid : Pid) (act : Act) → job ≡ By pid act
    → ((number boot : ℕ) (p : Process) (m : NodeState) → IsAskedAt number boot (Some p) job m → MayBeNoted m job)
    → OnErr r (IsSome (process_of n pid)) → OnErr r (MayBeNoted n job)
any_noted (Ok shared) n job pid act is may there = tt
any_noted (Err fault) n job pid act is may there = by_process (process_of n pid) refl there
  where
    by_process : (o : Option Process) → process_of n pid ≡ o → IsSome o → MayBeNoted n job
    by_process None e h = absurd (false≢true h)
    by_process (Some p) e h =
        may n.number n.boot p n (record { number_is = refl; boot_is = refl; asker_is = ap (asker_of n) is ∙ e })

-- ---- drafts

taken : (before after entries : List Admission) (from : ℕ) → length before ≡ from → after ≡ before ++ entries → take from after ≡ before
taken before after entries from long is = (λ i. take (sym long i) (is i)) ∙ take-append_seam before entries

in_one : {A : Type 0} (x : A) → Contains (x ∷ []) x
in_one x = (0, omega arith, refl)

-- what was noted of a job can be taken back
pub take_back : (before after : List Admission) (noted : Answer → List Admission) (draft : Draft) (from : ℕ) → length before ≡ from
    → IsDrafted before after noted draft → take from after ≡ before
take_back before after noted draft from long (IsDrafted.always entries is all) = taken before after entries from long is
take_back before after noted draft from long (IsDrafted.on_yes entry is all) = taken before after _ from long is
take_back before after noted draft from long (IsDrafted.on_entry p login c secret is all) = taken before after _ from long is

-- ---- a desk

record HasView (views : List ℕ) (desk : ℕ) : Type 0 where
  seen : ℕ
  at : item_at views desk ≡ Some seen
  same : with_item views desk seen ≡ views

view_at : (views : List ℕ) (k : ℕ) → suc k ≤ length views → HasView views (suc k)
view_at [] k few = absurd (omega (arith, few))
view_at (x ∷ xs) zero few = record { seen = x; at = refl; same = refl }
view_at (x ∷ xs) (suc k) few =
    let rest = view_at xs k (omega (arith, few)) in
    record { seen = rest.seen; at = rest.at; same = ap (λ ys. x ∷ ys) rest.same }

has_view : (n : NodeState) (desk : ℕ) → IsDeskOf n desk → HasView n.views desk
has_view n zero is = absurd (omega (arith, is.first))
has_view n (suc k) is = view_at n.views k is.last

-- ---- who sends

record IsSentBy (n : NodeState) (job : Job) (d : Data) : Type 0 where
  process : Process
  stands : process_of n d.sender ≡ Some process
  asked : job ≡ By d.sender (Mail (Send d.from d.receiver d.to d.message))

sent_by : (n : NodeState) (desk upto : ℕ) (job : Job) (d : Data) (n' : NodeState) → Jobs n desk upto job (Ok (answers.Out d)) n' → IsSentBy n job d
sent_by n desk upto job d n' (Jobs.sent look did) =
    let s = sending_at did.does in
    record {
      process = s.process;
      stands = ap (λ o. process_at o d.sender) (ap (λ j. item_at n.benches (place_of n j)) (sym s.asked) ∙ did.stands) ∙ s.lived;
      asked = s.asked;
    }

sender_is : (n : NodeState) (desk upto : ℕ) (job : Job) (d : Data) (n' : NodeState) → Jobs n desk upto job (Ok (answers.Out d)) n'
    → sender_of (asker_of n job) job ≡ party_at d.sender (process_of n d.sender)
sender_is n desk upto job d n' did = ap (λ j. sender_of (asker_of n j) j) (sent_by n desk upto job d n' did).asked

-- a job that sends nothing has no message for an answer
pub sends_none : (n : NodeState) (desk upto : ℕ) (job : Job) (a : Answer) (n' : NodeState) → is_sending job ≡ false
    → Jobs n desk upto job (Ok a) n' → (d : Data) → a ≢ answers.Out d
sends_none n desk upto job a n' none did d is =
    let s = sent_by n desk upto job d n' (subst (λ x. Jobs n desk upto job (Ok x) n') is did) in
    false≢true (sym none ∙ ap is_sending s.asked)

-- who sends a message is there, so that there is room for it
pub sends_in_room : (n : NodeState) (desk upto : ℕ) (job : Job) (d : Data) (n' : NodeState) (sender : Option Party) (len capacity : ℕ)
    → Jobs n desk upto job (Ok (answers.Out d)) n' → sender ≡ sender_of (asker_of n job) job
    → (IsSome sender → len < capacity) → len < capacity
sends_in_room n desk upto job d n' sender len capacity did known room =
    let s = sent_by n desk upto job d n' did in
    room (subst IsSome (sym (known ∙ sender_is n desk upto job d n' did ∙ ap (party_at d.sender) s.stands)) refl)

-- who would send is noted
granted_by : (n : NodeState) (pid : Pid) (mail : mails.Mail) (o : Option Process) → process_of n pid ≡ o → IsSome (sender_of o (By pid (Mail mail)))
    → MayBeNoted n (By pid (Mail mail))
granted_by n pid (Send from receiver to message) None e h = absurd (cc)
granted_by n pid (Send from receiver to message) (Some p) e h = record {
  answer = answers.Reply replies.Done;
  entry = Grant (party pid p) message.caps;
  noted = subst (λ o. Contains (entries_by o pid (Mail (Send from receiver to message)) (answers.Reply replies.Done)) (Grant (party pid p) message.caps))
      (sym e) (in_one _);
}
granted_by n pid (Open mode labels) o e h = absurd (cc)
granted_by n pid (Tune endpoint labels) o e h = absurd (cc)
granted_by n pid (Close endpoint) o e h = absurd (cc)
granted_by n pid Take o e h = absurd (cc)

sender_noted_by : (n : NodeState) (pid : Pid) (act : Act) → IsSome (sender_of (process_of n pid) (By pid act)) → MayBeNoted n (By pid act)
sender_noted_by n pid (Mail mail) h = granted_by n pid mail (process_of n pid) refl h
sender_noted_by n pid (Order order) h = absurd (cc)
sender_noted_by n pid (Relabel side label) h = absurd (cc)
sender_noted_by n pid (Ask c) h = absurd (cc)
sender_noted_by n pid (Spawn caps) h = absurd (cc)
sender_noted_by n pid Exit h = absurd (cc)
sender_noted_by n pid (Drop c) h = absurd (cc)
sender_noted_by n pid (Enter login secret) h = absurd (cc)
sender_noted_by n pid (Emit bytes) h = absurd (cc)

pub sender_noted : (n : NodeState) (job : Job) → IsSome (sender_of (asker_of n job) job) → MayBeNoted n job
sender_noted n (By pid act) h = sender_noted_by n pid act h
sender_noted n Proc h = absurd (cc)
sender_noted n (Member root c) h = absurd (cc)
sender_noted n (Arrive d) h = absurd (cc)

-- ---- what comes of a job

pub is_running : (s : State) → ((doubt : Option Batch) → s ≡ Stopped doubt → ⊥) → IsRunning s
is_running (Running pending) h = tt
is_running (Stopped doubt) h = h doubt refl

pub not_running : (s : State) (doubt : Option Batch) → s ≡ Stopped doubt → NotRunning s faults.Stopped
not_running s doubt e = subst (λ s. NotRunning s faults.Stopped) (sym e) refl

module _ (number : ℕ) (n : NodeState) (desk upto : ℕ) (job : Job) (packets : List Sent) (audit : List Admission) where
  unsent : (packets_after : List Sent) (audit_after : List Admission) (result : Reply) (n' : NodeState) → packets_after ≡ packets → audit_after ≡ audit
      → JobAlone number n desk upto job (length packets) result n' [] [] → Worked number n desk upto job result n' packets packets_after audit audit_after
  unsent packets_after audit_after result n' same_packets same_audit works = record {
    sent = [];
    admitted = [];
    sent_is = same_packets ∙ sym (append-nil packets);
    admitted_is = same_audit ∙ sym (append-nil audit);
    works = works;
  }

  no_room : (packets_after : List Sent) (audit_after : List Admission) → packets_after ≡ packets → audit_after ≡ audit
      → IsRunning n.state → IsDeskOf n desk → MayBeNoted n job
      → Worked number n desk upto job (reply.Refused (faults.Refused Memory)) n packets packets_after audit audit_after
  no_room packets_after audit_after same_packets same_audit running is noted =
      let view = has_view n desk is in
      let look : Looks n desk upto (max view.seen (min upto (length n.published))) = record { running = running; seen = view.seen; has_seen = view.at; sees = refl } in
      unsent packets_after audit_after _ n same_packets same_audit
      (subst (λ (views : List ℕ). JobAlone number n desk upto job (length packets) (reply.Refused (faults.Refused Memory)) (record n { views = views }) [] [])
      view.same (JobAlone.no_room look (inl refl) noted))

  pub unready : (packets_after : List Sent) (audit_after : List Admission) (fault : Fault) → packets_after ≡ packets → audit_after ≡ audit
      → IsDeskOf n desk → IsUnready n job fault
      → Worked number n desk upto job (reply.Refused fault) n packets packets_after audit audit_after
  unready packets_after audit_after fault same_packets same_audit is (IsUnready.stopped h) =
      unsent packets_after audit_after _ n same_packets same_audit (JobAlone.refused (Jobs.stopped h))
  unready packets_after audit_after fault same_packets same_audit is (IsUnready.no_room running noted) =
      no_room packets_after audit_after same_packets same_audit running is noted

  pub not_done : (packets_after : List Sent) (audit_after : List Admission) (fault : Fault) (n' : NodeState) → packets_after ≡ packets → audit_after ≡ audit
      → Jobs n desk upto job (Err fault) n' → Worked number n desk upto job (reply.Refused fault) n' packets packets_after audit audit_after
  not_done packets_after audit_after fault n' same_packets same_audit h = unsent packets_after audit_after _ n' same_packets same_audit (JobAlone.refused h)

  pub done : (packets_room packets_after : List Sent) (audit_after : List Admission) (a : Answer) (n' : NodeState) (result : Reply) (sender : Option Party)
      → packets_room ≡ packets → Jobs n desk upto job (Ok a) n' → sender ≡ sender_of (asker_of n job) job
      → audit_after ≡ audit ++ entries n job a → Shows number sender packets_room a result packets_after
      → Worked number n desk upto job result n' packets packets_after audit audit_after
  done packets_room packets_after audit_after (answers.Reply r) n' result sender same did known noted shown =
      subst (λ x. Worked number n desk upto job x n' packets packets_after audit audit_after) (sym shown.0) (record {
        sent = [];
        admitted = entries n job (answers.Reply r);
        sent_is = shown.1 ∙ same ∙ sym (append-nil packets);
        admitted_is = noted;
        works = JobAlone.replied did;
      })
  done packets_room packets_after audit_after (answers.Begun name) n' result sender same did known noted shown =
      subst (λ x. Worked number n desk upto job x n' packets packets_after audit audit_after) (sym shown.0) (record {
        sent = [];
        admitted = entries n job (answers.Begun name);
        sent_is = shown.1 ∙ same ∙ sym (append-nil packets);
        admitted_is = noted;
        works = JobAlone.begun did;
      })
  done packets_room packets_after audit_after (answers.Out d) n' result sender same did known noted shown =
      let party_is : sender ≡ party_at d.sender (process_of n d.sender) = known ∙ sender_is n desk upto job d n' did in
      subst (λ x. Worked number n desk upto job x n' packets packets_after audit audit_after)
      (sym (shown.0 ∙ ap (λ (l : List Sent). reply.Sent (suc (length l)) 1) same)) (record {
        sent = sent_message number n d ∷ [];
        admitted = entries n job (answers.Out d);
        sent_is = shown.1 ∙ (λ i. same i ++ record { from = number; packet = packet.Data d; sender = party_is i } ∷ []);
        admitted_is = noted;
        works = JobAlone.sends did;
      })
