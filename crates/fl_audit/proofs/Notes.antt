-- What would be noted may be noted.
use Rattle.std.proofs.Common.{◌≡◌, ◌∙◌, refl, sym, ap, subst, arith, ℕ, zero, List, [], ◌∷◌, ◌++◌, length}
use Rattle.std.proofs.Common.{Bool, true, false, is_some}
use Rattle.std.proofs.Common.{Option, Some, None, Result, Ok, Err, OnErr}
use Rattle.std.specs.Prelude.{cond, not, take, ◌==◌}
use Rattle.std.proofs.Math.Seq.{take-append_seam}
use Rattle.std.proofs.lemmas.Bool.{false≢true}
use Rattle.std.proofs.lemmas.List.{append-nil}
use Rattle.std.proofs.lemmas.Result.{on_err_weaker}
use Rattle.std.specs.FinMap as map
use Rattle.std.specs.List.{Contains}
use Rattle.fl_labels.specs.Cap.{cap_cmp}
use Rattle.fl_labels.specs.CapOrder.{cap_total, cap_exact}
use Rattle.fl_labels.specs.SetBy as set
use Rattle.fl_labels.specs.SetBy.{SetBy}
use Rattle.fl_labels.specs.declared.cap.Cap.{Cap}
use Rattle.fl_labels.specs.declared.cap.Cap.TheVariants.{Use}
use Rattle.fl_labels.specs.declared.name.Name.{Name}
use Rattle.fl_labels.specs.declared.pid.Pid.{Pid}
use Rattle.fl_rules.specs.declared.endpoint.Mode.{Mode}
use Rattle.fl_rules.specs.declared.labels.Labels.{Labels}
use Rattle.fl_mailbox.specs.declared.endpoints.OpenEndpoint.{OpenEndpoint}
use Rattle.fl_mailbox.specs.declared.mailbox.Mailbox.{Mailbox}
use Rattle.fl_jobs.specs.Given.{labels_of}
use Rattle.fl_jobs.specs.declared.job.Act.{Act}
use Rattle.fl_jobs.specs.declared.job.Act.TheVariants.{Order, Relabel, Ask, Spawn, Exit}
use Rattle.fl_jobs.specs.declared.job.Act.TheVariants.{Drop, Enter, Emit, Mail}
use Rattle.fl_jobs.specs.declared.job.GivenLabels.{GivenLabels}
use Rattle.fl_jobs.specs.declared.job.Job.{Job}
use Rattle.fl_jobs.specs.declared.job.Job.TheVariants.{By, Member}
use Rattle.fl_jobs.specs.declared.job.Mail as mails
use Rattle.fl_jobs.specs.declared.job.Mail.TheVariants.{Open, Tune, Close, Send, Take}
use Rattle.fl_jobs.specs.declared.job.Order as orders
use Rattle.fl_jobs.specs.declared.answer.Reply.TheVariants as replies
use Rattle.fl_jobs.specs.declared.secret.Secret.{Secret}
use Rattle.fl_bench.specs.Process.{order_takes, takes_nothing, standing_of, standing_at}
use Rattle.fl_bench.specs.Secrets.{digest_of}
use Rattle.fl_bench.specs.declared.process.Process.{Process}
use Rattle.fl_bench.specs.declared.standing.Standing.{Standing}
use Rattle.fl_system.specs.Audit.{party, order_entries, endpoint_entries, tuned_entries}
use Rattle.fl_system.specs.Audit.{mail_entries, act_entries, entries_by, entries, if_yes, if_entered}
use Rattle.fl_system.specs.Processes.{process_of}
use Rattle.fl_system.specs.State.{NodeState}
use Rattle.fl_system.specs.WorldJobs.{MayBeNoted}
use Rattle.fl_system.specs.declared.admission.Admission.{Admission}
use Rattle.fl_system.specs.declared.admission.Admission.TheVariants.{Grant, Entry, Reached}
use Rattle.fl_system.specs.declared.admission.Party.{Party}
use Rattle.fl_system.specs.declared.answer.Answer.{Answer}
use Rattle.fl_system.specs.declared.answer.Answer.TheVariants as answers
use Rattle.fl_audit.specs.Drafts.{IsDrafted, IsAskedAt, IsNotedAt, is_yes, entered}
use Rattle.fl_audit.specs.declared.draft.Draft.{Draft}
use Rattle.fl_audit.specs.declared.draft.Draft.TheVariants.{IfYes, IfEntered}
use Rattle.fl_audit.specs.Noted.{tuned_noted, mail_noted, act_noted, act_tunes, job_tunes}

pub on_err : {T E P : Type 0} (r : Result T E) → P → OnErr r P
on_err (Ok x) h = tt
on_err (Err e) h = h

-- there is an answer with an entry
pub record SomeNoted (entries : Answer → List Admission) : Type 0 where
  pub answer : Answer
  pub entry : Admission
  pub noted : Contains (entries answer) entry

done : Answer
done = answers.Reply replies.Done

first : (e : Admission) → Contains (e ∷ []) e
first e = (zero, omega arith, refl)

always : (e : Admission) → SomeNoted (λ a. e ∷ [])
always e = record { answer = done; entry = e; noted = first e }

-- one entry, where something is taken
abbrev if_taken : Bool → Admission → List Admission
if_taken none_taken e = cond none_taken [] (e ∷ [])

order_some : (p : Party) (order : orders.Order) → not (takes_nothing order) ≡ true
    → SomeNoted (λ a. order_entries p order)
order_some p order h = by_taken (takes_nothing order) (Grant p (order_takes order)) h
  where
    by_taken : (none_taken : Bool) (e : Admission) → not none_taken ≡ true → SomeNoted (λ a. if_taken none_taken e)
    by_taken true e h = absurd (false≢true h)
    by_taken false e h = always e

endpoint_some : (p : Party) (mode : Mode) (labels : Option Labels) → is_some labels ≡ true
    → SomeNoted (λ a. endpoint_entries p mode labels)
endpoint_some p mode None h = absurd (false≢true h)
endpoint_some p mode (Some labels) h = always _

tuned_some : (p : Party) (there : Option OpenEndpoint) (given : GivenLabels) → tuned_noted there given ≡ true
    → SomeNoted (λ a. tuned_entries p there given)
tuned_some p None given h = absurd (false≢true h)
tuned_some p (Some opened) given h = endpoint_some p opened.mode (labels_of given) h

mail_some : (p : Party) (ch : Mailbox) (mail : mails.Mail) → mail_noted ch mail ≡ true
    → SomeNoted (λ a. mail_entries p ch mail)
mail_some p ch (Open mode given) h = endpoint_some p mode (labels_of given) h
mail_some p ch (Tune e given) h = tuned_some p (map.get ch.endpoints e) given h
mail_some p ch (Close e) h = absurd (false≢true h)
mail_some p ch (Send from receiver to message) h = always _
mail_some p ch Take h = absurd (false≢true h)

act_some : (pid : Pid) (p : Process) (act : Act) → act_noted p act ≡ true → SomeNoted (act_entries pid p act)
act_some pid p (Order order) h = order_some (party pid p) order h
act_some pid p (Relabel side (Ok label)) h = always _
act_some pid p (Relabel side (Err long)) h = absurd (false≢true h)
act_some pid p (Ask c) h = record { answer = answers.Reply replies.Yes; entry = _; noted = first _ }
act_some pid p (Spawn caps) h = always _
act_some pid p Exit h = absurd (false≢true h)
act_some pid p (Drop c) h = absurd (false≢true h)
act_some pid p (Enter login secret) h =
    record { answer = answers.Reply (replies.Entered (Use login)); entry = _; noted = first _ }
act_some pid p (Emit bytes) h = always _
act_some pid p (Mail c) h = mail_some (party pid p) p.mailbox c h

pub may_be : (n : NodeState) (pid : Pid) (p : Process) (act : Act) → process_of n pid ≡ Some p
    → act_noted p act ≡ true → MayBeNoted n (By pid act)
may_be n pid p act there h =
    let P : Option Process → Type 0 = λ o. SomeNoted (entries_by o pid act) in
    let some = subst P (sym there) (act_some pid p act h) in
    record { answer = some.answer; entry = some.entry; noted = some.noted }

-- the same of a job that is known to be an act of this process
module _ (number boot : ℕ) (asker : Option Process) (job : Job) (pid : Pid) (p : Process) (act : Act)
    (is : job ≡ By pid act) (there : asker ≡ Some p) where
  pub noted_may : act_noted p act ≡ true → (n : NodeState) → IsAskedAt number boot asker job n → MayBeNoted n job
  noted_may noted n asked =
      let asks : IsAskedAt number boot asker (By pid act) n = subst (λ j. IsAskedAt number boot asker j n) is asked in
      subst (MayBeNoted n) (sym is) (may_be n pid p act (asks.asker_is ∙ there) noted)

-- a process that stands so asks for the act, which tunes an endpoint of this mode
record IsAskedBy (n : NodeState) (pid : Pid) (act : Act) (tuned : Option Mode) (s : Standing) : Type 0 where
  process : Process
  stands : process_of n pid ≡ Some process
  tunes : act_tunes process act ≡ tuned
  is_party : record { pid = pid; standing = s } ≡ party pid process

-- the same where who asks for the job stands so
module _ (number boot : ℕ) (tuned : Option Mode) (standing : Option Standing) (job : Job) (pid : Pid) (act : Act) (s : Standing)
    (is : job ≡ By pid act) (there : standing ≡ Some s) where
  asked_by : (n : NodeState) → IsNotedAt number boot tuned standing job n → IsAskedBy n pid act tuned s
  asked_by n noted = by_process (process_of n pid) refl (rw is at noted.tuned_is) (rw is at (noted.stands.right s there))
    where
      by_process : (o : Option Process) → process_of n pid ≡ o → job_tunes o (By pid act) ≡ tuned → standing_at o ≡ Some s
          → IsAskedBy n pid act tuned s
      by_process None e tunes stood = absurd (cc)
      by_process (Some p) e tunes stood =
          let same : standing_of p ≡ s = cc in
          record { process = p; stands = e; tunes = tunes; is_party = ap (λ s. record { pid = pid; standing = s }) (sym same) }

  pub drafted_noted : (before after : List Admission) (d : Draft)
      → ((p : Process) → record { pid = pid; standing = s } ≡ party pid p → act_tunes p act ≡ tuned → IsDrafted before after (act_entries pid p act) d)
      → (n : NodeState) → IsNotedAt number boot tuned standing job n → IsDrafted before after (entries n job) d
  drafted_noted before after d h n noted =
      let asked = asked_by n noted in
      let P : Option Process → Type 0 = λ o. IsDrafted before after (entries_by o pid act) d in
      subst (λ j. IsDrafted before after (entries n j) d) (sym is)
      (subst P (sym asked.stands) (h asked.process asked.is_party asked.tunes))

  pub may_be_noted : {T E : Type 0} (r : Result T E) → OnErr r ((p : Process) → act_tunes p act ≡ tuned → act_noted p act ≡ true)
      → OnErr r ((n : NodeState) → IsNotedAt number boot tuned standing job n → MayBeNoted n job)
  may_be_noted r h =
      on_err_weaker r (λ all n noted.
      let asked = asked_by n noted in
      subst (MayBeNoted n) (sym is) (may_be n pid asked.process act asked.stands (all asked.process asked.tunes))) h

-- ---- what is noted of an order

module _ (order : orders.Order) (caps : List Cap) (listed : caps ≡ set.members (order_takes order)) where
  -- whether nothing is taken
  pub taken_told : (none_taken : Bool) → none_taken ≡ (length caps == 0) → (told : Bool) → none_taken ≡ told
      → takes_nothing order ≡ told
  taken_told none_taken is told e = ap (λ s. length s == 0) (sym listed) ∙ sym is ∙ e

  -- the set of these is what is taken
  pub grant_listed : (p : Party) → takes_nothing order ≡ false → Grant p (set.of_list caps) ∷ [] ≡ order_entries p order
  grant_listed p some =
      ap (λ s. Grant p s ∷ [])
      (ap set.of_list listed ∙ set.of_list-members cap_total cap_exact (order_takes order))
      ∙ ap (λ b. if_taken b (Grant p (order_takes order))) (sym some)

-- the set of the members of a set
pub granted : (p : Party) (s : SetBy cap_cmp) (caps : List Cap) → caps ≡ set.members s
    → Grant p (set.of_list caps) ∷ [] ≡ Grant p s ∷ []
granted p s caps e = ap (λ t. Grant p t ∷ []) (ap set.of_list e ∙ set.of_list-members cap_total cap_exact s)

pub nothing_listed : (order : orders.Order) (p : Party) → takes_nothing order ≡ true → [] ≡ order_entries p order
nothing_listed order p e = ap (λ b. if_taken b (Grant p (order_takes order))) (sym e)

-- ---- what is noted before the answer

pub unchanged : (before entries : List Admission) → [] ≡ entries → before ≡ before ++ entries
unchanged before entries none = sym (append-nil before) ∙ ap (λ l. before ++ l) none

-- an act that is known
pub act_drafted : (pid : Pid) (p : Process) {act : Act} (known : Act) (before : List Admission) {after : List Admission}
    (d : Draft) → act ≡ known → IsDrafted before after (act_entries pid p known) d
    → IsDrafted before after (act_entries pid p act) d
act_drafted pid p known before {after} d is h = subst (λ a. IsDrafted before after (act_entries pid p a) d) (sym is) h

-- the same, of a question of what a capability reaches
module _ (number boot : ℕ) (tuned : Option Mode) (standing : Option Standing) (job : Job) (root c : Cap) (is : job ≡ Member root c) where
  pub member_drafted : (before after : List Admission) (d : Draft)
      → IsDrafted before after (λ a. if_yes a (Reached number boot root c)) d → (n : NodeState)
      → IsNotedAt number boot tuned standing job n → IsDrafted before after (entries n job) d
  member_drafted before after d h n noted =
      let P : ℕ → ℕ → Type 0 = λ number boot. IsDrafted before after (λ a. if_yes a (Reached number boot root c)) d in
      let h' : P n.number n.boot =
      subst (λ k. P k n.boot) (sym noted.number_is) (subst (λ k. P number k) (sym noted.boot_is) h) in
      subst (λ j. IsDrafted before after (entries n j) d) (sym is) h'

  pub member_may : (n : NodeState) → IsNotedAt number boot tuned standing job n → MayBeNoted n job
  member_may n noted =
      subst (MayBeNoted n) (sym is) (record { answer = answers.Reply replies.Yes; entry = _; noted = first _ })

-- ---- once it is answered

yes_is : (a : Answer) (entry : Admission) → if_yes a entry ≡ cond (is_yes a) (entry ∷ []) []
yes_is (answers.Reply replies.Yes) entry = refl
yes_is (answers.Reply (replies.Made pid)) entry = refl
yes_is (answers.Reply replies.Done) entry = refl
yes_is (answers.Reply replies.NotYet) entry = refl
yes_is (answers.Reply (replies.Entered c)) entry = refl
yes_is (answers.Reply (replies.Emitted bytes)) entry = refl
yes_is (answers.Reply (replies.Opened endpoint)) entry = refl
yes_is (answers.Reply (replies.Taken letter)) entry = refl
yes_is (answers.Reply replies.Empty) entry = refl
yes_is (answers.Reply (replies.Arrived pid)) entry = refl
yes_is (answers.Out d) entry = refl
yes_is (answers.Begun name) entry = refl

abbrev entered_entries : Option Cap → Party → Name → Secret → List Admission
entered_entries None p login secret = []
entered_entries (Some c) p login secret = Entry p login c (digest_of secret) ∷ []

entered_is : (a : Answer) (p : Party) (login : Name) (secret : Secret)
    → if_entered a p login secret ≡ entered_entries (entered a) p login secret
entered_is (answers.Reply replies.Yes) p login secret = refl
entered_is (answers.Reply (replies.Made pid)) p login secret = refl
entered_is (answers.Reply replies.Done) p login secret = refl
entered_is (answers.Reply replies.NotYet) p login secret = refl
entered_is (answers.Reply (replies.Entered c)) p login secret = refl
entered_is (answers.Reply (replies.Emitted bytes)) p login secret = refl
entered_is (answers.Reply (replies.Opened endpoint)) p login secret = refl
entered_is (answers.Reply (replies.Taken letter)) p login secret = refl
entered_is (answers.Reply replies.Empty) p login secret = refl
entered_is (answers.Reply (replies.Arrived pid)) p login secret = refl
entered_is (answers.Out d) p login secret = refl
entered_is (answers.Begun name) p login secret = refl

module _ (before after : List Admission) (noted : Answer → List Admission) (a : Answer) where
  taken_back : (entries : List Admission) (from : ℕ) (left : List Admission) → length before ≡ from
      → after ≡ before ++ entries → left ≡ take from after → left ≡ before
  taken_back entries from left long is cut =
      cut ∙ ap (λ n. take n after) (sym long) ∙ ap (λ l. take (length before) l) is ∙ take-append_seam before entries

  pub leaves_no_yes : (from : ℕ) (left : List Admission) → length before ≡ from → left ≡ take from after
      → is_yes a ≡ false → IsDrafted before after noted IfYes → left ≡ before ++ noted a
  leaves_no_yes from left long cut is_none (IsDrafted.on_yes entry is all) =
      taken_back (entry ∷ []) from left long is cut
      ∙ unchanged before (noted a) (ap (λ b. cond b (entry ∷ []) []) (sym is_none) ∙ sym (yes_is a entry) ∙ all a)

  pub leaves_no_entry : (from : ℕ) (left : List Admission) → length before ≡ from → left ≡ take from after
      → entered a ≡ None → IsDrafted before after noted IfEntered → left ≡ before ++ noted a
  leaves_no_entry from left long cut is_none (IsDrafted.on_entry p login c secret is all) =
      taken_back (Entry p login c (digest_of secret) ∷ []) from left long is cut
      ∙ unchanged before (noted a)
      (ap (λ o. entered_entries o p login secret) (sym is_none) ∙ sym (entered_is a p login secret) ∙ all a)
