-- No check finds want of memory: a job is refused so only where it may take some.
use Rattle.std.proofs.Common.{◌≡◌, ◌≢◌, inl, inr, refl, Bool, true, false, Option, Some, None, Ok, Err}
use Rattle.std.specs.Prelude.{not}
use Rattle.std.specs.FinMap as map
use Rattle.std.specs.declared.cmp.Ordering.{Ordering}
use Rattle.fl_labels.specs.Cap.{cap_cmp}
use Rattle.fl_labels.specs.Caps.{Caps}
use Rattle.fl_labels.specs.Name.{name_cmp}
use Rattle.fl_labels.specs.SetBy as set
use Rattle.fl_labels.specs.SetBy.{In}
use Rattle.fl_labels.specs.declared.endpoint.Endpoint.{Endpoint}
use Rattle.fl_labels.specs.declared.name.Name.{Name}
use Rattle.fl_ops.specs.declared.op.Op.{Op}
use Rattle.fl_ops.specs.Registry.{InEffect}
use Rattle.fl_jobs.specs.Given.{labels_of}
use Rattle.fl_jobs.specs.declared.job.Act.{Act}
use Rattle.fl_jobs.specs.declared.job.Act.TheVariants.{Order, Relabel, Ask, Spawn, Exit, Drop, Enter, Emit, Mail}
use Rattle.fl_jobs.specs.declared.job.Job.{Job}
use Rattle.fl_jobs.specs.declared.job.Job.TheVariants.{Proc, By, Member, Arrive}
use Rattle.fl_jobs.specs.declared.job.Mail as mailbox
use Rattle.fl_jobs.specs.declared.job.Mail.TheVariants.{Open, Tune, Close, Send, Take}
use Rattle.fl_jobs.specs.declared.secret.Secret.{Secret}
use Rattle.fl_jobs.specs.declared.answer.Refusal.{Refusal}
use Rattle.fl_jobs.specs.declared.answer.Refusal.TheVariants.{NoProcess, Busy, NamesSpent}
use Rattle.fl_jobs.specs.declared.answer.Refusal.TheVariants.{LabelTooLong, NotOwned, MissingCap}
use Rattle.fl_jobs.specs.declared.answer.Refusal.TheVariants.{Secrecy, UnsafeEndpoint}
use Rattle.fl_jobs.specs.declared.answer.Refusal.TheVariants.{EndpointsFull, NoEndpoint}
use Rattle.fl_jobs.specs.declared.answer.Refusal.TheVariants.{NotWritable, InboxFull, Memory}
use Rattle.fl_rules.specs.declared.labels.Labels.{Labels}
use Rattle.fl_rules.specs.declared.pair.PairFault.{PairFault}
use Rattle.fl_rules.specs.declared.pair.PairFault.TheVariants as faults
use Rattle.fl_message.specs.declared.message.Data.{Data}
use Rattle.fl_mailbox.specs.Endpoints.{Table, IsLeastFree}
use Rattle.fl_mailbox.specs.Offenders.{offender_cmp, CrossesAt, DualAt}
use Rattle.fl_mailbox.specs.declared.mailbox.Mailbox.{Mailbox}
use Rattle.fl_mailbox.specs.declared.endpoints.OpenEndpoint.{OpenEndpoint}
use Rattle.fl_bench.specs.Checks.{Check, refuse_if, demand, with, with_found, ◌then◌}
use Rattle.fl_bench.specs.Guards.{entry_refusal, pair_check, endpoints_check, unsafe_by}
use Rattle.fl_bench.specs.Mailbox.{mail_checks, arrival_checks}
use Rattle.fl_bench.specs.Process.{owns, effective, with_side}
use Rattle.fl_bench.specs.Bench.{BenchState}
use Rattle.fl_bench.specs.Jobs.{enter_check, checks_of, bench_checks}
use Rattle.fl_bench.specs.Jobs.{checks, Does, failed, no_room, TakesMemory}
use Rattle.fl_bench.specs.declared.process.Process.{Process}

-- the check does not find it
abbrev NeverWants : Check → Type 0
NeverWants check = (v : Option Refusal) → check v → v ≢ Some Memory

never_said : NeverWants (λ v. v ≡ None)
never_said v h e = cc

never_fails : (f : Refusal) → f ≢ Memory → NeverWants (λ v. v ≡ Some f)
never_fails f other v h e = other (cc)

never_if : (test : Bool) (f : Refusal) → f ≢ Memory → NeverWants (refuse_if test f)
never_if true f other = never_fails f other
never_if false f other = never_said

never_then : (first second : Check) → NeverWants first → NeverWants second
    → NeverWants (first then second)
never_then first second one two None h e = cc
never_then first second one two (Some f) (inl h) e = one (Some f) h e
never_then first second one two (Some f) (inr h) e = two (Some f) h.1 e

never_demand : {K : Type 0} (R : K → K → Ordering) (P Q : K → Type 0) (refusal : K → Refusal)
    → ((x : K) → refusal x ≢ Memory) → NeverWants (demand R P Q refusal)
never_demand R P Q refusal other None h e = cc
never_demand R P Q refusal other (Some f) h e = let is = h.1 in other h.0 (cc)

never_with : {A : Type 0} (found : Option A) (f : Refusal) (more : A → Check) → f ≢ Memory
    → ((x : A) → NeverWants (more x)) → NeverWants (with found f more)
never_with None f more other each = never_fails f other
never_with (Some x) f more other each = each x

never_found : {A : Type 0} (Finds : Option A → Type 0) (f : Refusal) (more : A → Check) → f ≢ Memory
    → ((x : A) → NeverWants (more x)) → NeverWants (with_found Finds f more)
never_found Finds f more other each v h e = never_with h.0 f more other each v h.2 e

-- ---- the checks of jobs

never_cap : (P E : Caps) → NeverWants (demand cap_cmp P E MissingCap)
never_cap P E = never_demand cap_cmp P E MissingCap (λ x e. cc)

never_endpoint : (e : Endpoint) (P Q : Name → Type 0)
    → NeverWants (demand name_cmp P Q (UnsafeEndpoint e))
never_endpoint e P Q = never_demand name_cmp P Q (UnsafeEndpoint e) (λ x e. cc)

never_endpoints : (E : Caps) (process : Labels) (table : Table)
    → NeverWants (endpoints_check E process table)
never_endpoints E process table =
    never_demand offender_cmp (CrossesAt process table) (DualAt E) unsafe_by (λ x e. cc)

never_enter : (V : Op → Type 0) (login : Name) (secret : Secret)
    → NeverWants (enter_check V login secret)
never_enter V login secret None h e = cc
never_enter V login secret (Some f) (inl h) e = let is = h.0 in cc
never_enter V login secret (Some f) (inr h) e = let is = h.0 in cc

never_mail : (E : Caps) (process : Labels) (ch : Mailbox) (work : mailbox.Mail)
    → NeverWants (mail_checks E process ch work)
never_mail E process ch (Open mode given) = never_with (labels_of given) LabelTooLong _ (λ e. cc)
    (λ labels. never_found (IsLeastFree ch.endpoints) EndpointsFull _ (λ e. cc)
    (λ e. never_endpoint e _ _))
never_mail E process ch (Tune e given) = never_with (labels_of given) LabelTooLong _ (λ e. cc)
    (λ labels. never_with (map.get ch.endpoints e) (NoEndpoint e) _ (λ e. cc)
    (λ opened. never_endpoint e _ _))
never_mail E process ch (Close e) =
    never_with (map.get ch.endpoints e) (NoEndpoint e) _ (λ e. cc) (λ opened. never_said)
never_mail E process ch (Send from receiver to message) =
    never_with (map.get ch.endpoints from) (NoEndpoint from) _ (λ e. cc)
    (λ opened. never_then _ _ (never_if _ (NotWritable from) (λ e. cc)) (never_cap _ E))
never_mail E process ch Take = never_said

never_pair : (d : Data) (opened : OpenEndpoint) → NeverWants (pair_check d opened)
never_pair d opened None h e = cc
never_pair d opened (Some f) h e = let is = h.1 in by_fault h.0 (cc)
  where
    by_fault : (fault : PairFault) → entry_refusal d.to fault ≢ Memory
    by_fault faults.NotWritable e = cc
    by_fault faults.NotReadable e = cc
    by_fault (faults.Secrecy tag) e = cc
    by_fault (faults.Integrity tag) e = cc

never_arrival : (ch : Mailbox) (d : Data) → NeverWants (arrival_checks ch d)
never_arrival ch d = never_with (map.get ch.endpoints d.to) (NoEndpoint d.to) _ (λ e. cc)
    (λ opened. never_then _ _ (never_pair d opened) (never_if _ InboxFull (λ e. cc)))

never_act : (V : Op → Type 0) (p : Process) (act : Act) → NeverWants (checks_of V p act)
never_act V p (Order order) = never_cap _ _
never_act V p (Relabel side (Ok label)) =
    never_then _ _ (never_cap _ _) (never_endpoints (effective V p) (with_side side label p.labels)
    p.mailbox.endpoints)
never_act V p (Relabel side (Err long)) = never_fails LabelTooLong (λ e. cc)
never_act V p (Ask c) = never_said
never_act V p (Spawn caps) = never_cap _ _
never_act V p Exit = never_said
never_act V p (Drop c) =
    never_then _ _ (never_if _ (NotOwned c) (λ e. cc))
    (never_endpoints (InEffect V (In (set.remove (owns p) c))) p.labels p.mailbox.endpoints)
never_act V p (Enter login secret) = never_enter V login secret
never_act V p (Emit bytes) = never_demand name_cmp _ _ Secrecy (λ x e. cc)
never_act V p (Mail work) = never_mail (effective V p) p.labels p.mailbox work

never_spent : (b : BenchState) (act : Act) → NeverWants (bench_checks b act)
never_spent b (Spawn caps) = never_if _ NamesSpent (λ e. cc)
never_spent b (Order order) = never_said
never_spent b (Relabel side label) = never_said
never_spent b (Ask c) = never_said
never_spent b Exit = never_said
never_spent b (Drop c) = never_said
never_spent b (Enter login secret) = never_said
never_spent b (Emit bytes) = never_said
never_spent b (Mail work) = never_said

module _ (V : Op → Type 0) (b : BenchState) where
  never_job : (job : Job) → NeverWants (checks V b job)
  never_job Proc = never_if _ NamesSpent (λ e. cc)
  never_job (By pid act) = never_with (map.get b.processes pid) (NoProcess pid) _ (λ e. cc)
      (λ p. never_then _ _ (never_then _ _ (never_if _ Busy (λ e. cc)) (never_act V p act))
      (never_spent b act))
  never_job (Member root c) = never_said
  never_job (Arrive d) =
      never_with (map.get b.processes d.receiver) (NoProcess d.receiver) _ (λ e. cc)
      (λ q. never_then _ _ (never_if _ Busy (λ e. cc)) (never_arrival q.mailbox d))

  pub memory_wanted : {job : Job} {after : BenchState} → Does V b job (Err Memory) after
      → TakesMemory V b job
  memory_wanted {job} d = by_cause d
    where
      by_cause : {after : BenchState} → Does V b job (Err Memory) after → TakesMemory V b job
      by_cause (failed h) = absurd (never_job job (Some Memory) h refl)
      by_cause (no_room t) = t
