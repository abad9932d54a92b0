-- Under two registries that have the same operations a bench does the same.
use Rattle.std.specs.Prelude.{not}
use Rattle.std.proofs.Common.{inl, inr, Option, Some, None, Ok, Err, Result}
use Rattle.std.specs.declared.cmp.Ordering.{Ordering}
use Rattle.std.specs.FinMap as map
use Rattle.fl_labels.specs.Caps.{Dual}
use Rattle.fl_labels.specs.Found.{Within}
use Rattle.fl_labels.specs.Name.{name_cmp}
use Rattle.fl_labels.specs.SetBy.{In, remove, contains}
use Rattle.fl_labels.specs.Cap.{cap_cmp}
use Rattle.fl_labels.specs.declared.cap.Cap.{Cap}
use Rattle.fl_labels.specs.declared.endpoint.Endpoint.{Endpoint}
use Rattle.fl_labels.specs.declared.name.Name.{Name}
use Rattle.fl_labels.specs.declared.pid.Pid.{Pid}
use Rattle.fl_mailbox.specs.Endpoints.{IsLeastFree, Table}
use Rattle.fl_mailbox.specs.Offenders.{offender_cmp, CrossesAt, DualAt}
use Rattle.fl_mailbox.specs.declared.mailbox.Mailbox.{Mailbox}
use Rattle.fl_ops.specs.Logins.{IsFirstLogin, HasNoLogin}
use Rattle.fl_ops.specs.Registry.{InEffect}
use Rattle.fl_ops.specs.declared.digest.Digest.{Digest}
use Rattle.fl_ops.specs.declared.op.Op.{Op}
use Rattle.fl_ops.specs.laws.Reaching.{reach_more, eff_more}
use Rattle.fl_rules.specs.Safety.{Takes}
use Rattle.fl_rules.specs.Endpoint.{Crosses, writes}
use Rattle.fl_rules.specs.declared.labels.Labels.{Labels}
use Rattle.fl_rules.specs.declared.endpoint.Mode.{Mode}
use Rattle.fl_jobs.specs.Given.{labels_of}
use Rattle.fl_jobs.specs.declared.job.Act.{Act}
use Rattle.fl_jobs.specs.declared.job.Act.TheVariants as acts
use Rattle.fl_jobs.specs.declared.job.Job.{Job}
use Rattle.fl_jobs.specs.declared.job.Job.TheVariants.{Proc, By, Member, Arrive}
use Rattle.fl_jobs.specs.declared.job.Mail.{Mail}
use Rattle.fl_jobs.specs.declared.job.Mail.TheVariants as mails
use Rattle.fl_jobs.specs.declared.secret.Secret.{Secret}
use Rattle.fl_jobs.specs.declared.answer.Refusal.{Refusal}
use Rattle.fl_jobs.specs.declared.answer.Refusal.TheVariants as refusals
use Rattle.fl_jobs.specs.declared.answer.Outcome.{Outcome}
use Rattle.fl_bench.specs.Bench.{BenchState}
use Rattle.fl_bench.specs.Checks.{Check, demand, with, with_found, ◌then◌, refuse_if}
use Rattle.fl_bench.specs.Guards.{grant_check, endpoint_check, endpoints_check, unsafe_by}
use Rattle.fl_bench.specs.Jobs.{change_check, enter_check, checks_of, act_checks}
use Rattle.fl_bench.specs.Jobs.{bench_checks, checks, Answers, Performs, Effect, NeedsRoom}
use Rattle.fl_bench.specs.Jobs.{JobNeedsRoom, Does, passed, failed, no_room}
use Rattle.fl_bench.specs.Mailbox.{mail_checks}
use Rattle.fl_bench.specs.Process.{owns, effective, is_busy, order_takes, side_of, with_side}
use Rattle.fl_bench.specs.declared.process.Process.{Process}

-- ---- checks that are passed on

-- a check comes to no other verdict than the other one
abbrev Follows : Check → Check → Type 0
Follows first second = (verdict : Option Refusal) → first verdict → second verdict

stay : (C : Check) → Follows C C
stay C verdict h = h

then_same : (A B C D : Check) → Follows A C → Follows B D → Follows (A then B) (C then D)
then_same A B C D f g None h = (f None h.0, g None h.1)
then_same A B C D f g (Some r) (inl h) = inl (f (Some r) h)
then_same A B C D f g (Some r) (inr h) = inr (f None h.0, g (Some r) h.1)

with_same : {A : Type 0} (o : Option A) (r : Refusal) (f g : A → Check)
    → ((x : A) → Follows (f x) (g x))
    → Follows (with o r f) (with o r g)
with_same None r f g same verdict h = h
with_same (Some x) r f g same verdict h = same x verdict h

demand_same : {K : Type 0} (R : K → K → Ordering) (P E F : K → Type 0) (r : K → Refusal)
    → Within E F
    → Within F E → Follows (demand R P E r) (demand R P F r)
demand_same R P E F r up down None h = λ x p. up x (h x p)
demand_same R P E F r up down (Some f) h = (
  h.0,
  h.1,
  record {
    member = h.2.member;
    lacking = λ q. h.2.lacking (down h.0 q);
    least = λ y p q. h.2.least y p (λ e. q (up y e));
  },
)

dual_same : {E F : Cap → Type 0} → Within E F → Within (Dual E) (Dual F)
dual_same up tag h = (up _ h.0, up _ h.1)

-- ---- by what is in effect

module _ (E F : Cap → Type 0) (up : Within E F) (down : Within F E) where
  caps_same : (P : Cap → Type 0) → Follows (demand cap_cmp P E refusals.MissingCap)
      (demand cap_cmp P F refusals.MissingCap)
  caps_same P = demand_same cap_cmp P E F refusals.MissingCap up down

  names_same : (P : Name → Type 0) (r : Name → Refusal) → Follows (demand name_cmp P (Dual E) r)
      (demand name_cmp P (Dual F) r)
  names_same P r = demand_same name_cmp P (Dual E) (Dual F) r (dual_same up) (dual_same down)

  ends_same : (l : Labels) (table : Table) → Follows (endpoints_check E l table)
      (endpoints_check F l table)
  ends_same l table =
      demand_same offender_cmp (CrossesAt l table) (DualAt E) (DualAt F) unsafe_by
      (λ x h. dual_same up x.tag h) (λ x h. dual_same down x.tag h)

  end_same : (l : Labels) (e : Endpoint) (mode : Mode) (labels : Labels)
      → Follows (endpoint_check E l e mode labels) (endpoint_check F l e mode labels)
  end_same l e mode labels = names_same (Crosses mode l labels) (refusals.UnsafeEndpoint e)

  open_same : (l : Labels) (ch : Mailbox) (mode : Mode) (labels : Labels)
      → Follows (with_found (IsLeastFree ch.endpoints) refusals.EndpointsFull
      (λ e. endpoint_check E l e mode labels))
      (with_found (IsLeastFree ch.endpoints) refusals.EndpointsFull
      (λ e. endpoint_check F l e mode labels))
  open_same l ch mode labels verdict h = (
    h.0,
    h.1,
    with_same h.0 refusals.EndpointsFull (λ e. endpoint_check E l e mode labels)
        (λ e. endpoint_check F l e mode labels)
        (λ e. end_same l e mode labels) verdict h.2,
  )

  mail_same : (l : Labels) (ch : Mailbox) (mail : Mail) → Follows (mail_checks E l ch mail)
      (mail_checks F l ch mail)
  mail_same l ch (mails.Open mode given) =
      with_same (labels_of given) refusals.LabelTooLong
      (λ labels. with_found (IsLeastFree ch.endpoints) refusals.EndpointsFull
      (λ e. endpoint_check E l e mode labels))
      (λ labels. with_found (IsLeastFree ch.endpoints) refusals.EndpointsFull
      (λ e. endpoint_check F l e mode labels))
      (open_same l ch mode)
  mail_same l ch (mails.Tune e given) =
      with_same (labels_of given) refusals.LabelTooLong
      (λ labels. with (map.get ch.endpoints e) (refusals.NoEndpoint e)
      (λ opened. endpoint_check E l e opened.mode labels))
      (λ labels. with (map.get ch.endpoints e) (refusals.NoEndpoint e)
      (λ opened. endpoint_check F l e opened.mode labels))
      (λ labels. with_same (map.get ch.endpoints e) (refusals.NoEndpoint e)
      (λ opened. endpoint_check E l e opened.mode labels)
      (λ opened. endpoint_check F l e opened.mode labels)
      (λ opened. end_same l e opened.mode labels))
  mail_same l ch (mails.Close e) = stay (mail_checks F l ch (mails.Close e))
  mail_same l ch (mails.Send from receiver to message) =
      with_same (map.get ch.endpoints from) (refusals.NoEndpoint from)
      (λ opened. refuse_if (not (writes opened.mode))
      (refusals.NotWritable from) then grant_check E message.caps)
      (λ opened. refuse_if (not (writes opened.mode))
      (refusals.NotWritable from) then grant_check F message.caps)
      (λ opened. then_same (refuse_if (not (writes opened.mode)) (refusals.NotWritable from))
      (grant_check E message.caps)
      (refuse_if (not (writes opened.mode)) (refusals.NotWritable from))
      (grant_check F message.caps)
      (stay (refuse_if (not (writes opened.mode)) (refusals.NotWritable from)))
      (caps_same (In message.caps)))
  mail_same l ch mails.Take = stay (mail_checks F l ch mails.Take)

module _ {V W : Op → Type 0} (up : Within V W) (down : Within W V) where
  first_same : (login : Name) (c : Cap) (digest : Digest) → IsFirstLogin V login c digest
      → IsFirstLogin W login c digest
  first_same login c digest h =
      record { member = up _ h.member; least = λ d other is. h.least d other (down _ is) }

  none_same : (login : Name) → HasNoLogin V login → HasNoLogin W login
  none_same login h c digest is = h c digest (down _ is)

  enter_same : (login : Name) (secret : Secret) → Follows (enter_check V login secret)
      (enter_check W login secret)
  enter_same login secret None h = (h.0, first_same login _ _ h.1)
  enter_same login secret (Some f) (inl h) = inl (h.0, none_same login h.1)
  enter_same login secret (Some f) (inr h) = inr (h.0, h.1, h.2, first_same login _ _ h.3, h.4)

  module _ (p : Process) where
    has : Within (effective V p) (effective W p)
    has = eff_more up (λ c h. h)

    had : Within (effective W p) (effective V p)
    had = eff_more down (λ c h. h)

    checked : (act : Act) → Follows (checks_of V p act) (checks_of W p act)
    checked (acts.Order order) = caps_same (effective V p) (effective W p) has had
        (In (order_takes order))
    checked (acts.Relabel side (Err e)) = stay (checks_of V p (acts.Relabel side (Err e)))
    checked (acts.Relabel side (Ok label)) =
        then_same (change_check (effective V p) (side_of side p.labels) label)
        (endpoints_check (effective V p) (with_side side label p.labels) p.mailbox.endpoints)
        (change_check (effective W p) (side_of side p.labels) label)
        (endpoints_check (effective W p) (with_side side label p.labels) p.mailbox.endpoints)
        (caps_same (effective V p) (effective W p) has had (Takes (side_of side p.labels) label))
        (ends_same (effective V p) (effective W p) has had
        (with_side side label p.labels) p.mailbox.endpoints)
    checked (acts.Ask c) = stay (checks_of V p (acts.Ask c))
    checked (acts.Spawn caps) = caps_same (effective V p) (effective W p) has had (In caps)
    checked acts.Exit = stay (checks_of V p acts.Exit)
    checked (acts.Drop c) =
        let E = InEffect V (In (remove (owns p) c)) in
        let F = InEffect W (In (remove (owns p) c)) in
        let more : Within E F = eff_more up (λ x h. h) in
        let less : Within F E = eff_more down (λ x h. h) in
        let owned = refuse_if (not (contains (owns p) c)) (refusals.NotOwned c) in
        then_same owned (endpoints_check E p.labels p.mailbox.endpoints)
        owned (endpoints_check F p.labels p.mailbox.endpoints) (stay owned)
        (ends_same E F more less p.labels p.mailbox.endpoints)
    checked (acts.Enter login secret) = enter_same login secret
    checked (acts.Emit bytes) = names_same (effective V p) (effective W p) has had
        (In p.labels.secrecy) refusals.Secrecy
    checked (acts.Mail mail) = mail_same (effective V p)
        (effective W p) has had p.labels p.mailbox mail

  answered : {P Q : Type 0} {outcome : Outcome} → (P → Q) → (Q → P) → Answers outcome P
      → Answers outcome Q
  answered to from (inl h) = inl (h.0, to h.1)
  answered to from (inr h) = inr (h.0, λ q. h.1 (from q))

  module _ (b b' : BenchState) (outcome : Outcome) where
    performed : (pid : Pid) (p : Process) (act : Act) → Performs V b pid p act outcome b'
        → Performs W b pid p act outcome b'
    performed pid p (acts.Order order) h = h
    performed pid p (acts.Relabel side (Err e)) h = h
    performed pid p (acts.Relabel side (Ok label)) h = h
    performed pid p (acts.Ask c) h = (answered (has p c) (had p c) h.0, h.1)
    performed pid p (acts.Spawn caps) h = h
    performed pid p acts.Exit h = h
    performed pid p (acts.Drop c) h = h
    performed pid p (acts.Enter login secret) h = (h.0, first_same login _ _ h.1, h.2, h.3)
    performed pid p (acts.Emit bytes) h = h
    performed pid p (acts.Mail mail) h = h

    effected : (job : Job) → Effect V b job outcome b' → Effect W b job outcome b'
    effected Proc h = h
    effected (By pid act) h = (h.0, h.1, performed pid h.0 act h.2)
    effected (Member root c) h =
        (answered (reach_more up (λ a e. e) c) (reach_more down (λ a e. e) c) h.0, h.1)
    effected (Arrive d) h = h

  module _ (b : BenchState) where
    acted : (p : Process) (act : Act)
        → Follows (act_checks V p act then bench_checks b act)
        (act_checks W p act then bench_checks b act)
    acted p act =
        let busy = refuse_if (is_busy p) refusals.Busy in
        then_same (act_checks V p act) (bench_checks b act) (act_checks W p act)
        (bench_checks b act)
        (then_same busy (checks_of V p act) busy (checks_of W p act) (stay busy) (checked p act))
        (stay (bench_checks b act))

    all_checked : (job : Job) → Follows (checks V b job) (checks W b job)
    all_checked Proc = stay (checks V b Proc)
    all_checked (By pid act) =
        with_same (map.get b.processes pid) (refusals.NoProcess pid)
        (λ p. act_checks V p act then bench_checks b act)
        (λ p. act_checks W p act then bench_checks b act)
        (λ p. acted p act)
    all_checked (Member root c) = stay (checks V b (Member root c))
    all_checked (Arrive d) = stay (checks V b (Arrive d))

    wants : (p : Process) (act : Act) → NeedsRoom V p act → NeedsRoom W p act
    wants p (acts.Order order) h = h
    wants p (acts.Relabel side label) h = h
    wants p (acts.Ask c) h = h
    wants p (acts.Spawn caps) h = h
    wants p acts.Exit h = h
    wants p (acts.Drop c) h = h
    wants p (acts.Enter login secret) h = (h.0, first_same login _ _ h.1, h.2)
    wants p (acts.Emit bytes) h = h
    wants p (acts.Mail mail) h = h

    job_wants : (job : Job) → JobNeedsRoom V b job → JobNeedsRoom W b job
    job_wants Proc h = h
    job_wants (By pid act) h = (h.0, h.1, wants h.0 act h.2)
    job_wants (Member root c) h = h
    job_wants (Arrive d) h = h

  pub does_same : {b b' : BenchState} {job : Job} {result : Result Outcome Refusal}
      → Does V b job result b' → Does W b job result b'
  does_same {b} {b'} {job} (passed {outcome} s f) = passed (all_checked b job None s)
      (effected b b' outcome job f)
  does_same {b} {job} (failed {f} s) = failed (all_checked b job (Some f) s)
  does_same {b} {job} (no_room t) = no_room (all_checked b job None t.0, job_wants b job t.1)
