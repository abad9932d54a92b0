-- A job that is not refused for want of memory has one result.
use Rattle.std.proofs.Common.{◌≡◌, ◌≢◌, ◌∙◌, inl, inr, refl, sym, ap, subst, Some, None, Result, Ok, Err}
use Rattle.std.specs.FinMap as map
use Rattle.fl_labels.specs.CapOrder.{cap_total, cap_exact}
use Rattle.fl_labels.specs.NameOrder.{name_total, name_exact}
use Rattle.fl_labels.specs.SetBy as set
use Rattle.fl_labels.specs.SetBy.{In}
use Rattle.fl_labels.specs.PidOrder.{same_pid}
use Rattle.fl_labels.specs.declared.name.Name.{Name}
use Rattle.fl_labels.specs.declared.cap.Cap.{Cap}
use Rattle.fl_labels.specs.declared.pid.Pid.{Pid}
use Rattle.fl_ops.specs.declared.digest.Digest.{Digest}
use Rattle.fl_ops.specs.declared.op.Op.{Op}
use Rattle.fl_ops.specs.Registry.{InEffect}
use Rattle.fl_ops.specs.Logins.{IsFirstLogin}
use Rattle.fl_ops.specs.laws.Logins.{one_first}
use Rattle.fl_rules.specs.declared.labels.Labels.{Labels}
use Rattle.fl_mailbox.specs.Endpoints.{Table}
use Rattle.fl_jobs.specs.declared.secret.Secret.{Secret}
use Rattle.fl_jobs.specs.declared.job.Act.{Act}
use Rattle.fl_jobs.specs.declared.job.Act.TheVariants.{Order, Relabel, Ask, Spawn, Exit, Drop, Enter, Emit, Mail}
use Rattle.fl_jobs.specs.declared.job.Job.{Job}
use Rattle.fl_jobs.specs.declared.job.Job.TheVariants.{Proc, By, Member, Arrive}
use Rattle.fl_jobs.specs.declared.answer.Refusal.{Refusal}
use Rattle.fl_jobs.specs.declared.answer.Refusal.TheVariants.{NoProcess, MissingCap, Secrecy, Busy, Memory}
use Rattle.fl_jobs.specs.declared.answer.Reply.TheVariants.{Made, Entered}
use Rattle.fl_jobs.specs.declared.answer.Outcome.{Outcome}
use Rattle.fl_mailbox.specs.TableLaws.{offender_exact, offender_total}
use Rattle.fl_bench.specs.Checks.{refuse_if, ◌then◌}
use Rattle.fl_bench.specs.Guards.{endpoints_check, unsafe_by}
use Rattle.fl_bench.specs.Mailbox.{arrival_checks}
use Rattle.fl_bench.specs.Secrets.{digest_of}
use Rattle.fl_bench.specs.Process.{newborn, owns, owning, child_of, is_busy, effective, receiving}
use Rattle.fl_bench.specs.Bench.{BenchState, IsNext, has_at, born}
use Rattle.fl_bench.specs.Jobs.{enter_check, checks_of, act_checks, bench_checks}
use Rattle.fl_bench.specs.Jobs.{checks, Answers, Performs, Effect, Does, passed, failed, no_room}
use Rattle.fl_bench.specs.declared.process.Process.{Process}
use Rattle.fl_bench.specs.laws.Puts.{same_found}
use Rattle.fl_bench_laws.specs.laws.OneCheck.{OneVerdict, one_said, one_then, one_demand, one_with}
use Rattle.fl_bench_laws.specs.laws.OneMail.{one_mail_check, one_arrival_check, one_mail_does}

-- ---- each job has one verdict

-- an entry, since a name has one first login
module _ (V : Op → Type 0) (login : Name) (secret : Secret) where
  let_in_once : (c d : Cap) → IsFirstLogin V login c (digest_of secret)
      → IsFirstLogin V login d (digest_of secret) → c ≡ d
  let_in_once c d h k = (one_first V login c d (digest_of secret) (digest_of secret) h k).0

  same_digest : (c d : Cap) (x y : Digest) → IsFirstLogin V login c x → IsFirstLogin V login d y
      → x ≡ y
  same_digest c d x y h k = (one_first V login c d x y h k).1

  one_enter_check : OneVerdict (enter_check V login secret)
  one_enter_check None None h k = refl
  one_enter_check None (Some g) h (inl k) = absurd (k.1 h.0 (digest_of secret) h.1.member)
  one_enter_check None (Some g) h (inr k) =
      absurd (k.4 (same_digest k.1 h.0 k.2 (digest_of secret) k.3 h.1))
  one_enter_check (Some f) None (inl h) k = absurd (h.1 k.0 (digest_of secret) k.1.member)
  one_enter_check (Some f) None (inr h) k =
      absurd (h.4 (same_digest h.1 k.0 h.2 (digest_of secret) h.3 k.1))
  one_enter_check (Some f) (Some g) (inl h) (inl k) = ap Some (h.0 ∙ sym k.0)
  one_enter_check (Some f) (Some g) (inl h) (inr k) = absurd (h.1 k.1 k.2 k.3.member)
  one_enter_check (Some f) (Some g) (inr h) (inl k) = absurd (k.1 h.1 h.2 h.3.member)
  one_enter_check (Some f) (Some g) (inr h) (inr k) = ap Some (h.0 ∙ sym k.0)

one_endpoints_check : (E : Cap → Type 0) (process : Labels) (table : Table)
    → OneVerdict (endpoints_check E process table)
one_endpoints_check E process table = one_demand offender_total offender_exact _ _ unsafe_by

module _ (V : Op → Type 0) where
  one_check_of : (p : Process) (act : Act) → OneVerdict (checks_of V p act)
  one_check_of p (Order order) = one_demand cap_total cap_exact _ _ MissingCap
  one_check_of p (Relabel side (Ok label)) =
      one_then _ _ (one_demand cap_total cap_exact _ _ MissingCap)
      (one_endpoints_check (effective V p) _ _)
  one_check_of p (Relabel side (Err long)) = one_said
  one_check_of p (Ask c) = one_said
  one_check_of p (Spawn caps) = one_demand cap_total cap_exact _ _ MissingCap
  one_check_of p Exit = one_said
  one_check_of p (Drop c) =
      one_then _ _ one_said (one_endpoints_check (InEffect V (In (set.remove (owns p) c))) _ _)
  one_check_of p (Enter login secret) = one_enter_check V login secret
  one_check_of p (Emit bytes) = one_demand name_total name_exact _ _ Secrecy
  one_check_of p (Mail work) = one_mail_check (effective V p) p.labels p.mailbox work

  one_bench_check : (b : BenchState) (act : Act) → OneVerdict (bench_checks b act)
  one_bench_check b (Spawn caps) = one_said
  one_bench_check b (Order order) = one_said
  one_bench_check b (Relabel side label) = one_said
  one_bench_check b (Ask c) = one_said
  one_bench_check b Exit = one_said
  one_bench_check b (Drop c) = one_said
  one_bench_check b (Enter login secret) = one_said
  one_bench_check b (Emit bytes) = one_said
  one_bench_check b (Mail work) = one_said

  one_act_check : (b : BenchState) (act : Act) (p : Process)
      → OneVerdict (act_checks V p act then bench_checks b act)
  one_act_check b act p =
      one_then (act_checks V p act) (bench_checks b act)
      (one_then (refuse_if (is_busy p) Busy) (checks_of V p act) one_said (one_check_of p act))
      (one_bench_check b act)

  one_check : (b : BenchState) (job : Job) → OneVerdict (checks V b job)
  one_check b Proc = one_said
  one_check b (By pid act) =
      one_with (map.get b.processes pid) (NoProcess pid)
      (λ p. act_checks V p act then bench_checks b act) (one_act_check b act)
  one_check b (Member root c) = one_said
  one_check b (Arrive d) =
      one_with (map.get b.processes d.receiver) (NoProcess d.receiver)
      (λ q. refuse_if (is_busy q) Busy then arrival_checks q.mailbox d)
      (λ q. one_then (refuse_if (is_busy q) Busy) (arrival_checks q.mailbox d) one_said
      (one_arrival_check q.mailbox d))

-- ---- each job that passes has one end

-- the same result, and the same bench
abbrev Same : {A : Type 0} → A → A → BenchState → BenchState → Type 0
Same x y c d = (x ≡ y) × (c ≡ d)

-- one outcome, and one bench
abbrev OneEnd : (Outcome → BenchState → Type 0) → Type 0
OneEnd Ends = (x y : Outcome) (c d : BenchState) → Ends x c → Ends y d → Same x y c d

-- an end that says both
one_end : {outcome : Outcome} {after : BenchState} → OneEnd (λ x c. (x ≡ outcome) × (c ≡ after))
one_end x y c d h k = (h.0 ∙ sym k.0, h.1 ∙ sym k.1)

one_answer : {P : Type 0} {after : BenchState} → OneEnd (λ x c. Answers x P × (c ≡ after))
one_answer x y c d (inl h, e) (inl k, f) = (h.0 ∙ sym k.0, e ∙ sym f)
one_answer x y c d (inl h, e) (inr k, f) = absurd (k.1 h.1)
one_answer x y c d (inr h, e) (inl k, f) = absurd (h.1 k.1)
one_answer x y c d (inr h, e) (inr k, f) = (h.0 ∙ sym k.0, e ∙ sym f)

module _ (V : Op → Type 0) (b : BenchState) where
  one_next : (p q : Pid) → IsNext b p → IsNext b q → p ≡ q
  one_next p q h k =
      same_pid p q (h.node ∙ sym k.node) (h.boot ∙ sym k.boot) (h.serial ∙ sym k.serial)

  one_performs : (pid : Pid) (p : Process) (act : Act) → OneEnd (Performs V b pid p act)
  one_performs pid p (Order order) = one_end
  one_performs pid p (Relabel side (Ok label)) = one_end
  one_performs pid p (Relabel side (Err long)) = λ x y c d h k. absurd h
  one_performs pid p (Ask c) = one_answer
  one_performs pid p (Spawn caps) = λ x y c d h k.
      let e : h.0 ≡ k.0 = one_next h.0 k.0 h.1 k.1 in (
        h.2 ∙ ap (λ q. Outcome.Reply (Made q)) e ∙ sym k.2,
        h.3 ∙ ap
            (λ q. born b q (child_of p caps)) e ∙ sym k.3,
      )
  one_performs pid p Exit = one_end
  one_performs pid p (Drop c) = one_end
  one_performs pid p (Enter login secret) = λ x y c d h k.
      let e : h.0 ≡ k.0 = let_in_once V login secret h.0 k.0 h.1 k.1 in (
        h.2 ∙ ap (λ cap. Outcome.Reply (Entered cap)) e ∙ sym k.2,
        h.3 ∙ ap
            (λ cap. has_at b pid (owning p (set.insert (owns p) cap))) e ∙ sym k.3,
      )
  one_performs pid p (Emit bytes) = one_end
  one_performs pid p (Mail work) = λ x y c d h k.
      let e = one_mail_does pid p.mailbox work x y h.0 k.0 h.1 k.1 in
      (e.0, h.2 ∙ ap (λ ch. has_at b pid (record p { mailbox = ch })) e.1 ∙ sym k.2)

  one_effect : (job : Job) → OneEnd (Effect V b job)
  one_effect Proc x y c d h k =
      let e : h.0 ≡ k.0 = one_next h.0 k.0 h.1 k.1 in (
        h.2 ∙ ap (λ p. Outcome.Reply (Made p)) e ∙ sym k.2,
        h.3 ∙ ap (λ p. born b p newborn) e ∙ sym
            k.3,
      )
  one_effect (By pid act) x y c d h k =
      let e : k.0 ≡ h.0 = same_found k.1 h.1 in
      one_performs pid h.0 act x y c d h.2 (subst (λ p. Performs V b pid p act y d) e k.2)
  one_effect (Member root cap) x y c d h k = one_answer x y c d h k
  one_effect (Arrive message) x y c d h k =
      let e : h.0 ≡ k.0 = same_found h.1 k.1 in
      (h.2 ∙ sym k.2, h.3 ∙ ap (λ q. has_at b message.receiver (receiving q message)) e ∙ sym k.3)

  -- ---- a job

  pub one_result : (job : Job) (r s : Result Outcome Refusal) (c d : BenchState) → Does V b job r c
      → Does V b job s d → r ≢ Err Memory → s ≢ Err Memory → Same r s c d
  one_result job r s c d (passed {outcome = x} h f) (passed {outcome = y} k g) p q =
      let e = one_effect job x y c d f g in
      (ap Ok e.0, e.1)
  one_result job r s c d (failed {f} h) (failed {f = g} k) p q =
      let e : Some f ≡ Some g = one_check V b job (Some f) (Some g) h k in
      (ap Err (cc), refl)
  one_result job r s c d (passed h f) (failed {f = g} k) p q =
      let e : None ≡ Some g = one_check V b job None (Some g) h k in
      absurd (cc)
  one_result job r s c d (failed {f} h) (passed k g) p q =
      let e : Some f ≡ None = one_check V b job (Some f) None h k in
      absurd (cc)
  one_result job r s c d (no_room t) k p q = absurd (p refl)
  one_result job r s c d h (no_room t) p q = absurd (q refl)
