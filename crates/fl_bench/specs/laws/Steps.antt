-- What a job comes to at a bench, job by job: it is refused, replied to, orders an operation, or
-- sends a packet.
use Rattle.std.proofs.Common.{◌≡◌, ◌∙◌, inl, inr, refl, sym, ap, subst, Bool, true, false, Some, None, Result, Ok, Err}
use Rattle.std.specs.Prelude.{not}
use Rattle.std.specs.FinMap as map
use Rattle.fl_labels.specs.Name.{name_cmp}
use Rattle.fl_labels.specs.PidOrder.{pid_total, pid_exact}
use Rattle.fl_labels.specs.SetBy as set
use Rattle.fl_labels.specs.SetBy.{SetBy, In}
use Rattle.fl_labels.specs.Found.{Within}
use Rattle.fl_labels.specs.declared.cap.Cap.{Cap}
use Rattle.fl_labels.specs.declared.cap.Cap.TheVariants.{Plus, Minus, Use, Grow}
use Rattle.fl_labels.specs.declared.endpoint.Endpoint.{Endpoint}
use Rattle.fl_labels.specs.declared.pid.Pid.{Pid}
use Rattle.fl_ops.specs.declared.op.Op.{Op}
use Rattle.fl_jobs.specs.declared.job.Side.{Side}
use Rattle.fl_jobs.specs.declared.job.Side.TheVariants.{Secrecy, Integrity}
use Rattle.fl_jobs.specs.declared.job.Act.{Act}
use Rattle.fl_jobs.specs.declared.job.Act.TheVariants.{Order, Relabel, Ask, Spawn, Exit, Drop, Enter, Emit, Mail}
use Rattle.fl_jobs.specs.declared.job.Job.{Job}
use Rattle.fl_jobs.specs.declared.job.Job.TheVariants.{Proc, By, Member, Arrive}
use Rattle.fl_jobs.specs.declared.job.Mail as mailbox
use Rattle.fl_jobs.specs.declared.job.Mail.TheVariants.{Open, Tune, Close, Send, Take}
use Rattle.fl_jobs.specs.declared.answer.Refusal.{Refusal}
use Rattle.fl_jobs.specs.declared.answer.Refusal.TheVariants.{NoProcess, Busy, NoEndpoint, NotWritable}
use Rattle.fl_jobs.specs.declared.answer.Reply.{Reply}
use Rattle.fl_jobs.specs.declared.answer.Outcome.{Outcome}
use Rattle.fl_rules.specs.Endpoint.{writes}
use Rattle.fl_rules.specs.Safety.{SafeChange}
use Rattle.fl_message.specs.declared.message.Data.{Data}
use Rattle.fl_message.specs.declared.message.Message.{Message}
use Rattle.fl_mailbox.specs.declared.mailbox.Mailbox.{Mailbox}
use Rattle.fl_mailbox.specs.declared.endpoints.OpenEndpoint.{OpenEndpoint}
use Rattle.fl_bench.specs.Checks.{refuse_if, with, ◌then◌}
use Rattle.fl_bench.specs.Guards.{grant_check}
use Rattle.fl_bench.specs.Mailbox.{mail_checks, IsSent}
use Rattle.fl_bench.specs.Process.{newborn, owns, is_busy, owning, child_of, effective}
use Rattle.fl_bench.specs.Process.{side_of, with_side, receiving}
use Rattle.fl_bench.specs.Bench.{BenchState, has_at}
use Rattle.fl_bench.specs.Jobs.{checks_of, act_checks, bench_checks, checks, Answers}
use Rattle.fl_bench.specs.Jobs.{Performs, Effect, Does, passed, failed, no_room}
use Rattle.fl_bench.specs.Following.{Follows}
use Rattle.fl_bench.specs.Births.{alone, of}
use Rattle.fl_bench.specs.declared.process.Process.{Process}
use Rattle.fl_mailbox.specs.laws.Tables.{put_same}
use Rattle.fl_bench.specs.Summary.{Keeps, stays, turns, Changes, keeps, bears, loses}
use Rattle.fl_bench.specs.Summary.{IsSending, Summary, refuses, replies, orders, sends}

-- ---- labels

-- to leave a label takes nothing
safe_same : (E : Cap → Type 0) (s : SetBy name_cmp) → SafeChange E s s
safe_same E s (Plus tag) h = let m = h.here in let n = h.not_there in absurd (cc)
safe_same E s (Minus tag) h = let m = h.here in let n = h.not_there in absurd (cc)
safe_same E s (Use group) h = absurd h
safe_same E s (Grow group) h = absurd h

module _ (V : Op → Type 0) where
  -- a process that has its labels still
  pub same_labels : (old new : Process) → new.labels ≡ old.labels → Follows V (Some old) (Some new)
  same_labels old new e side =
      subst (λ l. SafeChange (effective V old) (side_of side old.labels) (side_of side l)) (sym e)
      (safe_same _ _)

  -- a label that is set leaves the other one
  set_label : (p : Process) (side : Side) (label : SetBy name_cmp)
      → SafeChange (effective V p) (side_of side p.labels) label
      → Follows V (Some p) (Some (record p { labels = with_side side label p.labels }))
  set_label p Secrecy label h Secrecy = h
  set_label p Integrity label h Integrity = h
  set_label p Secrecy label h Integrity = safe_same _ _
  set_label p Integrity label h Secrecy = safe_same _ _

  -- ---- the step of each job

  module _ (b : BenchState) where
    replied : {job : Job} {x : Outcome} {reply : Reply} {after : BenchState}
        → x ≡ Outcome.Reply reply → Changes V b job after → Summary V b job (Ok x) after
    replied {job} {after} e h = subst (λ x. Summary V b job (Ok x) after) (sym e) (replies h)

    answered : {job : Job} {x : Outcome} {P : Type 0} {after : BenchState} → Answers x P → after ≡ b
        → Summary V b job (Ok x) after
    answered (inl h) e = replied h.0 (keeps (stays e))
    answered (inr h) e = replied h.0 (keeps (stays e))

    -- a process that has its mailbox still is put back
    unchanged : (pid : Pid) (p : Process) (ch : Mailbox) {after : BenchState}
        → map.get b.processes pid ≡ Some p → ch ≡ p.mailbox
        → after ≡ has_at b pid (record p { mailbox = ch }) → after ≡ b
    unchanged pid p ch e same is =
        is ∙ ap (λ c. has_at b pid (record p { mailbox = c })) same ∙ ap
        (λ m. record b { processes = m }) (put_same pid_total pid_exact b.processes pid p e)

    -- a process that works with its mailbox has its labels still
    mailbox_turn : (pid : Pid) (p : Process) (ch : Mailbox) {after : BenchState}
        → map.get b.processes pid ≡ Some p → after ≡ has_at b pid (record p { mailbox = ch })
        → Keeps V b after
    mailbox_turn pid p ch e is =
        turns pid p (record p { mailbox = ch }) e (same_labels p (record p { mailbox = ch }) refl)
        is

    is_writable : (may : Bool) (f : Refusal) → refuse_if (not may) f None → may ≡ true
    is_writable true f h = refl
    is_writable false f h = absurd (cc)

    -- what a sender has passed
    send_passed : (p : Process) (from to : Endpoint) (receiver : Pid) (message : Message)
        (opened : OpenEndpoint)
        → map.get p.mailbox.endpoints from ≡ Some opened
        → mail_checks (effective V p) p.labels p.mailbox (Send from receiver to message) None
        → (writes opened.mode ≡ true) × Within (In message.caps) (effective V p)
    send_passed p from to receiver message opened e h =
        let both = subst (λ o. with o (NoEndpoint from)
        (λ opened. refuse_if (not (writes opened.mode)) (NotWritable from) then grant_check
        (effective V p) message.caps) None) e h in
        (is_writable (writes opened.mode) (NotWritable from) both.0, both.1)

    is_sending : (pid : Pid) (p : Process) (from to : Endpoint) (receiver : Pid) (message : Message)
        (opened : OpenEndpoint) (d : Data)
        → map.get b.processes pid ≡ Some p → map.get p.mailbox.endpoints from ≡ Some opened
        → mail_checks (effective V p) p.labels p.mailbox (Send from receiver to message) None →
        IsSent pid from opened.labels receiver to message d → IsSending V b
        (By pid (Mail (Send from receiver to message))) d
    is_sending pid p from to receiver message opened d e there h is =
        let both = send_passed p from to receiver message opened there h in
        record {
          process = p;
          lived = subst (λ k. map.get b.processes k ≡ Some p) (sym is.sender_is) e;
          opened = opened;
          is_open = subst (λ k. map.get p.mailbox.endpoints k ≡ Some opened) (sym is.from_is) there;
          writable = both.0;
          secrecy_is = is.secrecy_is;
          integrity_is = is.integrity_is;
          asked =
              λ i. By (sym is.sender_is i) (Mail
              (Send (sym is.from_is i) (sym is.receiver_is i) (sym is.to_is i)
              (sym is.message_is i)));
          granted =
              subst (λ (m : Message). Within (In m.caps) (effective V p)) (sym is.message_is)
              both.1;
        }

    mail_step : (pid : Pid) (p : Process) (work : mailbox.Mail) (x : Outcome) (after : BenchState)
        → map.get b.processes pid ≡ Some p
        → mail_checks (effective V p) p.labels p.mailbox work None
        → Performs V b pid p (Mail work) x after → Summary V b (By pid (Mail work)) (Ok x) after
    mail_step pid p (Open mode given) x after e h f =
        replied f.1.4 (keeps (mailbox_turn pid p f.0 e f.2))
    mail_step pid p (Tune end given) x after e h f =
        replied f.1.4 (keeps (mailbox_turn pid p f.0 e f.2))
    mail_step pid p (Close end) x after e h f = replied f.1.0 (keeps (mailbox_turn pid p f.0 e f.2))
    mail_step pid p (Send from receiver to message) x after e h f =
        subst (λ x. Summary V b (By pid (Mail (Send from receiver to message))) (Ok x) after)
        (sym f.1.4)
        (sends (is_sending pid p from to receiver message f.1.0 f.1.2 e f.1.1 h f.1.3)
        (unchanged pid p f.0 e f.1.5 f.2))
    mail_step pid p Take x after e h f = replied f.1.0 (keeps (mailbox_turn pid p f.0 e f.2))

    act_step : (pid : Pid) (p : Process) (act : Act) (x : Outcome) (after : BenchState)
        → map.get b.processes pid ≡ Some p → is_busy p ≡ false → checks_of V p act None
        → Performs V b pid p act x after → Summary V b (By pid act) (Ok x) after
    act_step pid p (Order order) x after e idle h f =
        subst (λ x. Summary V b (By pid (Order order)) (Ok x) after) (sym f.0)
        (orders (record {
          process = p;
          lived = e;
          idle = idle;
          order = order;
          asked = refl;
          allowed
              = h;
          body_is = refl;
          leaves = f.1;
        }))
    act_step pid p (Relabel side (Ok label)) x after e idle h f =
        replied f.0 (keeps (turns pid p _ e (set_label p side label h.0) f.1))
    act_step pid p (Relabel side (Err long)) x after e idle h f = absurd f
    act_step pid p (Ask c) x after e idle h f = answered f.0 f.1
    act_step pid p (Spawn caps) x after e idle h f =
        replied f.2 (bears f.0 (child_of p caps) (record { next = f.1; child_is = of refl e h })
        f.3)
    act_step pid p Exit x after e idle h f = replied f.0 (loses pid refl f.1)
    act_step pid p (Drop c) x after e idle h f =
        let new = owning p (set.remove (owns p) c) in replied f.0
        (keeps (turns pid p new e (same_labels p new refl) f.1))
    act_step pid p (Enter login secret) x after e idle h f =
        let new = owning p (set.insert (owns p) f.0) in replied f.2
        (keeps (turns pid p new e (same_labels p new refl) f.3))
    act_step pid p (Emit bytes) x after e idle h f = replied f.0 (keeps (stays f.1))
    act_step pid p (Mail work) x after e idle h f = mail_step pid p work x after e h f

    all_passed : (pid : Pid) (act : Act) (p : Process) → map.get b.processes pid ≡ Some p
        → checks V b (By pid act) None → (act_checks V p act then bench_checks b act) None
    all_passed pid act p e h =
        subst (λ o. with o (NoProcess pid) (λ p. act_checks V p act then bench_checks b act) None) e
        h

    -- what the process that asks has passed
    pub passed_by : (pid : Pid) (act : Act) (p : Process) → map.get b.processes pid ≡ Some p
        → checks V b (By pid act) None → act_checks V p act None
    passed_by pid act p e h = (all_passed pid act p e h).0

    is_idle : (busy : Bool) → refuse_if busy Busy None → busy ≡ false
    is_idle true h = absurd (cc)
    is_idle false h = refl

    job_step : (job : Job) (x : Outcome) (after : BenchState) → checks V b job None
        → Effect V b job x after → Summary V b job (Ok x) after
    job_step Proc x after h f =
        replied f.2 (bears f.0 newborn (record { next = f.1; child_is = alone refl }) f.3)
    job_step (By pid act) x after h f =
        let both = passed_by pid act f.0 f.1 h in
        act_step pid f.0 act x after f.1 (is_idle (is_busy f.0) both.0) both.1 f.2
    job_step (Member root c) x after h f = answered f.0 f.1
    job_step (Arrive d) x after h f =
        let new = receiving f.0 d in replied f.2
        (keeps (turns d.receiver f.0 new f.1 (same_labels f.0 new refl) f.3))

    pub does_step : {job : Job} {r : Result Outcome Refusal} {after : BenchState}
        → Does V b job r after → Summary V b job r after
    does_step {job} {after} (passed {outcome} h f) = job_step job outcome after h f
    does_step (failed h) = refuses
    does_step (no_room t) = refuses
