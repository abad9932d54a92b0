-- What the answers owe that are foretold.
use Rattle.std.proofs.Common.{◌≡◌, ◌⊎◌, ◌∙◌, inl, inr, refl, sym, ap, subst, Bool, true, false, List, Option, Some, None, Result, Ok, Err}
use Rattle.std.specs.Result.{IsErr, IsErrAnd}
use Rattle.std.specs.FinMap as map
use Rattle.fl_labels.specs.Cap.{cap_cmp}
use Rattle.fl_labels.specs.Caps.{Caps}
use Rattle.fl_labels.specs.Name.{name_cmp}
use Rattle.fl_labels.specs.Pid.{pid_cmp}
use Rattle.fl_labels.specs.SetBy.{SetBy, In}
use Rattle.fl_labels.specs.declared.cap.Cap.{Cap}
use Rattle.fl_labels.specs.declared.pid.Pid.{Pid}
use Rattle.fl_ops.specs.declared.op.Op.{Op}
use Rattle.fl_ops.specs.Registry.{From, InEffect, Listed, Reach, Registry}
use Rattle.fl_jobs.specs.declared.answer.Outcome.{Outcome}
use Rattle.fl_jobs.specs.declared.answer.Refusal.{Refusal}
use Rattle.fl_jobs.specs.declared.answer.Refusal.TheVariants.{Busy, NoProcess}
use Rattle.fl_jobs.specs.declared.answer.Reply.{Reply}
use Rattle.fl_jobs.specs.declared.answer.Reply.TheVariants.{Done}
use Rattle.fl_jobs.specs.declared.job.Act.{Act}
use Rattle.fl_jobs.specs.declared.job.Act.TheVariants.{Order, Relabel, Ask, Spawn, Exit, Drop, Enter, Emit, Mail}
use Rattle.fl_jobs.specs.declared.job.Job.{Job}
use Rattle.fl_jobs.specs.declared.job.Job.TheVariants.{Proc, By, Member, Arrive}
use Rattle.fl_jobs.specs.declared.job.Mail as mailbox
use Rattle.fl_jobs.specs.declared.job.Order as orders
use Rattle.fl_jobs.specs.declared.job.Side.{Side}
use Rattle.fl_jobs.specs.declared.job.TooLong.{TooLong}
use Rattle.fl_rules.specs.declared.labels.Labels.{Labels}
use Rattle.fl_message.specs.declared.message.Data.{Data}
use Rattle.fl_mailbox.specs.declared.mailbox.Mailbox.{Mailbox}
use Rattle.fl_bench.specs.Bench.{BenchState}
use Rattle.fl_bench.specs.Checks.{Check, refuse_if, ◌then◌}
use Rattle.fl_bench.specs.Foresight.{Could, Foretells, all_checks, guard_checks}
use Rattle.fl_bench.specs.Jobs.{Answers, act_checks, bench_checks, checks, checks_of, emission_check, serials_left}
use Rattle.fl_bench.specs.Mailbox.{arrival_checks, mail_checks}
use Rattle.fl_bench.specs.Process.{effective, is_busy}
use Rattle.fl_bench.specs.declared.process.Holding.TheVariants.{Idle}
use Rattle.fl_bench.specs.declared.process.Process.{Process}
use Rattle.fl_monitor.specs.parts.Checked.{Checked, drop_checks, given_checks}
use Rattle.fl_monitor.specs.parts.Could.{ActCould, CouldBy, ForetellsBy, could_checks, coming_checks, guard_check, idle_with}
use Rattle.fl_monitor.proofs.ArrivalLemmas.{is_idle, is_not_idle}
use Rattle.fl_monitor.proofs.CheckLemmas.{checks_with, fails_without, goes_on_with, has_failed, has_passed, passed_on, then_goes_on}

same_reply : {q r : Reply} → ◌≡◌ {A = Result Reply Refusal} (Ok q) (Ok r) → q ≡ r
same_reply {q} e = ap (λ (t : Result Reply Refusal). elim t [ Ok r ↦ r | Err f ↦ q ]) e

same_refusal : {f g : Refusal} → ◌≡◌ {A = Result Reply Refusal} (Err f) (Err g) → f ≡ g
same_refusal {f} e = ap (λ (t : Result Reply Refusal). elim t [ Ok r ↦ f | Err g ↦ g ]) e

-- ---- one process

-- where orders are not guarded, and of all other acts, the guard passes
pub not_guarded : (E : Caps) (secrecy : SetBy name_cmp) (act : Act) → Checked (guard_check false E secrecy act) (Ok tt)
not_guarded E secrecy act = Checked.passed refl

pub no_order : (E : Caps) (secrecy : SetBy name_cmp) (act : Act) → ((order : orders.Order) → act ≡ Order order → ⊥) → Checked (guard_check true E secrecy act) (Ok tt)
no_order E secrecy (Order order) n = absurd (n order refl)
no_order E secrecy (Relabel side label) n = Checked.passed refl
no_order E secrecy (Ask c) n = Checked.passed refl
no_order E secrecy (Spawn caps) n = Checked.passed refl
no_order E secrecy Exit n = Checked.passed refl
no_order E secrecy (Drop c) n = Checked.passed refl
no_order E secrecy (Enter login secret) n = Checked.passed refl
no_order E secrecy (Emit bytes) n = Checked.passed refl
no_order E secrecy (Mail mail) n = Checked.passed refl

pub no_question : (E : Caps) (act : Act) → ((c : Cap) → act ≡ Ask c → ⊥) → ForetellsBy E act Done
no_question E (Order order) n = refl
no_question E (Relabel side label) n = refl
no_question E (Ask c) n = absurd (n c refl)
no_question E (Spawn caps) n = refl
no_question E Exit n = refl
no_question E (Drop c) n = refl
no_question E (Enter login secret) n = refl
no_question E (Emit bytes) n = refl
no_question E (Mail mail) n = refl

pub could_busy : (guards : Bool) (V : Registry) (p : Process) (act : Act) → ((owned : SetBy cap_cmp) → p.owned ≡ Idle owned → ⊥) → ActCould guards V p act (Err Busy)
could_busy guards V p act n = ActCould.failed (inl (is_not_idle p n))

module _ (p : Process) (owned : SetBy cap_cmp) (is : p.owned ≡ Idle owned) where
  -- the process, of which no operation is under way
  abbrev idle : Process
  idle = record p { owned = Idle owned }

  -- what it owns is as before
  pub still : (after : SetBy cap_cmp) → after ≡ owned → record p { owned = Idle after } ≡ p
  still after same = ap (λ h. record p { owned = h }) (ap Idle same ∙ sym is)

  module _ (guards : Bool) (ops : List Op) (act : Act) where
    as_it_is : {r : Result Reply Refusal} → ActCould guards (Listed ops) idle act r → ActCould guards (Listed ops) p act r
    as_it_is {r} h = subst (λ o. ActCould guards (Listed ops) (record p { owned = o }) act r) (sym is) h

    module _ {r : Result (Unit {0}) Refusal} (guarded : Checked (guard_check guards (InEffect (Listed ops) (In owned)) p.labels.secrecy act) r) where
      pub guard_refuses : (f : Refusal) → r ≡ Err f → (q : Result Reply Refusal) → IsErr q × IsErrAnd q (λ g. g ≡ f) → ActCould guards (Listed ops) p act q
      guard_refuses f e q s = subst (λ q. ActCould guards (Listed ops) p act q) (sym (passed_on q f s)) (as_it_is (ActCould.failed (inr (refl, inl (has_failed guarded f e)))))

      -- the guard passes, and the act itself is looked at
      module _ (u : Unit {0}) (e : r ≡ Ok u) (now : List Op) (same : now ≡ ops) {t : Result (Unit {0}) Refusal} (looked : Checked (checks_of (Listed now) idle act) t) where
        checked : Checked (checks_of (Listed ops) idle act) t
        checked = subst (λ ops. Checked (checks_of (Listed ops) idle act) t) same looked

        pub act_refuses : (f : Refusal) → t ≡ Err f → (q : Result Reply Refusal) → IsErr q × IsErrAnd q (λ g. g ≡ f) → ActCould guards (Listed ops) p act q
        act_refuses f h q s = subst (λ q. ActCould guards (Listed ops) p act q) (sym (passed_on q f s)) (as_it_is (ActCould.failed (inr (refl, inr (has_passed guarded u e, has_failed checked f h)))))

        pub act_foretold : (v : Unit {0}) → t ≡ Ok v → (later : List Op) → later ≡ ops → (reply : Reply) → ForetellsBy (InEffect (Listed later) (In owned)) act reply → ActCould guards (Listed ops) p act (Ok reply)
        act_foretold v h later as_before reply tells =
            as_it_is (ActCould.passed (refl, (has_passed guarded u e, has_passed checked v h))
            (subst (λ ops. ForetellsBy (InEffect (Listed ops) (In owned)) act reply) as_before tells))

-- an act by another name
pub act_as : (V : Registry) (p : Process) (act a : Act) → act ≡ a → {r : Result (Unit {0}) Refusal} → Checked (checks_of V p a) r → Checked (checks_of V p act) r
act_as V p act a is {r} h = subst (λ x. Checked (checks_of V p x) r) (sym is) h

pub act_relabels : (V : Registry) (p : Process) (act : Act) (side : Side) (given : Result (SetBy name_cmp) TooLong) → act ≡ Relabel side given → {r : Result (Unit {0}) Refusal}
    → Checked (given_checks (effective V p) p.labels p.mailbox.endpoints side given) r → Checked (checks_of V p act) r
act_relabels V p act side given is {r} h = act_as V p act (Relabel side given) is (by_given given h)
  where
    by_given : (given : Result (SetBy name_cmp) TooLong) → Checked (given_checks (effective V p) p.labels p.mailbox.endpoints side given) r → Checked (checks_of V p (Relabel side given)) r
    by_given (Ok label) h = h
    by_given (Err long) h = h

module _ (ops : List Op) (labels : Labels) (owned : SetBy cap_cmp) (ch : Mailbox) (act : Act) (l : Labels) (same : l ≡ labels) {r : Result (Unit {0}) Refusal} where
  pub act_drops : (c : Cap) → act ≡ Drop c → Checked (drop_checks (Listed ops) l ch.endpoints owned c) r → Checked (checks_of (Listed ops) (idle_with labels owned ch) act) r
  act_drops c is h = act_as (Listed ops) (idle_with labels owned ch) act (Drop c) is (subst (λ l. Checked (drop_checks (Listed ops) l ch.endpoints owned c) r) same h)

  pub act_mails : (mail : mailbox.Mail) → act ≡ Mail mail → (caps : SetBy cap_cmp) → caps ≡ owned → Checked (mail_checks (InEffect (Listed ops) (In caps)) l ch mail) r → Checked (checks_of (Listed ops) (idle_with labels owned ch) act) r
  act_mails mail is caps lent h =
      act_as (Listed ops) (idle_with labels owned ch) act (Mail mail) is
      (subst (λ l. Checked (mail_checks (InEffect (Listed ops) (In owned)) l ch mail) r) same
      (subst (λ s. Checked (mail_checks (InEffect (Listed ops) (In s)) l ch mail) r) lent h))

-- ---- a message that comes to one of many

module _ (m : map.FinMap pid_cmp Process) (d : Data) where
  abbrev more : Process → Check
  more q = refuse_if (is_busy q) Busy then arrival_checks q.mailbox d

  pub comes_to_nobody : map.get m d.receiver ≡ None → Checked (coming_checks m d) (Err (NoProcess d.receiver))
  comes_to_nobody none = Checked.failed (fails_without (map.get m d.receiver) (NoProcess d.receiver) more none)

  module _ (q : Process) (there : map.get m d.receiver ≡ Some q) where
    pub comes_to_busy : ((owned : SetBy cap_cmp) → q.owned ≡ Idle owned → ⊥) → Checked (coming_checks m d) (Err Busy)
    comes_to_busy n = checks_with (map.get m d.receiver) (NoProcess d.receiver) more q there (Checked.failed (inl (is_not_idle q n)))

    pub comes_to : (owned : SetBy cap_cmp) → q.owned ≡ Idle owned → {r : Result (Unit {0}) Refusal} → Checked (arrival_checks q.mailbox d) r → Checked (coming_checks m d) r
    comes_to owned is h = checks_with (map.get m d.receiver) (NoProcess d.receiver) more q there (then_goes_on (refuse_if (is_busy q) Busy) (arrival_checks q.mailbox d) (is_idle q owned is) h)

-- ---- a job at a bench

-- of a job that no guard is asked for
module _ (guards : Bool) (V : Registry) (b : BenchState) (job : Job) where
  pub all_are : guard_checks V b job None → (v : Option Refusal) → checks V b job v → all_checks guards V b job v
  all_are g v h = by_guards guards v h
    where
      by_guards : (guards : Bool) (v : Option Refusal) → checks V b job v → all_checks guards V b job v
      by_guards false v h = h
      by_guards true None h = (g, h)
      by_guards true (Some f) h = inr (g, h)

  -- a check fails, and is passed on
  pub could_not : (f : Refusal) → all_checks guards V b job (Some f) → (q : Result Reply Refusal) → IsErr q × IsErrAnd q (λ g. g ≡ f) → Could guards V b job q
  could_not f h q s = subst (Could guards V b job) (sym (passed_on q f s)) (Could.failed h)

module _ (guards : Bool) (V : Registry) (b : BenchState) where
  pub proc_not : (f : Refusal) → serials_left b (Some f) → (q : Result Reply Refusal) → IsErr q × IsErrAnd q (λ g. g ≡ f) → Could guards V b Proc q
  proc_not f h q s = could_not guards V b Proc f (all_are guards V b Proc refl (Some f) h) q s

  pub proc_could : serials_left b None → Could guards V b Proc (Ok Done)
  proc_could h = Could.passed (all_are guards V b Proc refl None h) refl

  pub member_could : (root c : Cap) (reply : Reply) → Answers (Outcome.Reply reply) (Reach V (From root) c) → Could guards V b (Member root c) (Ok reply)
  member_could root c reply h = Could.passed (all_are guards V b (Member root c) refl None refl) (h, refl)

  module _ (a : BenchState) (is : a ≡ b) (d : Data) {r : Result (Unit {0}) Refusal} (comes : Checked (coming_checks a.processes d) r) where
    h : Checked (coming_checks b.processes d) r
    h = subst (λ x. Checked (coming_checks x.processes d) r) is comes

    pub arrive_not : (f : Refusal) → r ≡ Err f → (q : Result Reply Refusal) → IsErr q × IsErrAnd q (λ g. g ≡ f) → Could guards V b (Arrive d) q
    arrive_not f e q s = could_not guards V b (Arrive d) f (all_are guards V b (Arrive d) refl (Some f) (has_failed h f e)) q s

    pub arrive_could : (u : Unit {0}) → r ≡ Ok u → Could guards V b (Arrive d) (Ok Done)
    arrive_could u e = Could.passed (all_are guards V b (Arrive d) refl None (has_passed h u e)) refl

-- the bench is as before
pub same_bench : (a b : BenchState) → a ≡ b → (m : map.FinMap pid_cmp Process) → m ≡ a.processes → record a { processes = m } ≡ b
same_bench a b is m e = ap (λ m. record a { processes = m }) e ∙ is

-- ---- an act at a bench

-- no process is born of an act
pub bears_nobody : (b : BenchState) (act : Act) → ((caps : SetBy cap_cmp) → act ≡ Spawn caps → ⊥) → bench_checks b act None
bears_nobody b (Order order) n = refl
bears_nobody b (Relabel side label) n = refl
bears_nobody b (Ask c) n = refl
bears_nobody b (Spawn caps) n = absurd (n caps refl)
bears_nobody b Exit n = refl
bears_nobody b (Drop c) n = refl
bears_nobody b (Enter login secret) n = refl
bears_nobody b (Emit bytes) n = refl
bears_nobody b (Mail mail) n = refl

module _ (V : Registry) (b : BenchState) (pid : Pid) where
  -- no guard is asked for the act
  abbrev IsPlain : Act → Type 0
  IsPlain act = guard_checks V b (By pid act) None × ((p : Process) (v : Option Refusal) → guard_check true (effective V p) p.labels.secrecy act v → v ≡ None)

  -- an order, or none
  kind : (act : Act) → ((order : orders.Order) × (act ≡ Order order)) ⊎ IsPlain act
  kind (Order order) = inl (order, refl)
  kind (Relabel side label) = inr (refl, λ p v e. e)
  kind (Ask c) = inr (refl, λ p v e. e)
  kind (Spawn caps) = inr (refl, λ p v e. e)
  kind Exit = inr (refl, λ p v e. e)
  kind (Drop c) = inr (refl, λ p v e. e)
  kind (Enter login secret) = inr (refl, λ p v e. e)
  kind (Emit bytes) = inr (refl, λ p v e. e)
  kind (Mail mail) = inr (refl, λ p v e. e)

  -- who asks does not stand there
  absent : map.get b.processes pid ≡ None → (guards : Bool) (act : Act) → all_checks guards V b (By pid act) (Some (NoProcess pid))
  absent none guards act = by_guards guards
    where
      nobody : checks V b (By pid act) (Some (NoProcess pid))
      nobody = fails_without (map.get b.processes pid) (NoProcess pid) (λ p. act_checks V p act then bench_checks b act) none

      by_kind : ((order : orders.Order) × (act ≡ Order order)) ⊎ IsPlain act → all_checks true V b (By pid act) (Some (NoProcess pid))
      by_kind (inl (order, is)) =
          subst (λ act. all_checks true V b (By pid act) (Some (NoProcess pid))) (sym is)
          (inl (fails_without (map.get b.processes pid) (NoProcess pid) (λ p. refuse_if (is_busy p) Busy then emission_check (effective V p) p.labels.secrecy) none))
      by_kind (inr (plain, never)) = inr (plain, nobody)

      by_guards : (guards : Bool) → all_checks guards V b (By pid act) (Some (NoProcess pid))
      by_guards false = nobody
      by_guards true = by_kind (kind act)

  module _ (p : Process) (there : map.get b.processes pid ≡ Some p) where
    -- what the process is asked, and then the bench
    asks : (act : Act) (v : Option Refusal) → (act_checks V p act then bench_checks b act) v → checks V b (By pid act) v
    asks act v h = goes_on_with (map.get b.processes pid) (NoProcess pid) (λ p. act_checks V p act then bench_checks b act) p there v h

    guard_asks : (order : orders.Order) (v : Option Refusal) → (refuse_if (is_busy p) Busy then emission_check (effective V p) p.labels.secrecy) v → guard_checks V b (By pid (Order order)) v
    guard_asks order v h = goes_on_with (map.get b.processes pid) (NoProcess pid) (λ p. refuse_if (is_busy p) Busy then emission_check (effective V p) p.labels.secrecy) p there v h

    -- ---- where one check fails

    -- no guard fails
    plainly_fails : (guards : Bool) (act : Act) (f : Refusal) → (guard_check guards (effective V p) p.labels.secrecy act (Some f) → ⊥) → could_checks guards V p act (Some f) → checks V b (By pid act) (Some f)
    plainly_fails guards act f never (inl busy) = asks act (Some f) (inl (inl busy))
    plainly_fails guards act f never (inr (fine, inl g)) = absurd (never g)
    plainly_fails guards act f never (inr (fine, inr (g, h))) = asks act (Some f) (inl (inr (fine, h)))

    order_fails : (order : orders.Order) (f : Refusal) → could_checks true V p (Order order) (Some f) → all_checks true V b (By pid (Order order)) (Some f)
    order_fails order f (inl busy) = inl (guard_asks order (Some f) (inl busy))
    order_fails order f (inr (fine, inl g)) = inl (guard_asks order (Some f) (inr (fine, g)))
    order_fails order f (inr (fine, inr (g, h))) = inr (guard_asks order None (fine, g), asks (Order order) (Some f) (inl (inr (fine, h))))

    fails : (guards : Bool) (act : Act) (f : Refusal) → could_checks guards V p act (Some f) → all_checks guards V b (By pid act) (Some f)
    fails false act f h = plainly_fails false act f (λ e. absurd (cc)) h
    fails true act f h = by_kind (kind act)
      where
        by_kind : ((order : orders.Order) × (act ≡ Order order)) ⊎ IsPlain act → all_checks true V b (By pid act) (Some f)
        by_kind (inl (order, is)) = subst (λ act. all_checks true V b (By pid act) (Some f)) (sym is) (order_fails order f (subst (λ act. could_checks true V p act (Some f)) is h))
        by_kind (inr (plain, never)) = inr (plain, plainly_fails true act f (λ g. let e = never p (Some f) g in absurd (cc)) h)

    -- ---- where all pass, but for what the bench is asked

    behind : (guards : Bool) (act : Act) → could_checks guards V p act None → (v : Option Refusal) → bench_checks b act v → (act_checks V p act then bench_checks b act) v
    behind guards act (fine, (g, h)) None k = ((fine, h), k)
    behind guards act (fine, (g, h)) (Some f) k = inr ((fine, h), k)

    guard_then : (order : orders.Order) (v : Option Refusal) → guard_checks V b (By pid (Order order)) None → checks V b (By pid (Order order)) v → all_checks true V b (By pid (Order order)) v
    guard_then order None g h = (g, h)
    guard_then order (Some f) g h = inr (g, h)

    order_passes : (order : orders.Order) → could_checks true V p (Order order) None → (v : Option Refusal) → bench_checks b (Order order) v → all_checks true V b (By pid (Order order)) v
    order_passes order (fine, (g, h)) v k = guard_then order v (guard_asks order None (fine, g)) (asks (Order order) v (behind true (Order order) (fine, (g, h)) v k))

    passes : (guards : Bool) (act : Act) → could_checks guards V p act None → (v : Option Refusal) → bench_checks b act v → all_checks guards V b (By pid act) v
    passes false act h v k = asks act v (behind false act h v k)
    passes true act h v k = by_kind (kind act)
      where
        by_kind : ((order : orders.Order) × (act ≡ Order order)) ⊎ IsPlain act → all_checks true V b (By pid act) v
        by_kind (inl (order, is)) =
            subst (λ act. all_checks true V b (By pid act) v) (sym is)
            (order_passes order (subst (λ act. could_checks true V p act None) is h) v (subst (λ act. bench_checks b act v) is k))
        by_kind (inr (plain, never)) = all_are true V b (By pid act) plain v (asks act v (behind true act h v k))

    tells : (act : Act) (reply : Reply) → ForetellsBy (effective V p) act reply → Foretells V b (By pid act) reply
    tells (Order order) reply h = h
    tells (Relabel side label) reply h = h
    tells (Ask c) reply h = (p, there, (h, refl))
    tells (Spawn caps) reply h = h
    tells Exit reply h = h
    tells (Drop c) reply h = h
    tells (Enter login secret) reply h = h
    tells (Emit bytes) reply h = h
    tells (Mail mail) reply h = h

  module _ (guards : Bool) (act : Act) where
    refused : {r : Result Reply Refusal} → CouldBy guards V b.processes pid act r → (f : Refusal) → r ≡ Err f → all_checks guards V b (By pid act) (Some f)
    refused (CouldBy.nobody none) f e = subst (λ f. all_checks guards V b (By pid act) (Some f)) (same_refusal e) (absent none guards act)
    refused (CouldBy.could {p} there (ActCould.passed h tells)) f e = absurd (cc)
    refused (CouldBy.could {p} there (ActCould.failed {f = g} h)) f e = subst (λ f. all_checks guards V b (By pid act) (Some f)) (same_refusal e) (fails p there guards act g h)

    spent : {r : Result Reply Refusal} → CouldBy guards V b.processes pid act r → (reply : Reply) → r ≡ Ok reply → (f : Refusal) → bench_checks b act (Some f) → all_checks guards V b (By pid act) (Some f)
    spent (CouldBy.nobody none) reply e f k = absurd (cc)
    spent (CouldBy.could {p} there (ActCould.passed h tells)) reply e f k = passes p there guards act h (Some f) k
    spent (CouldBy.could {p} there (ActCould.failed h)) reply e f k = absurd (cc)

    done : {r : Result Reply Refusal} → CouldBy guards V b.processes pid act r → (reply : Reply) → r ≡ Ok reply → bench_checks b act None → Could guards V b (By pid act) (Ok reply)
    done (CouldBy.nobody none) reply e k = absurd (cc)
    done (CouldBy.could {p} there (ActCould.passed {reply = q} h foretold)) reply e k =
        subst (λ reply. Could guards V b (By pid act) (Ok reply)) (same_reply e) (Could.passed (passes p there guards act h None k) (tells p there act q foretold))
    done (CouldBy.could {p} there (ActCould.failed h)) reply e k = absurd (cc)

module _ (guards : Bool) (V : Registry) (a b : BenchState) (is : a ≡ b) (pid : Pid) (act : Act) {r : Result Reply Refusal} (could : CouldBy guards V a.processes pid act r) where
  at_bench : CouldBy guards V b.processes pid act r
  at_bench = subst (λ x. CouldBy guards V x.processes pid act r) is could

  -- of a birth, whether a serial is left
  pub spawn_asks : (caps : SetBy cap_cmp) → act ≡ Spawn caps → (v : Option Refusal) → serials_left a v → bench_checks b act v
  spawn_asks caps spawns v h = subst (λ act. bench_checks b act v) (sym spawns) (subst (λ x. serials_left x v) is h)

  pub by_refused : (f : Refusal) → r ≡ Err f → (q : Result Reply Refusal) → IsErr q × IsErrAnd q (λ g. g ≡ f) → Could guards V b (By pid act) q
  by_refused f e q s = could_not guards V b (By pid act) f (refused V b pid guards act at_bench f e) q s

  pub by_spent : (reply : Reply) → r ≡ Ok reply → (f : Refusal) → bench_checks b act (Some f) → (q : Result Reply Refusal) → IsErr q × IsErrAnd q (λ g. g ≡ f) → Could guards V b (By pid act) q
  by_spent reply e f k q s = could_not guards V b (By pid act) f (spent V b pid guards act at_bench reply e f k) q s

  pub by_done : (reply : Reply) → r ≡ Ok reply → bench_checks b act None → Could guards V b (By pid act) (Ok reply)
  by_done reply e k = done V b pid guards act at_bench reply e k
