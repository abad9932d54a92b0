-- What the jobs of a bench owe.
use Rattle.std.proofs.Common.{ℕ, ◌+◌, ◌≡◌, Bool, true, false, refl, sym, ap, subst, ◌∙◌, Option, Some, None, Result, Ok, Err, IfOk}
use Rattle.std.specs.Result.{IsErr, IsErrAnd}
use Rattle.std.specs.declared.alloc.AllocError.{AllocError}
use Rattle.std.specs.FinMap as map
use Rattle.std.specs.Prelude.{nat_lt}
use Rattle.fl_labels.specs.Cap.{cap_cmp}
use Rattle.fl_labels.specs.Pid.{pid_cmp}
use Rattle.fl_labels.specs.SetBy.{SetBy}
use Rattle.fl_labels.specs.declared.cap.Cap.{Cap}
use Rattle.fl_labels.specs.declared.pid.Pid.{Pid}
use Rattle.fl_ops.specs.Registry.{Registry, Reach, From}
use Rattle.fl_jobs.specs.declared.job.Act.{Act}
use Rattle.fl_jobs.specs.declared.job.Act.TheVariants.{Exit, Spawn}
use Rattle.fl_jobs.specs.declared.job.Job.TheVariants.{Proc, By, Member, Arrive}
use Rattle.fl_jobs.specs.declared.answer.Refusal.{Refusal}
use Rattle.fl_jobs.specs.declared.answer.Refusal.TheVariants.{NoProcess, Busy, NamesSpent, Memory}
use Rattle.fl_jobs.specs.declared.answer.Reply.TheVariants.{Made, Done}
use Rattle.fl_jobs.specs.declared.answer.Outcome.{Outcome}
use Rattle.fl_message.specs.declared.message.Data.{Data}
use Rattle.fl_bench.specs.Mailbox.{arrival_checks}
use Rattle.fl_bench.specs.Checks.{with, refuse_if, ◌then◌}
use Rattle.fl_bench.specs.Process.{newborn, is_busy}
use Rattle.fl_bench.specs.Bench.{BenchState, IsNext, gone, has_at}
use Rattle.fl_bench.specs.Jobs.{act_checks, bench_checks, checks, Answers, Does, serials_left}
use Rattle.fl_bench.specs.declared.process.Holding.TheVariants.{Idle}
use Rattle.fl_bench.specs.declared.process.Process.{Process}
use Rattle.fl_monitor.specs.parts.Acts.{Acts, ActsAt, Births, Ends, Sequel, answered, Settles, Arrives, ArrivesAt}
use Rattle.fl_monitor.proofs.ActLemmas.{act_busy, act_exit, stays}
use Rattle.fl_monitor.proofs.CheckLemmas.{passed_on}

same_refusal : {T : Type 0} {f g : Refusal} → ◌≡◌ {A = Result T Refusal} (Err f) (Err g) → f ≡ g
same_refusal {T} e = ap (λ (r : Result T Refusal). elim r [ Ok s ↦ Memory | Err f ↦ f ]) e

same_sequel : {s t : Sequel} → ◌≡◌ {A = Result Sequel Refusal} (Ok s) (Ok t) → s ≡ t
same_sequel {s} e = ap (λ (r : Result Sequel Refusal). elim r [ Ok t ↦ t | Err f ↦ s ]) e

no_sequel : {f : Refusal} {s : Sequel} → ◌≡◌ {A = Result Sequel Refusal} (Err f) (Ok s) → ⊥
no_sequel e = cc

-- ---- an act at the processes of a bench, and what follows, is a job

-- a birth with the capabilities that stood in a box
pub of_birth : {V : Registry} {b b' : BenchState} {pid : Pid} {boxed caps : SetBy cap_cmp} {r : Result Outcome Refusal} → caps ≡ boxed → Does V b (By pid (Spawn caps)) r b' → Does V b (By pid (Spawn boxed)) r b'
of_birth {V} {b} {b'} {pid} {boxed} {caps} {r} e d = subst (λ s. Does V b (By pid (Spawn s)) r b') e d

module _ (V : Registry) (b : BenchState) (pid : Pid) (act : Act) where
  nobody_asks : map.get b.processes pid ≡ None → Does V b (By pid act) (Err (NoProcess pid)) b
  nobody_asks e = Does.failed (subst (λ o. with o (NoProcess pid) (λ p. act_checks V p act then bench_checks b act) (Some (NoProcess pid))) (sym e) refl)

  refused : {r : Result Sequel Refusal} {m : map.FinMap pid_cmp Process} → ActsAt V b.processes pid act r m → (f : Refusal) → r ≡ Err f → Does V b (By pid act) (Err f) (record b { processes = m })
  refused (ActsAt.nobody e) f is = subst (λ g. Does V b (By pid act) (Err g) b) (same_refusal is) (nobody_asks e)
  refused (ActsAt.did e (Acts.passed h)) f is = absurd (no_sequel (sym is))
  refused (ActsAt.did {p} e (Acts.failed {f = g} h)) f is = subst (λ x. Does V b (By pid act) (Err f) x) (sym (stays b pid p e)) (subst (λ g. Does V b (By pid act) (Err g) b) (same_refusal is) (h b e))

  settled : {r : Result Sequel Refusal} {m : map.FinMap pid_cmp Process} → ActsAt V b.processes pid act r m → (s : Sequel) → r ≡ Ok s
      → (q : Result Outcome Refusal) (after : BenchState) → Settles (record b { processes = m }) pid s q after → Does V b (By pid act) q after
  settled (ActsAt.nobody e) s is q after t = absurd (no_sequel is)
  settled (ActsAt.did {p'} e (Acts.passed h)) s is q after t = h b e q after (subst (λ s. Settles (has_at b pid p') pid s q after) (sym (same_sequel is)) t)
  settled (ActsAt.did e (Acts.failed h)) s is q after t = absurd (no_sequel is)

module _ (V : Registry) (a b : BenchState) (is : a ≡ b) (pid : Pid) (act : Act) {r : Result Sequel Refusal} {m : map.FinMap pid_cmp Process} (acts : ActsAt V a.processes pid act r m) where
  pub refused_does : (f : Refusal) → r ≡ Err f → (q : Result Outcome Refusal) → IsErr q × IsErrAnd q (λ g. g ≡ f) → Does V b (By pid act) q (record a { processes = m })
  refused_does f e q s =
      subst (λ q. Does V b (By pid act) q (record a { processes = m })) (sym (passed_on q f s))
      (subst (λ x. Does V x (By pid act) (Err f) (record a { processes = m })) is (refused V a pid act acts f e))

  pub settled_does : (s : Sequel) → r ≡ Ok s → (q : Result Outcome Refusal) (after : BenchState) → Settles (record a { processes = m }) pid s q after → Does V b (By pid act) q after
  settled_does s e q after t = subst (λ x. Does V x (By pid act) q after) is (settled V a pid act acts s e q after t)

-- an act that is answered alone
pub answered_does : (V : Registry) (a b : BenchState) → a ≡ b → (pid : Pid) (act : Act) (r : Result Outcome Refusal) (m : map.FinMap pid_cmp Process)
    → ActsAt V a.processes pid act (answered r) m → Does V b (By pid act) r (record a { processes = m })
answered_does V a b is pid act (Ok outcome) m acts =
    settled_does V a b is pid act acts (Sequel.answer outcome) refl (Ok outcome) (record a { processes = m }) (refl, refl)
answered_does V a b is pid act (Err f) m acts =
    subst (λ x. Does V x (By pid act) (Err f) (record a { processes = m })) is (refused V a pid act acts f refl)

-- a process that does not end, and one that does
module _ (V : Registry) (a b : BenchState) (is : a ≡ b) (pid : Pid) where
  pub end_refused : {r : Result (Unit {0}) Refusal} {m : map.FinMap pid_cmp Process} → Ends a.processes pid r m → (f : Refusal) → r ≡ Err f
      → (q : Result Outcome Refusal) → IsErr q × IsErrAnd q (λ g. g ≡ f) → Does V b (By pid Exit) q (record a { processes = m })
  end_refused (Ends.nobody e) f same q s = refused_does V a b is pid Exit (ActsAt.nobody e) f (ap Err (same_refusal same)) q s
  end_refused (Ends.busy {p} e n) f same q s =
      subst (Does V b (By pid Exit) q) (stays a pid p e)
      (refused_does V a b is pid Exit (ActsAt.did e (act_busy V pid p Exit n)) f (ap Err (same_refusal same)) q s)
  end_refused (Ends.ended e idle) f same q s = absurd (cc)

  pub end_done : {r : Result (Unit {0}) Refusal} {m : map.FinMap pid_cmp Process} → Ends a.processes pid r m → (u : Unit {0}) → r ≡ Ok u
      → Does V b (By pid Exit) (Ok (Outcome.Reply Done)) (record a { processes = m })
  end_done (Ends.nobody e) u same = absurd (cc)
  end_done (Ends.busy e n) u same = absurd (cc)
  end_done (Ends.ended {p} {owned} e idle) u same =
      let there : map.get a.processes pid ≡ Some (record p { owned = Idle owned }) = e ∙ (λ i. Some (record p { owned = idle i })) in
      settled_does V a b is pid Exit (ActsAt.did e (act_exit V pid p Exit owned idle refl)) Sequel.ending refl _ _
      (refl, ap (λ (x : BenchState). gone x pid) (sym (stays a pid (record p { owned = Idle owned }) there)))

-- with no memory for it, a new process is refused as where there is no room for it
pub newborn_births : (b : BenchState) (child : Result Process AllocError) → IfOk child (λ p. p ≡ newborn) → {r : Result Outcome Refusal} {b' : BenchState} → Births b child r b' → Births b (Ok newborn) r b'
newborn_births b (Ok p) is {r} {b'} h = subst (λ p. Births b (Ok p) r b') is h
newborn_births b (Err e) is (Births.spent c) = Births.spent c
newborn_births b (Err e) is (Births.full left) = Births.full left

pub births_does : (V : Registry) (b : BenchState) {r : Result Outcome Refusal} {b' : BenchState} → Births b (Ok newborn) r b' → Does V b Proc r b'
births_does V b (Births.made {pid} c next) = Does.passed c (pid, next, refl, refl)
births_does V b (Births.spent c) = Does.failed c
births_does V b (Births.full left) = Does.no_room (left, tt)

-- a message that comes to the processes of a bench is a job
module _ (V : Registry) (b : BenchState) (d : Data) where
  -- what passes, or fails, for the receiver
  comes : (q : Process) → map.get b.processes d.receiver ≡ Some q → (v : Option Refusal) → (refuse_if (is_busy q) Busy then arrival_checks q.mailbox d) v → checks V b (Arrive d) v
  comes q e v h = subst (λ o. with o (NoProcess d.receiver) (λ q. refuse_if (is_busy q) Busy then arrival_checks q.mailbox d) v) (sym e) h

  nobody_receives : map.get b.processes d.receiver ≡ None → checks V b (Arrive d) (Some (NoProcess d.receiver))
  nobody_receives e = subst (λ o. with o (NoProcess d.receiver) (λ q. refuse_if (is_busy q) Busy then arrival_checks q.mailbox d) (Some (NoProcess d.receiver))) (sym e) refl

  -- at a bench whose receiver is put back as it was
  put_back : (q : Process) → map.get b.processes d.receiver ≡ Some q → {r : Result Outcome Refusal} → Does V b (Arrive d) r b → Does V b (Arrive d) r (has_at b d.receiver q)
  put_back q e {r} h = subst (Does V b (Arrive d) r) (sym (stays b d.receiver q e)) h

  received : (q : Process) → map.get b.processes d.receiver ≡ Some q → {r : Result Outcome Refusal} {q' : Process} → Arrives q d r q' → Does V b (Arrive d) r (has_at b d.receiver q')
  received q e (Arrives.arrives h) = Does.passed (comes q e None h) (q, e, refl, refl)
  received q e (Arrives.refused {f} h) = put_back q e (Does.failed (comes q e (Some f) h))
  received q e (Arrives.no_room h) = put_back q e (Does.no_room (comes q e None h, tt))

  arrives : {r : Result Outcome Refusal} {m : map.FinMap pid_cmp Process} → ArrivesAt b.processes d r m → Does V b (Arrive d) r (record b { processes = m })
  arrives (ArrivesAt.nobody e) = Does.failed (nobody_receives e)
  arrives (ArrivesAt.came {p} e h) = received p e h

pub arrives_does : (V : Registry) (a b : BenchState) → a ≡ b → (d : Data) {r : Result Outcome Refusal} {m : map.FinMap pid_cmp Process} → ArrivesAt a.processes d r m → Does V b (Arrive d) r (record a { processes = m })
arrives_does V a b is d {r} {m} h = subst (λ x. Does V x (Arrive d) r (record a { processes = m })) is (arrives V a d h)

-- the reply to a question whether a capability is reached is a job
pub reaches_does : (V : Registry) (b : BenchState) (root c : Cap) (outcome : Outcome) → Answers outcome (Reach V (From root) c) → Does V b (Member root c) (Ok outcome) b
reaches_does V b root c outcome h = Does.passed refl (h, refl)

-- a bench by another name
module _ (a b : BenchState) (is : a ≡ b) where
  module _ (left : serials_left b None) where
    pub full_births : (child : Result Process AllocError) (m : map.FinMap pid_cmp Process) → m ≡ a.processes → Births b child (Err Memory) (record a { processes = m })
    full_births child m e = subst (λ x. Births b child (Err Memory) (record a { processes = x })) (sym e) (subst (Births b child (Err Memory)) (sym is) (Births.full left))

    pub is_next : (pid : Pid) → pid.node ≡ a.node → pid.boot ≡ a.boot → pid.serial ≡ b.next → IsNext a pid
    is_next pid node boot serial = record { node = node; boot = boot; serial = serial ∙ ap (λ (x : BenchState). x.next) (sym is) }

    module _ (child : Result Process AllocError) (p : Process) (there : child ≡ Ok p) where
      pub made_births : (pid : Pid) (m : map.FinMap pid_cmp Process) (n : ℕ) → IsNext a pid → m ≡ map.insert a.processes pid p → n ≡ a.stride → Births b child (Ok (Outcome.Reply (Made pid))) (record a { next = a.next + n; processes = m })
      made_births pid m n next e f =
          subst (λ c. Births b c (Ok (Outcome.Reply (Made pid))) (record a { next = a.next + n; processes = m })) (sym there)
          (subst (λ x. Births x (Ok p) (Ok (Outcome.Reply (Made pid))) (record a { next = a.next + n; processes = m })) is
          (subst (Births a (Ok p) (Ok (Outcome.Reply (Made pid)))) (λ i. record a { next = a.next + sym f i; processes = sym e i }) (Births.made (subst (λ x. serials_left x None) (sym is) left) next)))

-- there is no serial
spent_is : (test : Bool) (f : Refusal) → refuse_if test NamesSpent (Some f) → f ≡ NamesSpent
spent_is true f e = ap (λ o. elim o [ None ↦ f | Some g ↦ g ]) e
spent_is false f e = absurd (cc)

pub spent_births : (b : BenchState) (child : Result Process AllocError) (f : Refusal) → serials_left b (Some f) → (q : Result Outcome Refusal) → IsErr q × IsErrAnd q (λ g. g ≡ f) → Births b child q b
spent_births b child f h q s =
    let is = spent_is (nat_lt 4294967295 b.next) f h in
    subst (λ q. Births b child q b) (sym (passed_on q f s))
    (subst (λ f. Births b child (Err f) b) (sym is) (Births.spent (subst (λ f. serials_left b (Some f)) is h)))
