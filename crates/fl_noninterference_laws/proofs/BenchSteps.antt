-- Jobs at benches that are alike.
use Rattle.std.proofs.Common.{◌≡◌, ◌∙◌, inl, inr, refl, sym, subst, Bool, true, false}
use Rattle.std.proofs.Common.{Option, Some, None, Result, Ok, Err}
use Rattle.std.specs.Prelude.{nat_lt}
use Rattle.std.specs.FinMap as map
use Rattle.fl_labels.specs.Name.{name_cmp}
use Rattle.fl_labels.specs.SetBy as set
use Rattle.fl_labels.specs.SetBy.{SetBy, In}
use Rattle.fl_labels.specs.declared.cap.Cap.TheVariants.{Minus}
use Rattle.fl_labels.specs.declared.name.Name.{Name}
use Rattle.fl_labels.specs.declared.pid.Pid.{Pid}
use Rattle.fl_ops.specs.declared.op.Op.{Op}
use Rattle.fl_jobs.specs.declared.job.Side.{Side}
use Rattle.fl_jobs.specs.declared.job.Side.TheVariants.{Secrecy, Integrity}
use Rattle.fl_jobs.specs.declared.job.Act.{Act}
use Rattle.fl_jobs.specs.declared.job.Act.TheVariants.{Order, Relabel, Ask, Spawn, Exit, Drop}
use Rattle.fl_jobs.specs.declared.job.Act.TheVariants.{Enter, Emit, Mail}
use Rattle.fl_jobs.specs.declared.job.Job.{Job}
use Rattle.fl_jobs.specs.declared.job.Job.TheVariants.{Proc, By, Member, Arrive}
use Rattle.fl_jobs.specs.declared.answer.Refusal.{Refusal}
use Rattle.fl_jobs.specs.declared.answer.Refusal.TheVariants.{NoProcess, NamesSpent, Busy}
use Rattle.fl_jobs.specs.declared.answer.Outcome.{Outcome}
use Rattle.fl_message.specs.declared.message.Data.{Data}
use Rattle.fl_bench.specs.Checks.{Check, refuse_if, with, ◌then◌}
use Rattle.fl_bench.specs.Mailbox.{arrival_checks}
use Rattle.fl_bench.specs.Process.{newborn, owns, is_busy, ordering, owning, child_of, effective}
use Rattle.fl_bench.specs.Process.{side_of, with_side, receiving}
use Rattle.fl_bench.specs.Bench.{BenchState, has_at, gone, born}
use Rattle.fl_bench.specs.Jobs.{change_check, checks_of, act_checks, bench_checks, serials_left}
use Rattle.fl_bench.specs.Jobs.{checks, Performs, Effect, Does, passed, failed, no_room}
use Rattle.fl_bench.specs.Jobs.{JobNeedsRoom}
use Rattle.fl_bench.specs.declared.process.Process.{Process}
use Rattle.fl_bench.specs.laws.Steps.{passed_by}
use Rattle.fl_noninterference_laws.specs.Alike.{AreAlikeBenches, DoesToo, IsNoBirth, IsOpenAt}
use Rattle.fl_noninterference_laws.specs.Tainted.{IsVeiled, IsTainted}
use Rattle.fl_noninterference_laws.proofs.Standing.{stands_too, same_bench, has_both, lost_both}
use Rattle.fl_noninterference_laws.proofs.Standing.{born_both, next_too, has_hidden, lost_hidden}

module _ (tag : Name) where
  -- ---- what a tainted process does

  module _ (V : Op → Type 0) (b : BenchState) where
    left_as : {after end : BenchState} → after ≡ end → AreAlikeBenches tag b end
        → AreAlikeBenches tag b after
    left_as e alike = subst (AreAlikeBenches tag b) (sym e) alike

    module _ (pid : Pid) (p : Process) (lives : map.get b.processes pid ≡ Some p)
        (has : In p.labels.secrecy tag) (lacks : ¬ effective V p (Minus tag)) where
      hidden : IsVeiled tag (map.get b.processes pid)
      hidden = subst (IsVeiled tag) (sym lives) has

      -- a label that it sets has the tag still
      still : (side : Side) (label : SetBy name_cmp)
          → change_check (effective V p) (side_of side p.labels) label None
          → In (with_side side label p.labels).secrecy tag
      still Integrity label h = has
      still Secrecy label h = by_test (set.contains label tag) refl
        where
          by_test : (b : Bool) → set.contains label tag ≡ b → In label tag
          by_test true e = e
          by_test false e = absurd (lacks (h (Minus tag) (record { here = has; not_there = e })))

      performs_hidden : (act : Act) (x : Outcome) (after : BenchState) → IsNoBirth act
          → checks_of V p act None → Performs V b pid p act x after → AreAlikeBenches tag b after
      performs_hidden (Order order) x after quiet h f =
          left_as f.1 (has_hidden tag b pid hidden (ordering p) has)
      performs_hidden (Relabel side (Ok label)) x after quiet h f =
          left_as f.1 (has_hidden tag b pid hidden
          (record p { labels = with_side side label p.labels }) (still side label h.0))
      performs_hidden (Relabel side (Err long)) x after quiet h f = absurd f
      performs_hidden (Ask c) x after quiet h f = left_as f.1 (same_bench tag b)
      performs_hidden (Spawn caps) x after quiet h f = absurd quiet
      performs_hidden Exit x after quiet h f = left_as f.1 (lost_hidden tag b pid hidden)
      performs_hidden (Drop c) x after quiet h f =
          left_as f.1 (has_hidden tag b pid hidden (owning p (set.remove (owns p) c)) has)
      performs_hidden (Enter login secret) x after quiet h f =
          left_as f.3 (has_hidden tag b pid hidden (owning p (set.insert (owns p) f.0)) has)
      performs_hidden (Emit bytes) x after quiet h f = left_as f.1 (same_bench tag b)
      performs_hidden (Mail mail) x after quiet h f =
          left_as f.2 (has_hidden tag b pid hidden (record p { mailbox = f.0 }) has)

    pub does_hidden : {pid : Pid} {act : Act} {r : Result Outcome Refusal} {after : BenchState}
        → IsTainted V tag (map.get b.processes pid) → IsNoBirth act
        → Does V b (By pid act) r after → AreAlikeBenches tag b after
    does_hidden {pid} {act} {after = after} tainted quiet (passed {outcome} h f) =
        let at : IsTainted V tag (Some f.0) = subst (IsTainted V tag) f.1 tainted in
        performs_hidden pid f.0 f.1 at.veiled at.lacks act outcome after quiet
        (passed_by V b pid act f.0 f.1 h).1 f.2
    does_hidden tainted quiet (failed h) = same_bench tag b
    does_hidden tainted quiet (no_room t) = same_bench tag b

    -- a message that comes to who has the tag
    pub arrives_hidden : {d : Data} {r : Result Outcome Refusal} {after : BenchState}
        → IsVeiled tag (map.get b.processes d.receiver) → Does V b (Arrive d) r after
        → AreAlikeBenches tag b after
    arrives_hidden {d} veiled (passed h f) =
        let has : In f.0.labels.secrecy tag = subst (IsVeiled tag) f.1 veiled in
        left_as f.3 (has_hidden tag b d.receiver veiled (receiving f.0 d) has)
    arrives_hidden veiled (failed h) = same_bench tag b
    arrives_hidden veiled (no_room t) = same_bench tag b

  -- ---- what others do

  record HasEffect (V : Op → Type 0) (c : BenchState) (job : Job) (x : Outcome)
      (after : BenchState) : Type 0 where
    left : BenchState
    effect : Effect V c job x left
    alike : AreAlikeBenches tag after left

  module _ (V : Op → Type 0) {b c : BenchState} (a : AreAlikeBenches tag b c) where
    serials_too : (verdict : Option Refusal) → serials_left b verdict → serials_left c verdict
    serials_too verdict h =
        subst (λ k. refuse_if (nat_lt 4294967295 k) NamesSpent verdict) a.next h

    bench_too : (act : Act) (verdict : Option Refusal) → bench_checks b act verdict
        → bench_checks c act verdict
    bench_too (Spawn caps) verdict h = serials_too verdict h
    bench_too (Order order) verdict h = h
    bench_too (Relabel side label) verdict h = h
    bench_too (Ask c) verdict h = h
    bench_too Exit verdict h = h
    bench_too (Drop c) verdict h = h
    bench_too (Enter login secret) verdict h = h
    bench_too (Emit bytes) verdict h = h
    bench_too (Mail mail) verdict h = h

    both_too : (C : Check) (act : Act) (verdict : Option Refusal)
        → (C then bench_checks b act) verdict → (C then bench_checks c act) verdict
    both_too C act None h = (h.0, bench_too act None h.1)
    both_too C act (Some f) (inl h) = inl h
    both_too C act (Some f) (inr h) = inr (h.0, bench_too act (Some f) h.1)

    with_too : {A : Type 0} (o : Option A) (f : Refusal) (x y : A → Check)
        → ((z : A) (verdict : Option Refusal) → x z verdict → y z verdict)
        → (verdict : Option Refusal) → with o f x verdict → with o f y verdict
    with_too None f x y more verdict h = h
    with_too (Some z) f x y more verdict h = more z verdict h

    module _ (pid : Pid) (same : map.get b.processes pid ≡ map.get c.processes pid) where
      act_too : (act : Act) (verdict : Option Refusal) → checks V b (By pid act) verdict
          → checks V c (By pid act) verdict
      act_too act verdict h =
          subst (λ o. with o (NoProcess pid)
          (λ p. act_checks V p act then bench_checks c act) verdict) same
          (with_too (map.get b.processes pid) (NoProcess pid)
          (λ p. act_checks V p act then bench_checks b act)
          (λ p. act_checks V p act then bench_checks c act)
          (λ p. both_too (act_checks V p act) act) verdict h)

      there : (p : Process) → map.get b.processes pid ≡ Some p → map.get c.processes pid ≡ Some p
      there p e = sym same ∙ e

    checks_too : (job : Job) → IsOpenAt tag b job → (verdict : Option Refusal)
        → checks V b job verdict → checks V c job verdict
    checks_too Proc shown verdict h = serials_too verdict h
    checks_too (By pid act) shown verdict h =
        act_too pid (stands_too tag (a.each pid) shown) act verdict h
    checks_too (Member root what) shown verdict h = h
    checks_too (Arrive d) shown verdict h =
        subst (λ o. with o (NoProcess d.receiver)
        (λ q. refuse_if (is_busy q) Busy then arrival_checks q.mailbox d) verdict)
        (stands_too tag (a.each d.receiver) shown) h

    record PerformsToo (pid : Pid) (p : Process) (act : Act) (x : Outcome) (after : BenchState)
        : Type 0 where
      left : BenchState
      performs : Performs V c pid p act x left
      alike : AreAlikeBenches tag after left

    module _ {after : BenchState} where
      left_alike : {end left : BenchState} → after ≡ end → AreAlikeBenches tag end left
          → AreAlikeBenches tag after left
      left_alike {left = left} e alike = subst (λ z. AreAlikeBenches tag z left) (sym e) alike

      performs_too : (pid : Pid) (p : Process) (act : Act) (x : Outcome)
          → Performs V b pid p act x after → PerformsToo pid p act x after
      performs_too pid p (Order order) x f = record {
        left = has_at c pid (ordering p);
        performs = (f.0, refl);
        alike = left_alike f.1 (has_both tag a pid (ordering p) (ordering p) (inl refl));
      }
      performs_too pid p (Relabel side (Ok label)) x f =
          let new : Process = record p { labels = with_side side label p.labels } in
          record {
            left = has_at c pid new;
            performs = (f.0, refl);
            alike = left_alike f.1 (has_both tag a pid new new (inl refl));
          }
      performs_too pid p (Relabel side (Err long)) x f = absurd f
      performs_too pid p (Ask what) x f =
          record { left = c; performs = (f.0, refl); alike = left_alike f.1 a }
      performs_too pid p (Spawn caps) x f = record {
        left = born c f.0 (child_of p caps);
        performs = (f.0, next_too tag a f.0 f.1, f.2, refl);
        alike = left_alike f.3 (born_both tag a f.0 (child_of p caps));
      }
      performs_too pid p Exit x f = record {
        left = gone c pid;
        performs = (f.0, refl);
        alike = left_alike f.1 (lost_both tag a pid);
      }
      performs_too pid p (Drop what) x f =
          let new : Process = owning p (set.remove (owns p) what) in
          record {
            left = has_at c pid new;
            performs = (f.0, refl);
            alike = left_alike f.1 (has_both tag a pid new new (inl refl));
          }
      performs_too pid p (Enter login secret) x f =
          let new : Process = owning p (set.insert (owns p) f.0) in
          record {
            left = has_at c pid new;
            performs = (f.0, f.1, f.2, refl);
            alike = left_alike f.3 (has_both tag a pid new new (inl refl));
          }
      performs_too pid p (Emit bytes) x f =
          record { left = c; performs = (f.0, refl); alike = left_alike f.1 a }
      performs_too pid p (Mail mail) x f =
          let new : Process = record p { mailbox = f.0 } in
          record {
            left = has_at c pid new;
            performs = (f.0, f.1, refl);
            alike = left_alike f.2 (has_both tag a pid new new (inl refl));
          }

      effect_too : (job : Job) (x : Outcome) → IsOpenAt tag b job → Effect V b job x after
          → HasEffect V c job x after
      effect_too Proc x shown f = record {
        left = born c f.0 newborn;
        effect = (f.0, next_too tag a f.0 f.1, f.2, refl);
        alike = left_alike f.3 (born_both tag a f.0 newborn);
      }
      effect_too (By pid act) x shown f =
          let it = performs_too pid f.0 act x f.2 in
          record {
            left = it.left;
            effect = (f.0, sym (stands_too tag (a.each pid) shown) ∙ f.1, it.performs);
            alike = it.alike;
          }
      effect_too (Member root what) x shown f =
          record { left = c; effect = (f.0, refl); alike = left_alike f.1 a }
      effect_too (Arrive d) x shown f =
          let new : Process = receiving f.0 d in
          record {
            left = has_at c d.receiver new;
            effect = (f.0, sym (stands_too tag (a.each d.receiver) shown) ∙ f.1, f.2, refl);
            alike = left_alike f.3 (has_both tag a d.receiver new new (inl refl));
          }

    room_too : (job : Job) → IsOpenAt tag b job → JobNeedsRoom V b job → JobNeedsRoom V c job
    room_too Proc shown h = h
    room_too (By pid act) shown h = (h.0, sym (stands_too tag (a.each pid) shown) ∙ h.1, h.2)
    room_too (Member root what) shown h = h
    room_too (Arrive d) shown h = h

    pub does_too : {job : Job} {result : Result Outcome Refusal} {after : BenchState}
        → IsOpenAt tag b job → Does V b job result after → DoesToo tag V c job result after
    does_too {job} shown (passed {outcome} h f) =
        let it = effect_too job outcome shown f in
        record {
          left = it.left;
          does = passed (checks_too job shown None h) it.effect;
          alike = it.alike;
        }
    does_too {job} shown (failed {f} h) =
        record { left = c; does = failed (checks_too job shown (Some f) h); alike = a }
    does_too {job} shown (no_room t) =
        record {
          left = c;
          does = no_room (checks_too job shown None t.0, room_too job shown t.1);
          alike = a;
        }
