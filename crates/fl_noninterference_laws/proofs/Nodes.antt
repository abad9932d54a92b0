-- What a job of a tainted process does at a node.
use Rattle.std.proofs.Common.{◌≡◌, ◌∙◌, refl, sym, ap, subst, ℕ, List, [], length}
use Rattle.std.proofs.Common.{Option, Some, None, Result, Ok}
use Rattle.std.specs.FinMap as map
use Rattle.fl_labels.specs.declared.cap.Cap.TheVariants.{Minus}
use Rattle.fl_labels.specs.declared.name.Name.{Name}
use Rattle.fl_labels.specs.declared.pid.Pid.{Pid}
use Rattle.fl_ops.specs.Registry.{Listed}
use Rattle.fl_ops.specs.declared.op.Op.{Op}
use Rattle.fl_ops.specs.laws.Reaching.{eff_more}
use Rattle.fl_message.specs.declared.message.Data.{Data}
use Rattle.fl_jobs.specs.declared.job.Act.{Act}
use Rattle.fl_jobs.specs.declared.job.Act.TheVariants.{Emit}
use Rattle.fl_jobs.specs.declared.job.Job.TheVariants.{By, Arrive}
use Rattle.fl_jobs.specs.declared.answer.Refusal.{Refusal}
use Rattle.fl_jobs.specs.declared.answer.Reply.{Reply}
use Rattle.fl_jobs.specs.declared.answer.Reply.TheVariants.{Emitted}
use Rattle.fl_jobs.specs.declared.answer.Outcome.{Outcome}
use Rattle.fl_bench.specs.Bench.{BenchState}
use Rattle.fl_bench.specs.Jobs.{Does, passed}
use Rattle.fl_bench.specs.laws.Orders.{order_at}
use Rattle.fl_bench.specs.laws.Steps.{passed_by}
use Rattle.fl_bench.specs.declared.process.Process.{Process}
use Rattle.fl_system.specs.declared.answer.Answer.{Answer}
use Rattle.fl_system.specs.declared.answer.Answer.TheVariants as answer
use Rattle.fl_system.specs.declared.answer.Fault.{Fault}
use Rattle.fl_system.specs.Arrives.{Arrives, ArrivesAt, Unasked, delivered}
use Rattle.fl_system.specs.Jobs.{Jobs, Decides, bench_of, place_of, looking}
use Rattle.fl_system.specs.Jobs.{worked}
use Rattle.fl_system.specs.Numbered.{item_at}
use Rattle.fl_system.specs.Processes.{process_at, process_of}
use Rattle.fl_system.specs.State.{NodeState, first_ops}
use Rattle.fl_system_laws.specs.laws.Numbered.{length-with}
use Rattle.fl_noninterference_laws.specs.Alike.{AlikeAt, IsNoBirth}
use Rattle.fl_noninterference_laws.specs.AlikeNodes.{AreAlike}
use Rattle.fl_noninterference_laws.specs.Guarded.{MayEmit, IsGuardedJob}
use Rattle.fl_noninterference_laws.specs.Tainted.{IsVeiled, LacksMinus, IsTainted}
use Rattle.fl_noninterference_laws.proofs.BenchSteps.{does_hidden, arrives_hidden}
use Rattle.fl_noninterference_laws.proofs.Lists.{same_list, turned_list, joined_list, length_alike}
use Rattle.fl_noninterference_laws.proofs.Lists.{put_hidden, stands_alike}
use Rattle.fl_noninterference_laws.proofs.Views.{seen_there}

module _ (tag : Name) where
  pub same_node : (n : NodeState) → AreAlike tag n n
  same_node n = record {
    number = refl;
    boot = refl;
    saved = refl;
    published = refl;
    desks = refl;
    state = refl;
    procs = refl;
    benches = same_list tag n.benches;
  }

  pub turned_node : {n m : NodeState} → AreAlike tag n m → AreAlike tag m n
  turned_node {n} {m} a = record {
    number = sym a.number;
    boot = sym a.boot;
    saved = sym a.saved;
    published = sym a.published;
    desks = sym a.desks;
    state = sym a.state;
    procs = sym a.procs;
    benches = turned_list tag n.benches m.benches a.benches;
  }

  pub joined_node : {n m l : NodeState} → AreAlike tag n m → AreAlike tag m l → AreAlike tag n l
  joined_node {n} {m} {l} a e = record {
    number = a.number ∙ e.number;
    boot = a.boot ∙ e.boot;
    saved = a.saved ∙ e.saved;
    published = a.published ∙ e.published;
    desks = a.desks ∙ e.desks;
    state = a.state ∙ e.state;
    procs = a.procs ∙ e.procs;
    benches = joined_list tag n.benches m.benches l.benches a.benches e.benches;
  }

  -- who stands at nodes that are alike
  pub stands_at : {n m : NodeState} → AreAlike tag n m → (pid : Pid)
      → AlikeAt tag (process_of n pid) (process_of m pid)
  stands_at {n} {m} a pid =
      subst (λ k. AlikeAt tag (process_of n pid)
      (process_at (item_at m.benches (bench_of k pid.serial)) pid))
      (length_alike tag n.benches m.benches a.benches)
      (stands_alike tag n.benches m.benches (bench_of (length n.benches) pid.serial) pid a.benches)

  module _ (n : NodeState) where
    -- a desk may have looked further
    pub looked : (desk v : ℕ) → AreAlike tag n (looking n desk v)
    looked desk v = record {
      number = refl;
      boot = refl;
      saved = refl;
      published = refl;
      desks = sym (length-with n.views desk v);
      state = refl;
      procs = refl;
      benches = same_list tag n.benches;
    }

    lacks_seen : (v : ℕ) (o : Option Process) → LacksMinus (Listed n.published) tag o
        → LacksMinus (first_ops v n.published) tag o
    lacks_seen v None h = tt
    lacks_seen v (Some p) h =
        λ e. h (eff_more (seen_there v n.published) (λ c x. x) (Minus tag) e)

    -- who is tainted is so at its bench, by what a desk sees
    pub tainted_at : {v : ℕ} {pid : Pid} {act : Act} {result : Result Outcome Refusal}
        {left : BenchState} → IsTainted (Listed n.published) tag (process_of n pid)
        → (d : Decides n v (By pid act) result left)
        → IsTainted (first_ops v n.published) tag (map.get d.bench.processes pid)
    tainted_at {v} {pid} t d =
        let here : process_of n pid ≡ map.get d.bench.processes pid =
        ap (λ o. process_at o pid) d.stands in
        let at = subst (IsTainted (Listed n.published) tag) here t in
        record {
          veiled = at.veiled;
          lacks = lacks_seen v (map.get d.bench.processes pid) at.lacks;
        }

    -- it lets nothing out
    pub never_emits : {V : Op → Type 0} {b after : BenchState} {pid : Pid} {bytes : List ℕ}
        {x : Outcome} → IsTainted V tag (map.get b.processes pid)
        → Does V b (By pid (Emit bytes)) (Ok x) after → ⊥
    never_emits {V} {b} {pid = pid} {bytes} t (passed h f) =
        let at = subst (IsTainted V tag) f.1 t in
        at.lacks ((passed_by V b pid (Emit bytes) f.0 f.1 h).1 tag at.veiled).1

    pub cannot_emit : {pid : Pid} → IsTainted (Listed n.published) tag (process_of n pid)
        → MayEmit n pid → ⊥
    cannot_emit {pid} t m = by_job m.emits
      where
        by_job : {desk upto : ℕ} {after : NodeState}
            → Jobs n desk upto (By pid (Emit [])) (Ok (answer.Reply (Emitted []))) after → ⊥
        by_job (Jobs.replied look d) = never_emits (tainted_at t d) d.does

    module _ {pid : Pid} {act : Act}
        (t : IsTainted (Listed n.published) tag (process_of n pid)) (quiet : IsNoBirth act) where
      -- its bench is left alike
      worked_hidden : {v : ℕ} {result : Result Outcome Refusal} {left : BenchState} (desk : ℕ)
          → Decides n v (By pid act) result left
          → AreAlike tag n (worked n desk v (By pid act) left)
      worked_hidden {v} {left = left} desk d = record {
        number = refl;
        boot = refl;
        saved = refl;
        published = refl;
        desks = sym (length-with n.views desk v);
        state = refl;
        procs = refl;
        benches = put_hidden tag n.benches (place_of n (By pid act)) d.bench left d.stands
            (does_hidden tag (first_ops v n.published) d.bench (tainted_at t d) quiet d.does);
      }

      pub job_hidden : {desk upto : ℕ} {r : Result Answer Fault} {after : NodeState}
          → IsGuardedJob n (By pid act) → Jobs n desk upto (By pid act) r after
          → AreAlike tag n after
      job_hidden guard (Jobs.stopped why) = same_node n
      job_hidden {desk} guard (Jobs.no_room {w = w} look less which) = looked desk w
      job_hidden {desk} guard (Jobs.refused look d) = worked_hidden desk d
      job_hidden {desk} guard (Jobs.replied look d) = worked_hidden desk d
      job_hidden {desk} guard (Jobs.sent look d) = worked_hidden desk d
      job_hidden {desk} guard (Jobs.begun {pid = maker} look d start) =
          let o = order_at d.does in
          let asked = o.asked in
          let same : pid ≡ maker = cc in
          absurd (cannot_emit
          (subst (λ k. IsTainted (Listed n.published) tag (process_of n k)) same t)
          (subst (IsGuardedJob n) asked guard))
      job_hidden {desk} guard (Jobs.not_begun {v = v} look d start) = looked desk v

    -- a message comes to who has the tag
    pub arrival_hidden : {d : Data} {r : Result Reply Fault} {after : NodeState}
        → IsVeiled tag (process_of n d.receiver) → Arrives n d r after → AreAlike tag n after
    arrival_hidden {d} veiled comes = by_case comes
      where
        at_bench : {result : Result Outcome Refusal} {left : BenchState}
            → ArrivesAt n d result left → AreAlike tag n (delivered n d left)
        at_bench {left = left} it =
            let here : process_of n d.receiver ≡ map.get it.bench.processes d.receiver =
            ap (λ o. process_at o d.receiver) it.stands in
            record {
              number = refl;
              boot = refl;
              saved = refl;
              published = refl;
              desks = refl;
              state = refl;
              procs = refl;
              benches = put_hidden tag n.benches (place_of n (Arrive d)) it.bench left it.stands
                  (arrives_hidden tag Unasked it.bench (subst (IsVeiled tag) here veiled) it.does);
            }

        by_case : {r : Result Reply Fault} {after : NodeState} → Arrives n d r after
            → AreAlike tag n after
        by_case (Arrives.stopped why) = same_node n
        by_case (Arrives.refused it) = at_bench it
        by_case (Arrives.arrives it) = at_bench it
