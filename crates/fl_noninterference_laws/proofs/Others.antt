-- What a job of another process does at nodes that are alike.
use Rattle.std.proofs.Common.{◌≡◌, ◌≢◌, ◌≤◌, ◌∙◌, refl, sym, ap, subst, ℕ, List, length, min, max}
use Rattle.std.proofs.Common.{Option, Some, Result, Ok, Err}
use Rattle.fl_labels.specs.declared.name.Name.{Name}
use Rattle.fl_labels.specs.declared.pid.Pid.{Pid}
use Rattle.fl_ops.specs.declared.op.Body.{Body}
use Rattle.fl_ops.specs.declared.op.Op.{Op}
use Rattle.fl_message.specs.declared.message.Data.{Data}
use Rattle.fl_jobs.specs.declared.job.Job.{Job}
use Rattle.fl_jobs.specs.declared.job.Job.TheVariants.{Proc, By, Member, Arrive}
use Rattle.fl_jobs.specs.declared.answer.Refusal.{Refusal}
use Rattle.fl_jobs.specs.declared.answer.Refusal.TheVariants.{Memory}
use Rattle.fl_jobs.specs.declared.answer.Reply.{Reply}
use Rattle.fl_jobs.specs.declared.answer.Outcome.{Outcome}
use Rattle.fl_jobs.specs.declared.answer.Outcome.TheVariants as outcome
use Rattle.fl_bench.specs.Bench.{BenchState}
use Rattle.fl_bench.specs.Jobs.{Does}
use Rattle.fl_system.specs.declared.answer.Answer.{Answer}
use Rattle.fl_system.specs.declared.answer.Fault.{Fault}
use Rattle.fl_system.specs.declared.answer.Fault.TheVariants.{Refused}
use Rattle.fl_system.specs.Arrives.{Arrives, delivered}
use Rattle.fl_system.specs.Begins.{Begins, order, pending_with}
use Rattle.fl_system.specs.Jobs.{Jobs, Decides, Looks, bench_for, place_of, procs_after}
use Rattle.fl_system.specs.Jobs.{looking, worked}
use Rattle.fl_system.specs.Naming.{IsLast, IsNextAfter}
use Rattle.fl_system.specs.Numbered.{item_at, with_item}
use Rattle.fl_system.specs.Processes.{process_at}
use Rattle.fl_system.specs.Waiting.{IsTaken}
use Rattle.fl_system.specs.declared.state.Pending.TheVariants.{Unsaved}
use Rattle.fl_system.specs.declared.state.State.{State}
use Rattle.fl_system.specs.declared.state.State.TheVariants.{Running}
use Rattle.fl_system.specs.State.{NodeState}
use Rattle.fl_system_laws.specs.laws.Numbered.{length-with}
use Rattle.fl_noninterference_laws.specs.Alike.{AreAlikeBenches, DoesToo, IsOpenAt}
use Rattle.fl_noninterference_laws.specs.AlikeNodes.{AreAlike, AreAlikeLists, IsOpen, JobsToo}
use Rattle.fl_noninterference_laws.specs.Tainted.{IsVeiled}
use Rattle.fl_noninterference_laws.proofs.BenchSteps.{does_too}
use Rattle.fl_noninterference_laws.proofs.Lists.{length_alike, bench_at, put_alike}
use Rattle.fl_noninterference_laws.proofs.Views.{all_seen, looks_all, there_too}

-- the node with other views and benches
abbrev pub other : NodeState → List ℕ → List BenchState → NodeState
other n views benches = record n { views = views; benches = benches }

-- a node that is alike is one with other views and benches
pub as_other : {tag : Name} {n m : NodeState} → AreAlike tag n m → other n m.views m.benches ≡ m
as_other {m = m} a = λ i. record {
  number = a.number i;
  boot = a.boot i;
  saved = a.saved i;
  published = a.published i;
  views = m.views;
  state = a.state i;
  procs = a.procs i;
  benches = m.benches;
}

-- an operation is begun at both
record BeginsToo (tag : Name) (y : NodeState) (body : Body) (maker : Option Pid) (desk : Option ℕ)
    (r : Result Name Fault) (after : NodeState) : Type 0 where
  left : NodeState
  begins : Begins y body maker desk r left
  alike : AreAlike tag after left

pub with_state : {tag : Name} {x y : NodeState} → AreAlike tag x y → (s : State)
    → AreAlike tag (record x { state = s }) (record y { state = s })
with_state a s = record {
  number = a.number;
  boot = a.boot;
  saved = a.saved;
  published = a.published;
  desks = a.desks;
  state = refl;
  procs = a.procs;
  benches = a.benches;
}

begins_too : {tag : Name} {x y : NodeState} {body : Body} {maker : Option Pid} {desk : Option ℕ}
    {r : Result Name Fault} {after : NodeState} → AreAlike tag x y
    → Begins x body maker desk r after → BeginsToo tag y body maker desk r after
begins_too {x = x} {y} {body} {maker} {desk} a (Begins.begins {name} idle next) = record {
  left = pending_with y (order name body maker desk);
  begins = Begins.begins (sym a.state ∙ idle)
      (subst (λ k. IsNextAfter y.saved k name) a.number
      (subst (λ s. IsNextAfter s x.number name) a.saved next));
  alike = with_state a (Running (Unsaved (order name body maker desk)));
}
begins_too {y = y} a (Begins.taken {fault} why) = record {
  left = y;
  begins = Begins.taken (subst (λ s. IsTaken s fault) a.state why);
  alike = a;
}
begins_too {x = x} {y} a (Begins.spent idle last) = record {
  left = y;
  begins = Begins.spent (sym a.state ∙ idle)
      (subst (λ k. IsLast y.saved k 4294967295) a.number
      (subst (λ s. IsLast s x.number 4294967295) a.saved last));
  alike = a;
}

module _ (tag : Name) (n : NodeState) (views : List ℕ) (benches : List BenchState)
    (desks : length n.views ≡ length views) (alike : AreAlikeLists tag n.benches benches) where
  abbrev pub m : NodeState
  m = other n views benches

  pub all_alike : AreAlike tag n m
  all_alike = record {
    number = refl;
    boot = refl;
    saved = refl;
    published = refl;
    desks = desks;
    state = refl;
    procs = refl;
    benches = alike;
  }

  count : length n.benches ≡ length benches
  count = length_alike tag n.benches benches alike

  same_place : (job : Job) → place_of n job ≡ place_of m job
  same_place job = ap (λ k. bench_for k n.procs job) count

  -- who is open at the node is so at the bench
  open_at : (job : Job) → IsOpen tag n job → (b : BenchState)
      → item_at n.benches (place_of n job) ≡ Some b → IsOpenAt tag b job
  open_at Proc shown b e = tt
  open_at (By pid act) shown b e =
      λ v. shown (subst (IsVeiled tag) (sym (ap (λ o. process_at o pid) e)) v)
  open_at (Member root c) shown b e = tt
  open_at (Arrive d) shown b e =
      λ v. shown (subst (IsVeiled tag) (sym (ap (λ o. process_at o d.receiver) e)) v)

  -- the bench of the job at the other node
  record ThereToo (V : Op → Type 0) (job : Job) (result : Result Outcome Refusal)
      (left : BenchState) : Type 0 where
    bench : BenchState
    stands : item_at benches (place_of m job) ≡ Some bench
    end : BenchState
    does : Does V bench job result end
    same : AreAlikeBenches tag left end
    benches_too : AreAlikeLists tag (with_item n.benches (place_of n job) left)
        (with_item benches (place_of m job) end)

  at_bench : {V : Op → Type 0} {job : Job} {result : Result Outcome Refusal}
      {b left : BenchState} → IsOpen tag n job → item_at n.benches (place_of n job) ≡ Some b
      → Does V b job result left → ThereToo V job result left
  at_bench {V} {job} {result} {b} {left} shown stands does =
      let it = bench_at tag n.benches benches (place_of n job) b alike stands in
      let too : DoesToo tag V it.bench job result left =
      does_too tag V it.alike (open_at job shown b stands) does in
      record {
        bench = it.bench;
        stands = subst (λ k. item_at benches k ≡ Some it.bench) (same_place job) it.there;
        end = too.left;
        does = too.does;
        same = too.alike;
        benches_too =
            subst (λ k. AreAlikeLists tag (with_item n.benches (place_of n job) left)
            (with_item benches k too.left)) (same_place job)
            (put_alike tag left too.left too.alike n.benches benches (place_of n job) alike);
      }

  module _ (desk upto : ℕ) (job : Job) (shown : IsOpen tag n job)
      (all : length n.published ≤ upto) where
    record LooksToo (v : ℕ) : Type 0 where
      sees : ℕ
      look : Looks m desk upto sees
      enough : length n.published ≤ v
      enough_too : length n.published ≤ sees

    looks_too : {v : ℕ} → Looks n desk upto v → LooksToo v
    looks_too look =
        let it = there_too n.views views desk look.seen desks look.has_seen in
        let too : Looks m desk upto (max it.item (min upto (length n.published))) = record {
          running = look.running;
          seen = it.item;
          has_seen = it.is;
          sees = refl;
        } in
        record {
          sees = max it.item (min upto (length n.published));
          look = too;
          enough = looks_all all look;
          enough_too = looks_all all too;
        }

    record DecidesToo (v : ℕ) (result : Result Outcome Refusal) (left : BenchState)
        : Type 0 where
      sees : ℕ
      look : Looks m desk upto sees
      end : BenchState
      decides : Decides m sees job result end
      worked_too : AreAlike tag (worked n desk v job left) (worked m desk sees job end)
      looked_too : AreAlike tag (looking n desk v) (looking m desk sees)

    same_desks : (v w : ℕ) → length (with_item n.views desk v) ≡ length (with_item views desk w)
    same_desks v w = length-with n.views desk v ∙ desks ∙ sym (length-with views desk w)

    decides_too : {v : ℕ} {result : Result Outcome Refusal} {left : BenchState}
        → Looks n desk upto v → Decides n v job result left → DecidesToo v result left
    decides_too {v} {result} {left} look d =
        let too = looks_too look in
        let does = all_seen (λ V. Does V d.bench job result left) v too.sees n.published
        too.enough too.enough_too d.does in
        let it = at_bench shown d.stands does in
        record {
          sees = too.sees;
          look = too.look;
          end = it.end;
          decides = record { bench = it.bench; stands = it.stands; does = it.does };
          worked_too = record {
            number = refl;
            boot = refl;
            saved = refl;
            published = refl;
            desks = same_desks v too.sees;
            state = refl;
            procs = ap (λ k. procs_after k n.procs job) count;
            benches = it.benches_too;
          };
          looked_too = record {
            number = refl;
            boot = refl;
            saved = refl;
            published = refl;
            desks = same_desks v too.sees;
            state = refl;
            procs = refl;
            benches = alike;
          };
        }

    pub jobs_too : {r : Result Answer Fault} {after : NodeState} → r ≢ Err (Refused Memory)
        → Jobs n desk upto job r after → JobsToo tag m desk upto job r after
    jobs_too ample (Jobs.stopped why) = record {
      left = m;
      does = Jobs.stopped why;
      alike = all_alike;
    }
    jobs_too ample (Jobs.no_room look less which) = absurd (ample refl)
    jobs_too ample (Jobs.refused look d) =
        let it = decides_too look d in record {
          left = worked m desk it.sees job it.end;
          does = Jobs.refused it.look it.decides;
          alike = it.worked_too;
        }
    jobs_too ample (Jobs.replied look d) =
        let it = decides_too look d in record {
          left = worked m desk it.sees job it.end;
          does = Jobs.replied it.look it.decides;
          alike = it.worked_too;
        }
    jobs_too ample (Jobs.sent look d) =
        let it = decides_too look d in record {
          left = worked m desk it.sees job it.end;
          does = Jobs.sent it.look it.decides;
          alike = it.worked_too;
        }
    jobs_too ample (Jobs.begun look d start) =
        let it = decides_too look d in
        let more = begins_too it.worked_too start in record {
          left = more.left;
          does = Jobs.begun it.look it.decides more.begins;
          alike = more.alike;
        }
    jobs_too ample (Jobs.not_begun look d start) =
        let it = decides_too look d in
        let more = begins_too it.worked_too start in record {
          left = looking m desk it.sees;
          does = Jobs.not_begun it.look it.decides more.begins;
          alike = it.looked_too;
        }

  -- a message comes to who does not have the tag
  pub record ArrivesToo (d : Data) (r : Result Reply Fault) (after : NodeState) : Type 0 where
    pub left : NodeState
    pub does : Arrives m d r left
    pub same : AreAlike tag after left

  arrived_too : (d : Data) (left end : BenchState)
      → AreAlikeLists tag (with_item n.benches (place_of n (Arrive d)) left)
      (with_item benches (place_of m (Arrive d)) end)
      → AreAlike tag (delivered n d left) (delivered m d end)
  arrived_too d left end h = record {
    number = refl;
    boot = refl;
    saved = refl;
    published = refl;
    desks = desks;
    state = refl;
    procs = refl;
    benches = h;
  }

  pub arrives_too : {d : Data} {r : Result Reply Fault} {after : NodeState}
      → IsOpen tag n (Arrive d) → Arrives n d r after → ArrivesToo d r after
  arrives_too shown (Arrives.stopped why) = record {
    left = m;
    does = Arrives.stopped why;
    same = all_alike;
  }
  arrives_too {d} shown (Arrives.refused {refusal} {left} it) =
      let too = at_bench {job = Arrive d} {result = Err refusal} shown it.stands it.does in
      record {
        left = delivered m d too.end;
        does = Arrives.refused (record {
          running = it.running;
          bench = too.bench;
          stands = too.stands;
          does = too.does;
        });
        same = arrived_too d left too.end too.benches_too;
      }
  arrives_too {d} shown (Arrives.arrives {reply} {left} it) =
      let answer = Ok (outcome.Reply reply) in
      let too = at_bench {job = Arrive d} {result = answer} shown it.stands it.does in
      record {
        left = delivered m d too.end;
        does = Arrives.arrives (record {
          running = it.running;
          bench = too.bench;
          stands = too.stands;
          does = too.does;
        });
        same = arrived_too d left too.end too.benches_too;
      }
