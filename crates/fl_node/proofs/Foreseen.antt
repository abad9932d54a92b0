-- What the answers owe that a node foretells.
use Rattle.std.proofs.Common.{◌≡◌, inl, inr, refl, sym, ap, subst, Bool, true, cond, Some, None, Result, Ok, Err, IfOk}
use Rattle.std.specs.Prelude.{IfErr}
use Rattle.fl_labels.specs.declared.name.Name.{Name}
use Rattle.fl_ops.specs.Registry.{Listed}
use Rattle.fl_jobs.specs.declared.answer.Refusal.{Refusal}
use Rattle.fl_jobs.specs.declared.answer.Refusal.TheVariants.{Busy, NamesSpent}
use Rattle.fl_jobs.specs.declared.answer.Reply.{Reply}
use Rattle.fl_jobs.specs.declared.job.Job.{Job}
use Rattle.fl_bench.specs.Bench.{BenchState}
use Rattle.fl_bench.specs.Foresight.{Could}
use Rattle.fl_system.specs.declared.answer.Fault.{Fault}
use Rattle.fl_system.specs.declared.state.Pending.TheVariants.{Nothing, Unsaved, Due}
use Rattle.fl_system.specs.declared.state.State.{State}
use Rattle.fl_system.specs.declared.state.State.TheVariants.{Running, Stopped}
use Rattle.fl_system.specs.Jobs.{place_of}
use Rattle.fl_system.specs.Naming.{IsLast, IsNextAfter}
use Rattle.fl_system.specs.Numbered.{item_at}
use Rattle.fl_system.specs.State.{NodeState}
use Rattle.fl_system.specs.Waiting.{IsTaken}
use Rattle.fl_desks.specs.Benches.{CouldAtBench}
use Rattle.fl_node.specs.Foresight.{CouldAt, begin_check, is_taken, order_check}
use Rattle.fl_node.proofs.Working.{benches_of_node}

-- ---- what is on its way, and the names

taken : (state : State) (fault : Fault) → IsTaken state fault → is_taken state ≡ true
taken (Running Nothing) fault h = absurd h
taken (Running (Unsaved batch)) fault h = refl
taken (Running (Due batch)) fault h = refl
taken (Stopped doubt) fault h = refl

module _ (n : NodeState) where
  pub begins_not : (fault : Fault) → IsTaken n.state fault → begin_check n (Some Busy)
  begins_not fault h = inl (sym (ap (λ b. cond b (Some Busy) None) (taken n.state fault h)))

  module _ (idle : n.state ≡ Running Nothing) where
    free : None ≡ cond (is_taken n.state) (Some Busy) None
    free = sym (ap (λ (s : State). cond (is_taken s) (Some Busy) None) idle)

    pub begins_nameless : IsLast n.saved n.number 4294967295 → begin_check n (Some NamesSpent)
    begins_nameless last = inr (free, (refl, last))

    pub begins : (name : Name) → IsNextAfter n.saved n.number name → begin_check n None
    begins name next = (free, (name, next))

  -- ---- a job at its bench, and at the node

  module _ (guards : Bool) (job : Job) where
    -- as it is foretold of the benches
    abbrev AtBench : Result Reply Refusal → Type 0
    AtBench = CouldAtBench guards (Listed n.published) (benches_of_node n) job

    same_refusal : {f g : Refusal} → ◌≡◌ {A = Result Reply Refusal} (Err f) (Err g) → f ≡ g
    same_refusal {f} e = ap (λ (t : Result Reply Refusal). elim t [ Ok r ↦ f | Err g ↦ g ]) e

    same_reply : {q r : Reply} → ◌≡◌ {A = Result Reply Refusal} (Ok q) (Ok r) → q ≡ r
    same_reply {q} e = ap (λ (t : Result Reply Refusal). elim t [ Ok r ↦ r | Err f ↦ q ]) e

    not_so : (b : BenchState) → item_at n.benches (place_of n job) ≡ Some b → {r : Result Reply Refusal} → Could guards (Listed n.published) b job r → (f : Refusal) → r ≡ Err f → CouldAt guards n job (Err f)
    not_so b stands (Could.passed h tells) f e = absurd (cc)
    not_so b stands (Could.failed {f = g} h) f e = subst (λ f. CouldAt guards n job (Err f)) (same_refusal e) (CouldAt.failed stands (inl h))

    pub not_at_bench : (f : Refusal) → AtBench (Err f) → CouldAt guards n job (Err f)
    not_at_bench f h = not_so h.bench h.stands h.could f refl

    so_at : (b : BenchState) → item_at n.benches (place_of n job) ≡ Some b → {r : Result Reply Refusal} → Could guards (Listed n.published) b job r → (reply : Reply) → r ≡ Ok reply → order_check n job None → CouldAt guards n job (Ok reply)
    so_at b stands (Could.passed {reply = q} h tells) reply e k = subst (λ reply. CouldAt guards n job (Ok reply)) (same_reply e) (CouldAt.passed stands (h, k) tells)
    so_at b stands (Could.failed h) reply e k = absurd (cc)

    at_bench : (reply : Reply) → AtBench (Ok reply) → order_check n job None → CouldAt guards n job (Ok reply)
    at_bench reply h k = so_at h.bench h.stands h.could reply refl k

    not_begun : (b : BenchState) → item_at n.benches (place_of n job) ≡ Some b → {r : Result Reply Refusal} → Could guards (Listed n.published) b job r → (reply : Reply) → r ≡ Ok reply → (f : Refusal) → order_check n job (Some f) → CouldAt guards n job (Err f)
    not_begun b stands (Could.passed h tells) reply e f k = CouldAt.failed stands (inr (h, k))
    not_begun b stands (Could.failed h) reply e f k = absurd (cc)

    not_at_node : (reply : Reply) → AtBench (Ok reply) → (f : Refusal) → order_check n job (Some f) → CouldAt guards n job (Err f)
    not_at_node reply h f k = not_begun h.bench h.stands h.could reply refl f k

    -- what the node makes of it
    pub answers : (reply : Reply) → AtBench (Ok reply) → (r : Result Reply Refusal) → IfOk r (λ same. (same ≡ reply) × order_check n job None) → IfErr r (λ f. order_check n job (Some f)) → CouldAt guards n job r
    answers reply h (Ok same) ok err = subst (λ x. CouldAt guards n job (Ok x)) (sym ok.0) (at_bench reply h ok.1)
    answers reply h (Err f) ok err = not_at_node reply h f err
