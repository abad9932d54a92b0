-- A job at a node, of any number of desks and benches.
use Rattle.std.proofs.Common.{◌≡◌, ◌≤◌, ◌<◌, ◌∙◌, refl, sym, ap, subst, ℕ, zero, suc, List, [], ◌∷◌, length, arith, Ok, Err, Result, Some, inl}
use Rattle.std.specs.Prelude.{min, max}
use Rattle.fl_labels.specs.declared.pid.Pid.{Pid}
use Rattle.fl_ops.specs.declared.op.Body.{Body}
use Rattle.fl_ops.specs.Registry.{Registry}
use Rattle.fl_jobs.specs.declared.job.Job.{Job}
use Rattle.fl_jobs.specs.declared.job.Job.TheVariants.{By, Arrive}
use Rattle.fl_jobs.specs.declared.job.Act.TheVariants as act
use Rattle.fl_jobs.specs.declared.answer.Refusal.{Refusal}
use Rattle.fl_jobs.specs.declared.answer.Refusal.TheVariants.{Memory}
use Rattle.fl_jobs.specs.declared.answer.Reply.{Reply}
use Rattle.fl_jobs.specs.declared.answer.Outcome.{Outcome}
use Rattle.fl_jobs.specs.declared.answer.Outcome.TheVariants as outcome
use Rattle.fl_message.specs.declared.message.Data.{Data}
use Rattle.fl_bench.specs.Bench.{BenchState}
use Rattle.fl_bench.specs.Gifts.{cancelled}
use Rattle.fl_bench.specs.Jobs.{Does}
use Rattle.fl_bench.specs.laws.Orders.{cancel_back, order_at}
use Rattle.fl_system.specs.declared.answer.Answer.{Answer}
use Rattle.fl_system.specs.declared.answer.Answer.TheVariants as answer
use Rattle.fl_system.specs.declared.answer.Fault.{Fault}
use Rattle.fl_system.specs.declared.answer.Fault.TheVariants.{Refused}
use Rattle.fl_system.specs.Numbered.{item_at, change_item, with_item}
use Rattle.fl_system.specs.State.{NodeState, first_ops}
use Rattle.fl_system.specs.Waiting.{IsRunning}
use Rattle.fl_system.specs.Publishes.{at_bench_of}
use Rattle.fl_system.specs.Begins.{Begins}
use Rattle.fl_system.specs.Jobs.{Looks, Decides, Jobs, bench_of, place_of, procs_after, looking, worked}
use Rattle.fl_system.specs.Arrives.{Arrives, ArrivesAt, Unasked}
use Rattle.fl_desks.specs.Benches.{BenchesState, DoesAt}
use Rattle.fl_node.specs.Desks.{IsDeskOf}
use Rattle.fl_node.specs.parts.Ordering.{Orders}
use Rattle.fl_node.specs.parts.Working.{WorksAt}

-- ---- items by their numbers

pub item_here : {A : Type 0} (f : A → A) (xs : List A) (k : ℕ) (x : A) → item_at xs k ≡ Some x → item_at (change_item f xs k) k ≡ Some (f x)
item_here f [] k x at = absurd (cc)
item_here f (y ∷ ys) zero x at = absurd (cc)
item_here f (y ∷ ys) (suc zero) x at = let same : y ≡ x = cc in ap (λ z. Some (f z)) same
item_here f (y ∷ ys) (suc (suc k)) x at = item_here f ys (suc k) x at

pub twice : {A : Type 0} (xs : List A) (k : ℕ) (x y : A) → with_item (with_item xs k x) k y ≡ with_item xs k y
twice [] k x y = refl
twice (z ∷ xs) zero x y = refl
twice (z ∷ xs) (suc zero) x y = refl
twice (z ∷ xs) (suc (suc k)) x y = ap (λ ys. z ∷ ys) (twice xs (suc k) x y)

pub same_item : {A : Type 0} (xs : List A) (k : ℕ) (x : A) → item_at xs k ≡ Some x → with_item xs k x ≡ xs
same_item [] k x at = refl
same_item (y ∷ ys) zero x at = refl
same_item (y ∷ ys) (suc zero) x at = let same : x ≡ y = cc in ap (λ z. z ∷ ys) same
same_item (y ∷ ys) (suc (suc k)) x at = ap (λ zs. y ∷ zs) (same_item ys (suc k) x at)

-- what is put there and taken back again
change_back : {A : Type 0} (f : A → A) (xs : List A) (k : ℕ) (x y : A) → item_at xs k ≡ Some x → f y ≡ x → change_item f (with_item xs k y) k ≡ xs
change_back f [] k x y at back = refl
change_back f (z ∷ zs) zero x y at back = refl
change_back f (z ∷ zs) (suc zero) x y at back = let same : f y ≡ z = cc in ap (λ w. w ∷ zs) same
change_back f (z ∷ zs) (suc (suc k)) x y at back = ap (λ ws. z ∷ ws) (change_back f zs (suc k) x y at back)

pub changed_length : {A : Type 0} (f : A → A) (xs : List A) (k : ℕ) → length (change_item f xs k) ≡ length xs
changed_length f [] k = refl
changed_length f (x ∷ xs) zero = refl
changed_length f (x ∷ xs) (suc zero) = refl
changed_length f (x ∷ xs) (suc (suc k)) = ap suc (changed_length f xs (suc k))

-- the desk has seen some
pub record HasView (views : List ℕ) (desk : ℕ) : Type 0 where
  pub seen : ℕ
  pub at : item_at views desk ≡ Some seen

view_at : (views : List ℕ) (k : ℕ) → suc k ≤ length views → HasView views (suc k)
view_at [] k few = absurd (omega (arith, few))
view_at (x ∷ xs) zero few = record { seen = x; at = refl }
view_at (x ∷ xs) (suc k) few = let rest = view_at xs k (omega (arith, few)) in record { seen = rest.seen; at = rest.at }

pub has_view : (n : NodeState) (desk : ℕ) → IsDeskOf n desk → HasView n.views desk
has_view n zero is = absurd (omega (arith, is.first))
has_view n (suc k) is = view_at n.views k is.last

-- ---- a job at its bench

-- the benches of a node
abbrev pub benches_of_node : NodeState → BenchesState
benches_of_node n = record { procs = n.procs; benches = n.benches }

-- with other benches
abbrev pub with_benches : NodeState → BenchesState → NodeState
with_benches n b = record n { procs = b.procs; benches = b.benches }

pub record Decided (n : NodeState) (desk v : ℕ) (job : Job) (result : Result Outcome Refusal) (after : NodeState) : Type 0 where
  pub left : BenchState
  pub decides : Decides n v job result left
  pub leaves : after ≡ worked n desk v job left

pub decided : (n : NodeState) (desk v : ℕ) (job : Job) (result : Result Outcome Refusal) (after : BenchesState) → item_at n.views desk ≡ Some v
    → DoesAt (first_ops v n.published) (benches_of_node n) job result after → Decided n desk v job result (with_benches n after)
decided n desk v job result after at h = record {
  left = h.left;
  decides = record { bench = h.bench; stands = h.stands; does = h.does };
  leaves = ap (with_benches n) h.leaves ∙ (λ i. record n {
    views = (sym (same_item n.views desk v at)) i;
    procs = procs_after (length n.benches) n.procs job;
    benches = with_item n.benches (place_of n job) h.left;
  });
}

-- the maker goes on with nothing: the benches are as before the order
cancelled_back : (n : NodeState) (desk v : ℕ) (job : Job) (body : Body) (pid : Pid) (left : BenchState) → item_at n.views desk ≡ Some v
    → Decides n v job (Ok (outcome.Order body pid)) left
    → record (worked n desk v job left) { benches = at_bench_of pid (λ b. cancelled b pid) (worked n desk v job left).benches } ≡ n
cancelled_back n desk v job body pid left at d =
    let o = order_at d.does in
    let asked : job ≡ By pid (act.Order o.order) = o.asked in
    let place : place_of n job ≡ bench_of (length n.benches) pid.serial = ap (place_of n) asked in
    let count : length (with_item n.benches (place_of n job) left) ≡ length n.benches = changed_length _ n.benches (place_of n job) in
    let there : bench_of (length (with_item n.benches (place_of n job) left)) pid.serial ≡ place_of n job = ap (λ k. bench_of k pid.serial) count ∙ sym place in
    let back : at_bench_of pid (λ b. cancelled b pid) (with_item n.benches (place_of n job) left) ≡ n.benches =
    ap (change_item (λ b. cancelled b pid) (with_item n.benches (place_of n job) left)) there
    ∙ change_back (λ b. cancelled b pid) n.benches (place_of n job) d.bench left d.stands (cancel_back d.does) in
    λ i. record n {
      views = same_item n.views desk v at i;
      procs = (ap (procs_after (length n.benches) n.procs) asked) i;
      benches = back i;
    }

-- an order is begun, or not
pub orders_at : (n : NodeState) (desk v : ℕ) (job : Job) (body : Body) (pid : Pid) (mid : NodeState) (result : Result Answer Fault) (after : NodeState)
    → item_at n.views desk ≡ Some v → Decided n desk v job (Ok (outcome.Order body pid)) mid → Orders mid body pid desk result after
    → WorksAt n desk v job result after
orders_at n desk v job body pid mid (Ok a) after at d h =
    subst (λ x. WorksAt n desk v job (Ok x) after) (sym h.1)
    (WorksAt.begun d.decides (subst (λ m. Begins m body (Some pid) (Some desk) (Ok h.0) after) d.leaves h.2))
orders_at n desk v job body pid mid (Err fault) after at d h =
    let back : after ≡ n =
    h.1 ∙ ap (λ (m : NodeState). record m { benches = at_bench_of pid (λ b. cancelled b pid) m.benches }) d.leaves
    ∙ cancelled_back n desk v job body pid d.left at d.decides in
    subst (λ m. WorksAt n desk v job (Err fault) m) (sym back)
    (WorksAt.not_begun d.decides (subst (λ m. Begins m body (Some pid) (Some desk) (Err fault) m) d.leaves h.0))

pub replied_at : (n : NodeState) (desk v : ℕ) (job : Job) (reply : Reply) (after : NodeState)
    → Decided n desk v job (Ok (outcome.Reply reply)) after → WorksAt n desk v job (Ok (answer.Reply reply)) after
replied_at n desk v job reply after d = subst (λ m. WorksAt n desk v job (Ok (answer.Reply reply)) m) (sym d.leaves) (WorksAt.replied d.decides)

pub sent_at : (n : NodeState) (desk v : ℕ) (job : Job) (packet : Data) (after : NodeState)
    → Decided n desk v job (Ok (outcome.Out packet)) after → WorksAt n desk v job (Ok (answer.Out packet)) after
sent_at n desk v job packet after d = subst (λ m. WorksAt n desk v job (Ok (answer.Out packet)) m) (sym d.leaves) (WorksAt.sent d.decides)

pub refused_at : (n : NodeState) (desk v : ℕ) (job : Job) (refusal : Refusal) (after : NodeState)
    → Decided n desk v job (Err refusal) after → WorksAt n desk v job (Err (Refused refusal)) after
refused_at n desk v job refusal after d = subst (λ m. WorksAt n desk v job (Err (Refused refusal)) m) (sym d.leaves) (WorksAt.refused d.decides)

-- ---- a desk that looks first

-- that the desk saw fewer before changes nothing
worked_twice : (n : NodeState) (desk v : ℕ) (job : Job) (left : BenchState) → worked (looking n desk v) desk v job left ≡ worked n desk v job left
worked_twice n desk v job left = λ i. record n {
  views = twice n.views desk v v i;
  procs = procs_after (length n.benches) n.procs job;
  benches = with_item n.benches (place_of n job) left;
}

same_decided : (n : NodeState) (desk v : ℕ) (job : Job) (result : Result Outcome Refusal) (left : BenchState)
    → Decides (looking n desk v) v job result left → Decides n v job result left
same_decided n desk v job result left d = record { bench = d.bench; stands = d.stands; does = d.does }

pub jobs_then : (n : NodeState) (desk upto v : ℕ) (job : Job) (result : Result Answer Fault) (after : NodeState)
    → Looks n desk upto v → WorksAt (looking n desk v) desk v job result after → Jobs n desk upto job result after
jobs_then n desk upto v job result after look (WorksAt.refused {refusal} {left} d) =
    subst (λ m. Jobs n desk upto job (Err (Refused refusal)) m) (sym (worked_twice n desk v job left)) (Jobs.refused look (same_decided n desk v job _ left d))
jobs_then n desk upto v job result after look (WorksAt.replied {reply} {left} d) =
    subst (λ m. Jobs n desk upto job (Ok (answer.Reply reply)) m) (sym (worked_twice n desk v job left)) (Jobs.replied look (same_decided n desk v job _ left d))
jobs_then n desk upto v job result after look (WorksAt.sent {packet} {left} d) =
    subst (λ m. Jobs n desk upto job (Ok (answer.Out packet)) m) (sym (worked_twice n desk v job left)) (Jobs.sent look (same_decided n desk v job _ left d))
jobs_then n desk upto v job result after look (WorksAt.begun {body} {pid} {left} {name} d b) =
    Jobs.begun look (same_decided n desk v job _ left d) (subst (λ m. Begins m body (Some pid) (Some desk) (Ok name) after) (worked_twice n desk v job left) b)
jobs_then n desk upto v job result after look (WorksAt.not_begun {body} {pid} {left} {fault} {n'} d b) =
    Jobs.not_begun look (same_decided n desk v job _ left d) (subst (λ m. Begins m body (Some pid) (Some desk) (Err fault) n') (worked_twice n desk v job left) b)

-- the desk had no room to see more
pub turned : (n : NodeState) (desk upto seen : ℕ) (job : Job) → IsRunning n.state → item_at n.views desk ≡ Some seen → seen < min upto (length n.published)
    → Jobs n desk upto job (Err (Refused Memory)) (record n { procs = procs_after (length n.benches) n.procs job })
turned n desk upto seen job running at more =
    let look : Looks n desk upto (max seen (min upto (length n.published))) = record { running = running; seen = seen; has_seen = at; sees = refl } in
    let rises : seen < max seen (min upto (length n.published)) = omega (arith, more) in
    subst (λ (views : List ℕ). Jobs n desk upto job (Err (Refused Memory)) (record n { views = views; procs = procs_after (length n.benches) n.procs job }))
    (same_item n.views desk seen at) (Jobs.no_room look rises (inl refl))

-- ---- arrivals

-- an arrival asks nothing of the registry
unasked : {V : Registry} {b b' : BenchState} {d : Data} {result : Result Outcome Refusal} → Does V b (Arrive d) result b' → Does Unasked b (Arrive d) result b'
unasked (Does.passed checks effect) = Does.passed checks effect
unasked (Does.failed checks) = Does.failed checks
unasked (Does.no_room takes) = Does.no_room takes

-- it sends nothing
pub arrival_sends_nothing : {V : Registry} {b b' : BenchState} {d packet : Data} → Does V b (Arrive d) (Ok (outcome.Out packet)) b' → ⊥
arrival_sends_nothing (Does.passed checks effect) = let is = effect.2 in cc

-- it is no order
pub arrival_orders_nothing : {V : Registry} {b b' : BenchState} {d : Data} {body : Body} {pid : Pid} → Does V b (Arrive d) (Ok (outcome.Order body pid)) b' → ⊥
arrival_orders_nothing (Does.passed checks effect) = let is = effect.2 in cc

module _ (n : NodeState) (V : Registry) (d : Data) (running : IsRunning n.state) where
  arrives_at : (result : Result Outcome Refusal) (after : BenchesState) (h : DoesAt V (benches_of_node n) (Arrive d) result after) → ArrivesAt n d result h.left
  arrives_at result after h = record { running = running; bench = h.bench; stands = h.stands; does = unasked h.does }

  pub arrives_by : (reply : Reply) (after : BenchesState) → DoesAt V (benches_of_node n) (Arrive d) (Ok (outcome.Reply reply)) after
      → Arrives n d (Ok reply) (with_benches n after)
  arrives_by reply after h =
      subst (λ b. Arrives n d (Ok reply) (with_benches n b)) (sym h.leaves) (Arrives.arrives (arrives_at _ after h))

  pub not_arrived_by : (refusal : Refusal) (after : BenchesState) → DoesAt V (benches_of_node n) (Arrive d) (Err refusal) after
      → Arrives n d (Err (Refused refusal)) (with_benches n after)
  not_arrived_by refusal after h =
      subst (λ b. Arrives n d (Err (Refused refusal)) (with_benches n b)) (sym h.leaves) (Arrives.refused (arrives_at _ after h))
