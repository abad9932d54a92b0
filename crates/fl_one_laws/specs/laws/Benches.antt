-- A job at a node has one result, and leaves one node.
use Rattle.std.proofs.Common.{◌≡◌, ◌≢◌, ◌⊎◌, ◌≤◌, ◌∙◌, inl, inr, ℕ, zero, suc, refl, sym, ap, subst, arith, min, max, length, Option, None, Some, Result, Ok, Err}
use Rattle.fl_labels.specs.NameOrder.{same_name}
use Rattle.fl_labels.specs.SetBy.{SetBy}
use Rattle.fl_labels.specs.declared.name.Name.{Name}
use Rattle.fl_labels.specs.declared.pid.Pid.{Pid}
use Rattle.fl_ops.specs.OpOrder.{op_cmp}
use Rattle.fl_ops.specs.declared.op.Body.{Body}
use Rattle.fl_message.specs.declared.message.Data.{Data}
use Rattle.fl_jobs.specs.declared.job.Job.{Job}
use Rattle.fl_jobs.specs.declared.job.Job.TheVariants.{Arrive}
use Rattle.fl_jobs.specs.declared.answer.Reply.{Reply}
use Rattle.fl_jobs.specs.declared.answer.Refusal.{Refusal}
use Rattle.fl_jobs.specs.declared.answer.Refusal.TheVariants.{Memory}
use Rattle.fl_jobs.specs.declared.answer.Outcome.{Outcome}
use Rattle.fl_jobs.specs.declared.answer.Outcome.TheVariants as outcome
use Rattle.fl_bench.specs.Bench.{BenchState}
use Rattle.fl_bench.specs.Jobs.{Does}
use Rattle.fl_bench.specs.laws.Puts.{none_some, same_found}
use Rattle.fl_bench_laws.specs.laws.OneResult.{one_result}
use Rattle.fl_system.specs.declared.answer.Answer.{Answer}
use Rattle.fl_system.specs.declared.answer.Answer.TheVariants as answer
use Rattle.fl_system.specs.declared.answer.Fault.{Fault}
use Rattle.fl_system.specs.declared.answer.Fault.TheVariants.{Refused}
use Rattle.fl_system.specs.declared.state.Pending.TheVariants.{Nothing, Unsaved, Due}
use Rattle.fl_system.specs.declared.state.State.{State}
use Rattle.fl_system.specs.declared.state.State.TheVariants.{Running, Stopped}
use Rattle.fl_system.specs.State.{NodeState, first_ops}
use Rattle.fl_system.specs.Naming.{IsLast, IsNextAfter}
use Rattle.fl_system.specs.Waiting.{IsRunning, NotRunning, IsTaken}
use Rattle.fl_system.specs.Begins.{Begins, pending_with, order}
use Rattle.fl_system.specs.Numbered.{item_at}
use Rattle.fl_system.specs.Jobs.{Jobs, Looks, Decides, looking, worked}
use Rattle.fl_system.specs.Arrives.{Arrives, ArrivesAt, Unasked, delivered}

-- ---- why nothing is done

pub one_stop : (state : State) (f g : Fault) → NotRunning state f → NotRunning state g → f ≡ g
one_stop (Running pending) f g h k = absurd h
one_stop (Stopped doubt) f g h k = h ∙ sym k

pub not_both : (state : State) (f : Fault) → IsRunning state → NotRunning state f → ⊥
not_both (Running pending) f h k = k
not_both (Stopped doubt) f h k = h

pub one_taken : (state : State) (f g : Fault) → IsTaken state f → IsTaken state g → f ≡ g
one_taken (Running Nothing) f g h k = absurd h
one_taken (Running (Unsaved batch)) f g h k = h ∙ sym k
one_taken (Running (Due batch)) f g h k = h ∙ sym k
one_taken (Stopped doubt) f g h k = h ∙ sym k

pub free : {state : State} (f : Fault) → state ≡ Running Nothing → IsTaken state f → ⊥
free f e h = subst (λ s. IsTaken s f) e h

-- ---- an operation is begun

one_last : {saved : SetBy op_cmp} {node a b : ℕ} → IsLast saved node a → IsLast saved node b → a ≤ b
one_last {a = zero} h k = omega arith
one_last {a = suc a} h k =
    let (op, is_in, is_node, is_seq) = h.reached (omega arith) in
    let up = k.upper op is_in is_node in
    omega (arith, up, is_seq)

one_next : {saved : SetBy op_cmp} {node : ℕ} {m n : Name} → IsNextAfter saved node m → IsNextAfter saved node n
    → m ≡ n
one_next {m} {n} h k =
    let low = one_last h.is_last k.is_last in
    let high = one_last k.is_last h.is_last in
    let p = h.seq_is in
    let q = k.seq_is in
    same_name m n (h.node_is ∙ sym k.node_is) (omega (arith, low, high, p, q))

-- the last name has no next
no_next : {saved : SetBy op_cmp} {node : ℕ} {m : Name} → IsNextAfter saved node m → IsLast saved node 4294967295 → ⊥
no_next {m} h k =
    let high = one_last k h.is_last in
    let short = m.seq_in_range.1 in
    let p = h.seq_is in
    omega (arith, high, short, p)

module _ {n : NodeState} {body : Body} {maker : Option Pid} {desk : Option ℕ} where
  pub one_begin : {r s : Result Name Fault} {a b : NodeState} → Begins n body maker desk r a
      → Begins n body maker desk s b → (r ≡ s) × (a ≡ b)
  one_begin (Begins.begins idle next) (Begins.begins still follows) =
      let e = one_next next follows in
      (ap Ok e, ap (λ name. pending_with n (order name body maker desk)) e)
  one_begin (Begins.begins idle next) (Begins.taken {fault} why) = absurd (free fault idle why)
  one_begin (Begins.begins idle next) (Begins.spent still last) = absurd (no_next next last)
  one_begin (Begins.taken {fault} why) (Begins.begins idle next) = absurd (free fault idle why)
  one_begin (Begins.taken {fault} why) (Begins.taken {fault = other} because) =
      (ap Err (one_taken n.state fault other why because), refl)
  one_begin (Begins.taken {fault} why) (Begins.spent idle last) = absurd (free fault idle why)
  one_begin (Begins.spent still last) (Begins.begins idle next) = absurd (no_next next last)
  one_begin (Begins.spent idle last) (Begins.taken {fault} why) = absurd (free fault idle why)
  one_begin (Begins.spent idle last) (Begins.spent still end) = (refl, refl)

-- ---- a job

-- what a result at a bench, which leaves it so, comes to at the node
abbrev Turns : (n : NodeState) (desk v : ℕ) (job : Job) (left : BenchState) → Result Outcome Refusal
    → Result Answer Fault → NodeState → Type 0
Turns n desk v job left (Err refusal) r m = (r ≡ Err (Refused refusal)) × (m ≡ worked n desk v job left)
Turns n desk v job left (Ok (outcome.Reply reply)) r m = (r ≡ Ok (answer.Reply reply)) × (m ≡ worked n desk v job left)
Turns n desk v job left (Ok (outcome.Out packet)) r m = (r ≡ Ok (answer.Out packet)) × (m ≡ worked n desk v job left)
Turns n desk v job left (Ok (outcome.Order body pid)) r m =
    ((name : Name) × Begins (worked n desk v job left) body (Some pid) (Some desk) (Ok name) m
    × (r ≡ Ok (answer.Begun name)))
    ⊎ ((fault : Fault) × (after : NodeState)
    × Begins (worked n desk v job left) body (Some pid) (Some desk) (Err fault) after
    × (r ≡ Err fault) × (m ≡ looking n desk v))

-- one job
record Turned (n : NodeState) (desk upto : ℕ) (job : Job) (r : Result Answer Fault) (m : NodeState) : Type 0 where
  v : ℕ
  result : Result Outcome Refusal
  left : BenchState
  look : Looks n desk upto v
  decides : Decides n v job result left
  turns : Turns n desk v job left result r m

one_look : {n : NodeState} {desk upto v w : ℕ} → Looks n desk upto v → Looks n desk upto w → v ≡ w
one_look {n} {upto = upto} h k =
    h.sees ∙ ap (λ seen. max seen (min upto (length n.published))) (same_found h.has_seen k.has_seen) ∙ sym k.sees

one_turn : (n : NodeState) (desk v : ℕ) (job : Job) (left : BenchState) (result : Result Outcome Refusal)
    (r s : Result Answer Fault) (a b : NodeState) → Turns n desk v job left result r a
    → Turns n desk v job left result s b → (r ≡ s) × (a ≡ b)
one_turn n desk v job left (Err refusal) r s a b h k = (h.0 ∙ sym k.0, h.1 ∙ sym k.1)
one_turn n desk v job left (Ok (outcome.Reply reply)) r s a b h k = (h.0 ∙ sym k.0, h.1 ∙ sym k.1)
one_turn n desk v job left (Ok (outcome.Out packet)) r s a b h k = (h.0 ∙ sym k.0, h.1 ∙ sym k.1)
one_turn n desk v job left (Ok (outcome.Order body pid)) r s a b (inl (name, h, is)) (inl (other, k, so)) =
    let one = one_begin h k in
    let said = one.0 in
    let same : name ≡ other = cc in
    (is ∙ ap (λ x. Ok (answer.Begun x)) same ∙ sym so, one.1)
one_turn n desk v job left (Ok (outcome.Order body pid)) r s a b (inl (name, h, is)) (inr (fault, after, k, so, left_so)) =
    let one = (one_begin h k).0 in absurd (cc)
one_turn n desk v job left (Ok (outcome.Order body pid)) r s a b (inr (fault, after, h, is, left_so)) (inl (name, k, so)) =
    let one = (one_begin h k).0 in absurd (cc)
one_turn n desk v job left (Ok (outcome.Order body pid)) r s a b (inr (fault, after, h, is, was)) (inr (other, later, k, so, left_so)) =
    let one = (one_begin h k).0 in
    let same : fault ≡ other = cc in
    (is ∙ ap Err same ∙ sym so, was ∙ sym left_so)

-- what a result that wants memory comes to
no_memory : (n : NodeState) (desk v : ℕ) (job : Job) (left : BenchState) (result : Result Outcome Refusal)
    (r : Result Answer Fault) (a : NodeState) → Turns n desk v job left result r a → r ≢ Err (Refused Memory)
    → result ≢ Err Memory
no_memory n desk v job left result r a h ample e =
    ample ((subst (λ x. Turns n desk v job left x r a) e h).0)

module _ {n : NodeState} {desk upto : ℕ} {job : Job} where
  one_turned : {r s : Result Answer Fault} {a b : NodeState} → Turned n desk upto job r a → Turned n desk upto job s b
      → r ≢ Err (Refused Memory) → s ≢ Err (Refused Memory) → (r ≡ s) × (a ≡ b)
  one_turned {r} {s} {a} {b} h k ample plenty =
      let seen : k.v ≡ h.v = one_look k.look h.look in
      let decides : Decides n h.v job k.result k.left = subst (λ v. Decides n v job k.result k.left) seen k.decides in
      let turns : Turns n desk h.v job k.left k.result s b =
      subst (λ v. Turns n desk v job k.left k.result s b) seen k.turns in
      let bench : decides.bench ≡ h.decides.bench = same_found decides.stands h.decides.stands in
      let does = subst (λ x. Does (first_ops h.v n.published) x job k.result k.left) bench decides.does in
      let one = one_result (first_ops h.v n.published) h.decides.bench job k.result h.result k.left h.left does
      h.decides.does (no_memory n desk h.v job k.left k.result s b turns plenty)
      (no_memory n desk h.v job h.left h.result r a h.turns ample) in
      one_turn n desk h.v job h.left h.result r s a b h.turns
      (subst (λ x. Turns n desk h.v job x h.result s b) one.1 (subst (λ x. Turns n desk h.v job k.left x s b) one.0 turns))

  -- the node is stopped, or the job is turned
  turned : {r : Result Answer Fault} {a : NodeState} → Jobs n desk upto job r a → r ≢ Err (Refused Memory)
      → ((fault : Fault) × NotRunning n.state fault × (r ≡ Err fault) × (a ≡ n)) ⊎ Turned n desk upto job r a
  turned (Jobs.stopped {fault} why) ample = inl (fault, why, refl, refl)
  turned (Jobs.no_room look more seen) ample = absurd (ample refl)
  turned (Jobs.refused {v} {refusal} {left} look decides) ample = inr (record { v = v; result = Err refusal; left = left; look = look; decides = decides; turns = (refl, refl) })
  turned (Jobs.replied {v} {reply} {left} look decides) ample = inr (record { v = v; result = Ok (outcome.Reply reply); left = left; look = look; decides = decides; turns = (refl, refl) })
  turned (Jobs.sent {v} {packet} {left} look decides) ample = inr (record { v = v; result = Ok (outcome.Out packet); left = left; look = look; decides = decides; turns = (refl, refl) })
  turned (Jobs.begun {v} {body} {pid} {left} {name} look decides start) ample = inr (record { v = v; result = Ok (outcome.Order body pid); left = left; look = look; decides = decides; turns = inl (name, start, refl) })
  turned (Jobs.not_begun {v} {body} {pid} {left} {fault} {n' = after} look decides start) ample = inr (record { v = v; result = Ok (outcome.Order body pid); left = left; look = look; decides = decides; turns = inr (fault, after, start, refl, refl) })

  pub one_job : {r s : Result Answer Fault} {a b : NodeState} → Jobs n desk upto job r a → Jobs n desk upto job s b
      → r ≢ Err (Refused Memory) → s ≢ Err (Refused Memory) → (r ≡ s) × (a ≡ b)
  one_job {r} {s} {a} {b} h k ample plenty = both (turned h ample) (turned k plenty)
    where
      both : ((fault : Fault) × NotRunning n.state fault × (r ≡ Err fault) × (a ≡ n)) ⊎ Turned n desk upto job r a
          → ((fault : Fault) × NotRunning n.state fault × (s ≡ Err fault) × (b ≡ n)) ⊎ Turned n desk upto job s b
          → (r ≡ s) × (a ≡ b)
      both (inl (f, why, is, was)) (inl (g, because, so, stays)) =
          (is ∙ ap Err (one_stop n.state f g why because) ∙ sym so, was ∙ sym stays)
      both (inl (f, why, is, was)) (inr t) = absurd (not_both n.state f t.look.running why)
      both (inr t) (inl (f, why, is, was)) = absurd (not_both n.state f t.look.running why)
      both (inr t) (inr u) = one_turned t u ample plenty

  -- at a running node the desk of a job is there
  pub no_view : {r : Result Answer Fault} {a : NodeState} → Jobs n desk upto job r a → IsRunning n.state
      → item_at n.views desk ≡ None → ⊥
  no_view (Jobs.stopped {fault} why) runs none = not_both n.state fault runs why
  no_view (Jobs.no_room look more seen) runs none = none_some none look.has_seen
  no_view (Jobs.refused look decides) runs none = none_some none look.has_seen
  no_view (Jobs.replied look decides) runs none = none_some none look.has_seen
  no_view (Jobs.sent look decides) runs none = none_some none look.has_seen
  no_view (Jobs.begun look decides start) runs none = none_some none look.has_seen
  no_view (Jobs.not_begun look decides start) runs none = none_some none look.has_seen

-- ---- a message

module _ {n : NodeState} {d : Data} where
  one_arrival : {x y : Result Outcome Refusal} {a b : BenchState} → ArrivesAt n d x a → ArrivesAt n d y b
      → x ≢ Err Memory → y ≢ Err Memory → (x ≡ y) × (a ≡ b)
  one_arrival {x} {y} {a} {b} h k ample plenty =
      let bench : k.bench ≡ h.bench = same_found k.stands h.stands in
      one_result Unasked h.bench (Arrive d) x y a b h.does
      (subst (λ z. Does Unasked z (Arrive d) y b) bench k.does) ample plenty

  pub one_arrives : {r s : Result Reply Fault} {a b : NodeState} → Arrives n d r a → Arrives n d s b
      → r ≢ Err (Refused Memory) → s ≢ Err (Refused Memory) → (r ≡ s) × (a ≡ b)
  one_arrives (Arrives.stopped {fault} why) (Arrives.stopped {fault = other} because) ample plenty =
      (ap Err (one_stop n.state fault other why because), refl)
  one_arrives (Arrives.stopped {fault} why) (Arrives.refused k) ample plenty = absurd (not_both n.state fault k.running why)
  one_arrives (Arrives.stopped {fault} why) (Arrives.arrives k) ample plenty = absurd (not_both n.state fault k.running why)
  one_arrives (Arrives.refused h) (Arrives.stopped {fault} why) ample plenty = absurd (not_both n.state fault h.running why)
  one_arrives (Arrives.arrives h) (Arrives.stopped {fault} why) ample plenty = absurd (not_both n.state fault h.running why)
  one_arrives (Arrives.refused {refusal} h) (Arrives.refused {refusal = other} k) ample plenty =
      let one = one_arrival h k (λ e. ample (cc)) (λ e. plenty (cc)) in
      let said = one.0 in
      let same : refusal ≡ other = cc in
      (ap (λ f. Err (Refused f)) same, ap (delivered n d) one.1)
  one_arrives (Arrives.refused h) (Arrives.arrives k) ample plenty =
      let one = (one_arrival h k (λ e. ample (cc)) (λ e. absurd (cc))).0 in absurd (cc)
  one_arrives (Arrives.arrives h) (Arrives.refused k) ample plenty =
      let one = (one_arrival h k (λ e. absurd (cc)) (λ e. plenty (cc))).0 in absurd (cc)
  one_arrives (Arrives.arrives {reply} h) (Arrives.arrives {reply = other} k) ample plenty =
      let one = one_arrival h k (λ e. absurd (cc)) (λ e. absurd (cc)) in
      let said = one.0 in
      let same : reply ≡ other = cc in
      (ap Ok same, ap (delivered n d) one.1)
