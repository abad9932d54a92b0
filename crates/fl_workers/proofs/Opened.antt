-- A crew whose node is opened.
use Rattle.std.proofs.Common.{◌≡◌, ◌∙◌, inl, inr, ℕ, Bool, Some, None, Result, Ok, Err, OnOk, length, refl, sym, ap, subst, ◌+◌}
use Rattle.fl_registrar.specs.Passing.{Passes}
use Rattle.fl_store.specs.Custody.{Custody}
use Rattle.fl_store.specs.Kept.{Kept}
use Rattle.fl_system.specs.declared.answer.Fault.{Fault}
use Rattle.fl_system.specs.declared.state.Batch.{Batch}
use Rattle.fl_system.specs.declared.state.Pending.TheVariants.{Nothing}
use Rattle.fl_system.specs.declared.state.State.TheVariants.{Running}
use Rattle.std.specs.declared.option.Option.{Option}
use Rattle.fl_bench.specs.Bench.{new_bench}
use Rattle.fl_labels.specs.SetBy as set
use Rattle.fl_node.specs.Over.{NodeOver}
use Rattle.fl_system.specs.Openings.{Opens, OpensAgain, Restarts, IsOf, opened}
use Rattle.fl_system.specs.State.{NodeState}
use Rattle.fl_crew_model.specs.Crews.{IsCrew}
use Rattle.fl_workers.specs.Over.{CrewOver, bench_at, bench_in, books_of}
use Rattle.fl_workers.specs.Seated.{seated_of, IsToldOf, OpensCrew, RestartsCrew}

-- ---- what runs after an opening

opens_idle : (desks : ℕ) (own : Kept → Type 0) (k k' : Kept) (n : NodeState)
    → Opens desks own k (Ok n) k' → n.state ≡ Running Nothing
opens_idle desks own k k' n (Opens.opens is low) = refl

again : (n n' : NodeState) (doubt : Option Batch) (k k' : Kept) (boot : ℕ)
    → OpensAgain n doubt k (Ok boot) n' k' → (boot ≡ n'.boot) × (n'.state ≡ Running Nothing)
again n n' doubt k k' boot (OpensAgain.opens o) = (refl, opens_idle _ _ k k' n' o)

restarted : (n n' : NodeState) (k k' : Kept) (keeps : Bool) (boot : ℕ)
    → Restarts n k keeps (Ok boot) n' k' → (boot ≡ n'.boot) × (n'.state ≡ Running Nothing)
restarted n n' k k' keeps boot (Restarts.saved is at o) = again _ n' _ _ k' boot o
restarted n n' k k' keeps boot (Restarts.lost is at o) = again _ n' _ _ k' boot o
restarted n n' k k' keeps boot (Restarts.idle at o) = again _ n' _ _ k' boot o
restarted n n' k k' keeps boot (Restarts.due at o) = again _ n' _ _ k' boot o
restarted n n' k k' keeps boot (Restarts.stopped at o) = again _ n' _ _ k' boot o

pub idle_opened : (number : ℕ) (k k' : Kept) (n : NodeState) → Opens 0 (IsOf number) k (Ok n) k'
    → n.state ≡ Running Nothing
idle_opened number k k' n o = opens_idle 0 (IsOf number) k k' n o

pub idle_restarted : (n n' : NodeState) (k k' : Kept) (keeps : Bool) (boot : ℕ)
    → Restarts n k keeps (Ok boot) n' k' → n'.state ≡ Running Nothing
idle_restarted n n' k k' keeps boot h = (restarted n n' k k' keeps boot h).1

-- ---- a restart as it is told

pub told_restart : (n n' : NodeState) (k k' : Kept) (keeps : Bool) (opened told : Result ℕ Fault)
    → IsToldOf opened told → Restarts n k keeps opened n' k' → RestartsCrew n keeps told n' k k'
told_restart n n' k k' keeps opened told (inl same) h =
    inl (subst (λ (r : Result ℕ Fault). Restarts n k keeps r n' k') (sym same) h)
told_restart n n' k k' keeps opened told (inr starved) h =
    let is = starved.2 in
    let one = subst (λ (r : Result ℕ Fault). Restarts n k keeps r n' k') is h in
    inr (
      starved.0,
      subst (λ (b : ℕ). Restarts n k keeps (Ok b) n' k')
          (restarted n n' k k' keeps starved.1 one).0 one,
    )

-- ---- the crew

pub seated_again : {K : Type 0} (node : NodeOver K) (size : ℕ) (crew : CrewOver K)
    → crew ≡ seated_of node size → crew ≡ seated_of crew.node size
seated_again {K} node size crew is =
    is ∙ ap (λ (n : NodeOver K). seated_of n size) (sym (ap (λ (c : CrewOver K). c.node) is))

-- what a law of crews says
abbrev pub OpensFirst : Type 0
OpensFirst =
    (workers : ℕ) (k : Kept)
    → IsCrew k.number workers (opened workers k)
    (record { saved = k.saved; list = set.members k.saved; due = None })
    (λ w. new_bench k.number (k.boot + 1) w workers) (λ w. length (set.members k.saved))

crew_of_kept : {K : Type 0} → OpensFirst → (number workers : ℕ) (k k' : Kept) (n : NodeOver K)
    → (state : NodeState) → n.node ≡ state → Opens 0 (IsOf number) k (Ok state) k'
    → IsCrew number workers (opened workers k) (books_of (seated_of n workers))
    (bench_at (seated_of n workers).benches) (λ w. length (seated_of n workers).list)
crew_of_kept {K} law number workers k k' n state is (Opens.opens own low) =
    subst
    (λ (m : NodeState). IsCrew number workers (opened workers k)
    (books_of (seated_of {K = K} (record { node = m; keeper = n.keeper }) workers))
    (bench_at (seated_of {K = K} (record { node = m; keeper = n.keeper }) workers).benches)
    (λ w. length (seated_of {K = K} (record { node = m; keeper = n.keeper }) workers).list))
    (sym is)
    (let it = law workers k in
    record {
      numbered = own;
      desks = it.desks;
      places = it.places;
      holds = it.holds;
      due = it.due;
      seen = it.seen;
      stands = λ w is_one. it.stands w is_one ∙ ap Some (sym (ap bench_in (it.stands w is_one)));
    })

pub opens_crew : {K : Type 0} → OpensFirst → (number workers : ℕ) (k k' : Kept) (n : NodeOver K)
    (crew : CrewOver K) → crew ≡ seated_of n workers → Opens 0 (IsOf number) k (Ok n.node) k'
    → OpensCrew number workers k crew k'
opens_crew {K} law number workers k k' n crew is o =
    subst (λ (c : CrewOver K). OpensCrew number workers k c k') (sym is)
    (record {
      opens = o;
      crew_is = crew_of_kept law number workers k k' n n.node refl o;
    })

-- ---- beside the keepers

module _ {K : Type 0} (custody : Custody K) where
  pub passes_crew : OpensFirst → (number workers : ℕ) (keeper : K) (n : NodeOver K)
      (crew : CrewOver K) → crew ≡ seated_of n workers
      → Passes custody (λ k k'. Opens 0 (IsOf number) k (Ok n.node) k') keeper n.keeper
      → Passes custody (λ k k'. OpensCrew number workers k crew k') keeper crew.node.keeper
  passes_crew law number workers keeper n crew is passes =
      subst
      (λ (key : K). Passes custody (λ k k'. OpensCrew number workers k crew k') keeper key)
      (sym (ap (λ (c : CrewOver K). c.node.keeper) is))
      (λ honest.
      let p = passes honest in (
        p.0,
        λ after may.
            let f = p.1 after may in
            (f.0, f.1, opens_crew law number workers f.0 after n crew is f.2),
      ))

  pub idle_after : (n n' : NodeOver K) (keeps : Bool) (result : Result ℕ Fault)
      → Passes custody (λ k k'. Restarts n.node k keeps result n'.node k') n.keeper n'.keeper
      → OnOk result (custody.is_honest n'.keeper → (k : Kept) → custody.may_hold n'.keeper k
      → n'.node.state ≡ Running Nothing)
  idle_after n n' keeps (Ok boot) passes = λ honest k may.
      let f = (passes honest).1 k may in
      idle_restarted n.node n'.node f.0 k keeps boot f.2
  idle_after n n' keeps (Err fault) passes = tt

  pub passes_restart : (old n n' : NodeOver K) (crew : CrewOver K) (keeps : Bool)
      (opened told : Result ℕ Fault) → n ≡ old → crew.node ≡ n' → IsToldOf opened told
      → Passes custody (λ k k'. Restarts n.node k keeps opened n'.node k') n.keeper n'.keeper
      → Passes custody (λ k k'. RestartsCrew old.node keeps told crew.node.node k k') old.keeper
      crew.node.keeper
  passes_restart old n n' crew keeps opened told same is telling passes =
      subst
      (λ (o : NodeOver K). Passes custody (λ k k'. RestartsCrew o.node keeps told crew.node.node k k')
      o.keeper crew.node.keeper) same
      (subst
      (λ (m : NodeOver K). Passes custody (λ k k'. RestartsCrew n.node keeps told m.node k k')
      n.keeper m.keeper) (sym is)
      (λ honest.
      let p = passes honest in (
        p.0,
        λ after may.
            let f = p.1 after may in (
              f.0,
              f.1,
              told_restart n.node n'.node f.0 after keeps opened told telling f.2,
            ),
      )))
