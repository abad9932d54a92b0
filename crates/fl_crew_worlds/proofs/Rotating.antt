-- A request for a new process that is refused moves on where the next one is born, and nothing
-- else. So a few of them lead to the node from which a worker's own is born.
use Rattle.std.proofs.Common.{◌≡◌, ◌∙◌, ℕ, zero, suc, ◌+◌, ◌-◌, ◌%◌, ◌<◌, ◌≤◌, max, min, ◌⊎◌}
use Rattle.std.proofs.Common.{inl, inr}
use Rattle.std.proofs.Common.{Bool, true, false, cond, List, [], ◌∷◌, ◌++◌, length, Some}
use Rattle.std.proofs.Common.{None, Err, refl, sym, ap, subst, arith, mod-eq_of_lt}
use Rattle.std.proofs.lemmas.Bool.{cases_lt}
use Rattle.std.specs.Prelude.{nat_lt}
use native.Mathlib.Nat.{mod_self}
use Rattle.fl_ops.specs.Registry.{Registry}
use Rattle.fl_jobs.specs.declared.answer.Refusal.{Refusal}
use Rattle.fl_jobs.specs.declared.answer.Refusal.TheVariants.{Memory, NamesSpent}
use Rattle.fl_jobs.specs.declared.job.Job.TheVariants.{Proc}
use Rattle.fl_bench.specs.Bench.{BenchState}
use Rattle.fl_bench.specs.Jobs.{Does}
use Rattle.fl_store.specs.Kept.{Kept}
use Rattle.fl_system.specs.declared.answer.Fault.TheVariants as faults
use Rattle.fl_system.specs.declared.event.Event.TheVariants as events
use Rattle.fl_system.specs.declared.reply.Reply.TheVariants as replies
use Rattle.fl_system.specs.Jobs.{Jobs, Looks, Decides, worked}
use Rattle.fl_system.specs.Numbered.{item_at, with_item}
use Rattle.fl_system.specs.Runs.{Moment, Happens, end}
use Rattle.fl_system.specs.State.{NodeState, first_ops}
use Rattle.fl_system.specs.Waiting.{IsRunning}
use Rattle.fl_system.specs.World.{World, went}
use Rattle.fl_system.specs.WorldJobs.{JobAt}
use Rattle.fl_system.specs.WorldSteps.{IsAt, Step}
use Rattle.fl_system_laws.specs.laws.Numbered.{item_within}
use Rattle.fl_crew_model.specs.Woven.{placed}
use Rattle.fl_crew_worlds.proofs.Moments.{Led, none_led, one_led, then_led}

-- with so many births counted
abbrev pub with_procs : NodeState → ℕ → NodeState
with_procs n p = record n { procs = p }

-- an item that is put where it stands
same_items : {X : Type 0} (xs : List X) (k : ℕ) (x : X) → item_at xs k ≡ Some x
    → with_item xs k x ≡ xs
same_items [] k x h = refl
same_items (y ∷ xs) zero x h = refl
same_items (y ∷ xs) (suc zero) x h = cc
same_items (y ∷ xs) (suc (suc k)) x h = ap (λ l. y ∷ l) (same_items xs (suc k) x h)

-- ---- a birth that is refused

record Refuses (V : Registry) (b : BenchState) : Type 0 where
  pub refusal : Refusal
  pub does : Does V b Proc (Err refusal) b

-- there may be no room for it, where a serial is left
refuses : (V : Registry) (b : BenchState) → Refuses V b
refuses V b = by (nat_lt 4294967295 b.next) refl
  where
    by : (spent : Bool) → nat_lt 4294967295 b.next ≡ spent → Refuses V b
    by true is = record {
      refusal = NamesSpent;
      does = Does.failed (ap (λ (t : Bool). cond t (Some NamesSpent) None) (sym is));
    }
    by false is = record {
      refusal = Memory;
      does = Does.no_room (ap (λ (t : Bool). cond t (Some NamesSpent) None) (sym is), tt);
    }

same_node : (n : NodeState) (seen : ℕ) (bench : BenchState) → item_at n.views 1 ≡ Some seen
    → item_at n.benches (suc n.procs) ≡ Some bench
    → worked n 1 seen Proc bench ≡ with_procs n ((n.procs + 1) % length n.benches)
same_node n seen bench has_seen stands =
    ap
    (λ (views : List ℕ). record n {
      views = views;
      procs = (n.procs + 1) % length n.benches;
      benches = with_item n.benches (suc n.procs) bench;
    }) (same_items n.views 1 seen has_seen)
    ∙ ap
    (λ (benches : List BenchState). record n {
      procs = (n.procs + 1) % length n.benches;
      benches = benches;
    }) (same_items n.benches (suc n.procs) bench stands)

born_nowhere : (n : NodeState) (seen : ℕ) (bench : BenchState) → IsRunning n.state
    → item_at n.views 1 ≡ Some seen → item_at n.benches (suc n.procs) ≡ Some bench
    → (refusal : Refusal)
    × Jobs n 1 0 Proc (Err (faults.Refused refusal))
    (with_procs n ((n.procs + 1) % length n.benches))
born_nowhere n seen bench running has_seen stands =
    let it = refuses (first_ops seen n.published) bench in
    let look : Looks n 1 0 seen =
    record {
      running = running;
      seen = seen;
      has_seen = has_seen;
      sees = (let is : seen ≡ max seen (min 0 (length n.published)) = omega arith in is);
    } in
    let decides : Decides n seen Proc (Err it.refusal) bench =
    record { bench = bench; stands = stands; does = it.does } in (
      it.refusal,
      subst (λ (m : NodeState). Jobs n 1 0 Proc (Err (faults.Refused it.refusal)) m)
          (same_node n seen bench has_seen stands) (Jobs.refused look decides),
    )

-- ---- some of them

-- the moments lead to a node that is so
pub record Rotated (number : ℕ) (w : World) (n : NodeState) (k : Kept) : Type 0 where
  pub moments : List Moment
  pub led : Led number w moments [] n k

module _ (number : ℕ) (k : Kept) where
  one_birth : (w : World) (n : NodeState) → IsAt w number (record { node = n; kept = k })
      → IsRunning n.state → 0 < length n.views → n.procs < length n.benches
      → Rotated number w (with_procs n ((n.procs + 1) % length n.benches)) k
  one_birth w n at running desks low =
      let seen = item_within n.views 1 (omega arith) (omega (arith, desks)) in
      let bench = item_within n.benches (suc n.procs) (omega arith) (omega (arith, low)) in
      let job = born_nowhere n seen.0 bench.0 running seen.1 bench.1 in
      let m = with_procs n ((n.procs + 1) % length n.benches) in
      record {
        moments =
            record {
              move = Happens (events.Job number 1 0 Proc);
              reply = replies.Refused (faults.Refused job.0);
              after = went w number m k [] [];
            } ∷ [];
        led =
            one_led number w (events.Job number 1 0 Proc)
            (replies.Refused (faults.Refused job.0)) m k [] []
            (Step.job at (λ h. h) (JobAt.refused job.1));
      }

  climb : (steps : ℕ) (w : World) (n : NodeState)
      → IsAt w number (record { node = n; kept = k }) → IsRunning n.state → 0 < length n.views
      → (q : ℕ) → n.procs + steps ≡ q → q < length n.benches
      → Rotated number w (with_procs n q) k
  climb zero w n at running desks q is high =
      let same : n.procs ≡ q = omega (arith, is) in
      record {
        moments = [];
        led =
            none_led number w (with_procs n q) k
            (subst (λ (p : ℕ). IsAt w number (record { node = with_procs n p; kept = k })) same
            at);
      }
  climb (suc steps) w n at running desks q is high =
      let low : n.procs + 1 < length n.benches = omega (arith, is, high) in
      let next : (n.procs + 1) % length n.benches ≡ n.procs + 1 = mod-eq_of_lt low in
      let first =
      subst (λ (p : ℕ). Rotated number w (with_procs n p) k) next
      (one_birth w n at running desks (omega (arith, low))) in
      let rest =
      climb steps (end w first.moments) (with_procs n (n.procs + 1)) first.led.there running desks
      q (omega (arith, is)) high in
      record {
        moments = first.moments ++ rest.moments;
        led = then_led {ms = first.moments} {later = rest.moments} first.led rest.led;
      }

  -- past the last bench, and on from the first
  around : (w : World) (n : NodeState) → IsAt w number (record { node = n; kept = k })
      → IsRunning n.state → 0 < length n.views → (last : ℕ) → last + 1 ≡ length n.benches
      → n.procs ≤ last → (q : ℕ) → q < length n.benches → Rotated number w (with_procs n q) k
  around w n at running desks last ends low q high =
      let first =
      climb (last - n.procs) w n at running desks last (omega (arith, low)) (omega (arith, ends)) in
      let next : (last + 1) % length n.benches ≡ 0 =
      ap (λ c. c % length n.benches) ends ∙ mod_self (length n.benches) in
      let birth =
      subst (λ (p : ℕ). Rotated number (end w first.moments) (with_procs n p) k) next
      (one_birth (end w first.moments) (with_procs n last) first.led.there running desks
      (omega (arith, ends))) in
      let rest =
      climb q (end (end w first.moments) birth.moments) (with_procs n 0) birth.led.there running
      desks q (omega arith) high in
      record {
        moments = first.moments ++ (birth.moments ++ rest.moments);
        led =
            then_led {ms = first.moments} {later = birth.moments ++ rest.moments} first.led
            (then_led {ms = birth.moments} {later = rest.moments} birth.led rest.led);
      }

  rotate : (w : World) (n : NodeState) → IsAt w number (record { node = n; kept = k })
      → IsRunning n.state → 0 < length n.views → n.procs < length n.benches → (q : ℕ)
      → q < length n.benches → Rotated number w (with_procs n q) k
  rotate w n at running desks low q high = by (cases_lt q n.procs)
    where
      by : (q < n.procs) ⊎ (n.procs ≤ q) → Rotated number w (with_procs n q) k
      by (inl down) =
          around w n at running desks (length n.benches - 1) (omega (arith, low))
          (omega (arith, low)) q high
      by (inr up) = climb (q - n.procs) w n at running desks q (omega (arith, up)) high

  -- to the node whose next process is born on the bench of this worker
  pub to_place : (w : World) (n : NodeState) → IsAt w number (record { node = n; kept = k })
      → IsRunning n.state → 0 < length n.views → n.procs < length n.benches → (v : ℕ) → 1 ≤ v
      → v ≤ length n.benches → Rotated number w (placed n v) k
  to_place w n at running desks low v some high =
      rotate w n at running desks low (v - 1) (omega (arith, some, high))
