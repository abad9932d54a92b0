-- What each call of a node does to its benches.
use Rattle.std.proofs.Common.{◌≡◌, ◌⊎◌, ◌∙◌, ◌+◌, ◌<◌, ◌%◌, inl, inr, ℕ, zero, suc, Bool, List, [], length, Result, Some, None, refl, sym, ap, subst, arith}
use Rattle.std.specs.declared.option.Option.{Option}
use Rattle.fl_labels.specs.declared.cap.Cap.{Cap}
use Rattle.fl_labels.specs.declared.pid.Pid.{Pid}
use Rattle.fl_labels.specs.SetBy.{SetBy}
use Rattle.fl_ops.specs.OpOrder.{op_cmp}
use Rattle.fl_ops.specs.declared.op.Op.{Op}
use Rattle.fl_message.specs.declared.message.Data.{Data}
use Rattle.fl_jobs.specs.declared.job.Job.{Job}
use Rattle.fl_jobs.specs.declared.job.Job.TheVariants.{Arrive}
use Rattle.fl_jobs.specs.declared.answer.Reply.{Reply}
use Rattle.fl_jobs.specs.declared.answer.Refusal.{Refusal}
use Rattle.fl_jobs.specs.declared.answer.Outcome.{Outcome}
use Rattle.fl_bench.specs.Bench.{BenchState, new_bench}
use Rattle.fl_bench.specs.Births.{GoesOn}
use Rattle.fl_bench.specs.Gifts.{given, settles}
use Rattle.fl_bench.specs.Jobs.{Does}
use Rattle.fl_bench.specs.Orderly.{IsGiven, IsOrderly}
use Rattle.fl_bench.specs.laws.Orderly.{opened_orderly, settles_orderly}
use Rattle.fl_bench_laws.specs.laws.Going.{does_going, goes_same, settles_going}
use Rattle.fl_bench_laws.specs.laws.Orderly.{does_orderly}
use Rattle.fl_bench.specs.laws.Puts.{same_found}
use Rattle.fl_store.specs.Kept.{Kept}
use Rattle.fl_system.specs.declared.answer.Answer.{Answer}
use Rattle.fl_system.specs.declared.answer.Fault.{Fault}
use Rattle.fl_system.specs.declared.state.Batch.{Batch}
use Rattle.fl_system.specs.declared.state.Batch.TheVariants.{Ordered, Received}
use Rattle.fl_system.specs.Numbered.{item_at, change_item}
use Rattle.fl_system.specs.State.{NodeState}
use Rattle.fl_system.specs.Begins.{Begins}
use Rattle.fl_system.specs.Jobs.{Jobs, place_of, bench_of}
use Rattle.fl_system.specs.Receives.{Receives}
use Rattle.fl_system.specs.Arrives.{Arrives}
use Rattle.fl_system.specs.Saves.{Saves}
use Rattle.fl_system.specs.Publishes.{Publishes, Cancels, given_to, released}
use Rattle.fl_system.specs.Openings.{Opens, OpensAgain, Restarts, opened}
use Rattle.fl_system.specs.World.{World, KeptNode}
use Rattle.fl_system_laws.specs.Goes.{Calls}
use Rattle.fl_system_laws.specs.laws.Numbered.{length-change, length-items, changed_at, others_stay, WasAt, was_at, made_at}
use Rattle.fl_history_laws.specs.Seats.{Seats, seats, IsPlaced, IsTidy, WasGiven, earlier, now}

-- a bench gives on, and stays orderly
pub record Turns (b after : BenchState) : Type 0 where
  pub on : GoesOn b after
  pub orderly : IsOrderly b → IsOrderly after

turns_same : (b : BenchState) → Turns b b
turns_same b = record { on = goes_same b; orderly = λ h. h }

-- each bench gives on at its place, or the node is opened again, with none of its processes
pub data SeatsTurn (s s' : Seats) : Type 0 where
  works : s'.number ≡ s.number → s'.boot ≡ s.boot → length s'.benches ≡ length s.benches
      → ((k : ℕ) (b : BenchState) → item_at s.benches k ≡ Some b
      → (after : BenchState) × (item_at s'.benches k ≡ Some after) × Turns b after)
      → ((k : ℕ) (after : BenchState) → item_at s'.benches k ≡ Some after
      → (b : BenchState) × (item_at s.benches k ≡ Some b) × Turns b after)
      → SeatsTurn s s'
  opens : s'.number ≡ s.number → s.boot < s'.boot → IsTidy s' → SeatsTurn s s'

pub rests : (s : Seats) → SeatsTurn s s
rests s = works refl refl refl (λ k b e. (b, e, turns_same b)) (λ k b e. (b, e, turns_same b))

pub same_place : (j k : ℕ) → (j ≡ k) ⊎ (¬ (j ≡ k))
same_place zero zero = inl refl
same_place zero (suc k) = inr (λ e. absurd (omega (arith, e)))
same_place (suc j) zero = inr (λ e. absurd (omega (arith, e)))
same_place (suc j) (suc k) = elim (same_place j k) [
  | inl e ↦ inl (ap suc e)
  | inr other ↦ inr (λ e. other (omega (arith, e)))
]

-- one bench changes
module _ (s : Seats) (k : ℕ) (change : BenchState → BenchState)
    (turn : (b : BenchState) → item_at s.benches k ≡ Some b → Turns b (change b)) where
  ahead : (j : ℕ) (b : BenchState) → item_at s.benches j ≡ Some b
      → (after : BenchState) × (item_at (change_item change s.benches k) j ≡ Some after) × Turns b after
  ahead j b e = by_place (same_place j k)
    where
      by_place : (j ≡ k) ⊎ (¬ (j ≡ k))
          → (after : BenchState) × (item_at (change_item change s.benches k) j ≡ Some after) × Turns b after
      by_place (inl is) =
          let at_k : item_at s.benches k ≡ Some b = subst (λ i. item_at s.benches i ≡ Some b) is e in (
            change b,
            subst (λ i. item_at (change_item change s.benches k) i ≡ Some (change b)) (sym is)
                (changed_at change s.benches k b at_k),
            turn b at_k,
          )
      by_place (inr other) = (b, others_stay change s.benches k j other ∙ e, turns_same b)

  back : (j : ℕ) (after : BenchState) → item_at (change_item change s.benches k) j ≡ Some after
      → (b : BenchState) × (item_at s.benches j ≡ Some b) × Turns b after
  back j after e = by_was (was_at change s.benches k j after e)
    where
      by_was : WasAt change s.benches k j after
          → (b : BenchState) × (item_at s.benches j ≡ Some b) × Turns b after
      by_was was = elim was.became [
        | inl same ↦ (was.before, was.there, subst (Turns was.before) (sym same) (turns_same was.before))
        | inr (at, is) ↦ (
          was.before,
          was.there,
          subst (Turns was.before) (sym is)
              (turn was.before (subst (λ i. item_at s.benches i ≡ Some was.before) at was.there)),
        )
      ]

  pub one_turns : SeatsTurn s (record s { benches = change_item change s.benches k })
  one_turns = works refl refl (length-change change s.benches k) ahead back

-- a job at a bench
pub does_turns : {V : Op → Type 0} {b after : BenchState} {job : Job} {r : Result Outcome Refusal}
    → Does V b job r after
    → Turns b after
does_turns {V} {b} d = record { on = does_going V b d; orderly = λ h. does_orderly h d }

worked_turns : (s : Seats) (k : ℕ) (bench left : BenchState) → item_at s.benches k ≡ Some bench → Turns bench left
    → SeatsTurn s (record s { benches = change_item (λ _. left) s.benches k })
worked_turns s k bench left stands turn =
    one_turns s k (λ _. left)
    (λ b e. subst (λ x. Turns x left) (same_found stands e) turn)

settles_turns : (b : BenchState) (pid : Pid) (caps : List Cap) → Turns b (settles b pid caps)
settles_turns b pid caps =
    record { on = settles_going (λ op. ⊥) b pid caps; orderly = λ h. settles_orderly h pid caps }

jobs_turn : {n : NodeState} {desk upto : ℕ} {job : Job} {result : Result Answer Fault} {n' : NodeState}
    → Jobs n desk upto job result n' → SeatsTurn (seats n) (seats n')
jobs_turn {n} (Jobs.stopped why) = rests (seats n)
jobs_turn {n} (Jobs.no_room look less left) = rests (seats n)
jobs_turn {n} {job = job} (Jobs.refused {left = left} look d) =
    worked_turns (seats n) (place_of n job) d.bench left d.stands (does_turns d.does)
jobs_turn {n} {job = job} (Jobs.replied {left = left} look d) =
    worked_turns (seats n) (place_of n job) d.bench left d.stands (does_turns d.does)
jobs_turn {n} {job = job} (Jobs.sent {left = left} look d) =
    worked_turns (seats n) (place_of n job) d.bench left d.stands (does_turns d.does)
jobs_turn {n} {job = job} (Jobs.begun {left = left} look d (Begins.begins idle next)) =
    worked_turns (seats n) (place_of n job) d.bench left d.stands (does_turns d.does)
jobs_turn {n} (Jobs.not_begun look d begun) = rests (seats n)

arrives_turn : {n : NodeState} {d : Data} {result : Result Reply Fault} {n' : NodeState} → Arrives n d result n'
    → SeatsTurn (seats n) (seats n')
arrives_turn {n} (Arrives.stopped why) = rests (seats n)
arrives_turn {n} {d} (Arrives.refused {left = left} at) =
    worked_turns (seats n) (place_of n (Arrive d)) at.bench left at.stands (does_turns at.does)
arrives_turn {n} {d} (Arrives.arrives {left = left} at) =
    worked_turns (seats n) (place_of n (Arrive d)) at.bench left at.stands (does_turns at.does)

receives_turn : {n : NodeState} {ops : SetBy op_cmp} {result : Result ℕ Fault} {n' : NodeState}
    → Receives n ops result n' → SeatsTurn (seats n) (seats n')
receives_turn {n} (Receives.stopped why) = rests (seats n)
receives_turn {n} (Receives.no_room is some) = rests (seats n)
receives_turn {n} (Receives.impostor is least fault) = rests (seats n)
receives_turn {n} (Receives.clash is least fault) = rests (seats n)
receives_turn {n} (Receives.nothing_new is can all) = rests (seats n)
receives_turn {n} (Receives.taken op is can there lacks why) = rests (seats n)
receives_turn {n} (Receives.receives is can lacking some) = rests (seats n)

saves_turn : {n : NodeState} {k : Kept} {result : Result (Unit {0}) Fault} {n' : NodeState} {k' : Kept}
    → Saves n k result n' k' → SeatsTurn (seats n) (seats n')
saves_turn {n} (Saves.saved is) = rests (seats n)
saves_turn {n} (Saves.no_room is) = rests (seats n)
saves_turn {n} (Saves.failed is left) = rests (seats n)
saves_turn {n} (Saves.none why) = rests (seats n)

given_turn : (s : Seats) (batch : Batch) → SeatsTurn s (record s { benches = given_to batch s.benches })
given_turn s (Ordered op None desk) = rests s
given_turn s (Ordered op (Some pid) desk) =
    one_turns s (bench_of (length s.benches) pid.serial) (λ b. settles b pid (given op))
    (λ b e. settles_turns b pid (given op))
given_turn s (Received ops) = rests s

released_turn : (s : Seats) (batch : Batch) → SeatsTurn s (record s { benches = released batch s.benches })
released_turn s (Ordered op None desk) = rests s
released_turn s (Ordered op (Some pid) desk) =
    one_turns s (bench_of (length s.benches) pid.serial) (λ b. settles b pid []) (λ b e. settles_turns b pid [])
released_turn s (Received ops) = rests s

publishes_turn : {n : NodeState} {result : Result ℕ Fault} {n' : NodeState} → Publishes n result n'
    → SeatsTurn (seats n) (seats n')
publishes_turn {n} (Publishes.published {batch = batch} is) = given_turn (seats n) batch
publishes_turn {n} (Publishes.no_room is) = rests (seats n)
publishes_turn {n} (Publishes.none why) = rests (seats n)

cancels_turn : {n : NodeState} {result : Result (Unit {0}) Fault} {n' : NodeState} → Cancels n result n'
    → SeatsTurn (seats n) (seats n')
cancels_turn {n} (Cancels.given_up {batch = batch} is) = released_turn (seats n) batch
cancels_turn {n} (Cancels.none why) = rests (seats n)

-- ---- openings

pub opened_tidy : (desks : ℕ) (k : Kept) → IsTidy (seats (opened desks k))
opened_tidy desks k = record { each = λ j b e. at_place j b e }
  where
    at_place : (j : ℕ) (b : BenchState) → item_at (opened desks k).benches j ≡ Some b
        → IsPlaced (seats (opened desks k)) j b
    at_place j b e =
        let m = made_at desks (λ index. new_bench k.number (k.boot + 1) index desks) j b e in
        let count = length-items desks (λ index. new_bench k.number (k.boot + 1) index desks) in
        record {
          some = m.some;
          within = omega (arith, m.within, count);
          node_is = ap (λ (x : BenchState). x.node) m.is;
          boot_is = ap (λ (x : BenchState). x.boot) m.is;
          stride_is = ap (λ (x : BenchState). x.stride) m.is ∙ sym count;
          residue_is = ap (λ (x : BenchState). x.next % length (opened desks k).benches) m.is;
          orderly = subst IsOrderly (sym m.is)
              (opened_orderly k.number (k.boot + 1) j desks m.some (omega (arith, m.some, m.within)));
        }

again_turn : {n : NodeState} {doubt : Option Batch} {k : Kept} {result : Result ℕ Fault} {n' : NodeState} {k' : Kept}
    → OpensAgain n doubt k result n' k' → SeatsTurn (seats n) (seats n')
again_turn {n} {k = k} (OpensAgain.opens (Opens.opens own left)) =
    opens own.number (omega (arith, own.boot)) (opened_tidy (length n.views) k)
again_turn {n} (OpensAgain.stays h) = rests (seats n)

restarts_turn : {n : NodeState} {k : Kept} {keeps : Bool} {result : Result ℕ Fault} {n' : NodeState} {k' : Kept}
    → Restarts n k keeps result n' k' → SeatsTurn (seats n) (seats n')
restarts_turn (Restarts.not_saved kept is s) = saves_turn s
restarts_turn (Restarts.saved kept is h) = again_turn h
restarts_turn (Restarts.lost lost is h) = again_turn h
restarts_turn (Restarts.idle is h) = again_turn h
restarts_turn (Restarts.due is h) = again_turn h
restarts_turn (Restarts.stopped is h) = again_turn h

pub calls_turn : {w : World} {s : KeptNode} {n : NodeState} {k : Kept} → Calls w s n k
    → SeatsTurn (seats s.node) (seats n)
calls_turn (Calls.jobs does) = jobs_turn does
calls_turn {s = s} (Calls.looks seen look is) = rests (seats s.node)
calls_turn (Calls.receives sent there does) = receives_turn does
calls_turn (Calls.arrives does) = arrives_turn does
calls_turn (Calls.saves does) = saves_turn does
calls_turn (Calls.publishes does) = publishes_turn does
calls_turn (Calls.cancels does) = cancels_turn does
calls_turn (Calls.restarts does) = restarts_turn does
calls_turn (Calls.reopens is does) = again_turn does

-- ---- what stays so

pub turn_tidy : {s s' : Seats} → IsTidy s → SeatsTurn s s' → IsTidy s'
turn_tidy {s} {s'} h (works number boot count ahead back) =
    record { each = λ k after e. let was = back k after e in placed k (was.0) after (h.each k (was.0) was.1) was.2 }
  where
    placed : (k : ℕ) (b after : BenchState) → IsPlaced s k b → Turns b after → IsPlaced s' k after
    placed k b after p t =
        record {
          some = p.some;
          within = omega (arith, p.within, count);
          node_is = t.on.node_is ∙ p.node_is ∙ sym number;
          boot_is = t.on.boot_is ∙ p.boot_is ∙ sym boot;
          stride_is = t.on.stride_is ∙ p.stride_is ∙ sym count;
          residue_is = residues k b after p t;
          orderly = t.orderly p.orderly;
        }
      where
        residues : (k : ℕ) (b after : BenchState) → IsPlaced s k b → Turns b after
            → after.next % length s'.benches ≡ k % length s'.benches
        residues k b after p t =
            ap (λ c. after.next % c) (count ∙ sym p.stride_is ∙ sym t.on.stride_is) ∙ t.on.residue_is
            ∙ ap (λ c. b.next % c) p.stride_is ∙ p.residue_is ∙ ap (λ c. k % c) (sym count)
turn_tidy h (opens number later tidy) = tidy

given_on : {b after : BenchState} {pid : Pid} → Turns b after → IsGiven b pid → IsGiven after pid
given_on {b} {after} {pid} t g =
    record {
      own = record {
        node_is = g.own.node_is ∙ sym t.on.node_is;
        boot_is = g.own.boot_is ∙ sym t.on.boot_is;
        residue_is = ap (λ c. pid.serial % c) t.on.stride_is ∙ g.own.residue_is ∙ sym t.on.residue_is;
      };
      below = omega (arith, g.below, t.on.forward);
    }

pub turn_given : {s s' : Seats} {pid : Pid} → IsTidy s → SeatsTurn s s' → WasGiven s pid → WasGiven s' pid
turn_given h (works number boot count ahead back) (earlier below) = earlier (omega (arith, below, boot))
turn_given h (works number boot count ahead back) (now k b e g) =
    let next = ahead k b e in now k (next.0) next.1 (given_on next.2 g)
turn_given h (opens number later tidy) (earlier below) = earlier (omega (arith, below, later))
turn_given h (opens number later tidy) (now k b e g) =
    let boot = (h.each k b e).boot_is in
    let its = g.own.boot_is in
    earlier (omega (arith, boot, its, later))
