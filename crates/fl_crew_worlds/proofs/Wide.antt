-- What steps leave of a node with so many desks and benches that runs.
use Rattle.std.proofs.Common.{◌≡◌, ◌∙◌, ℕ, ◌+◌, ◌%◌, ◌<◌, ◌≤◌, List, length, Option, Some}
use Rattle.std.proofs.Common.{None, Result, Ok, refl, ap, subst, arith}
use Rattle.std.proofs.lemmas.Nat.{mod_below}
use Rattle.fl_labels.specs.SetBy.{SetBy}
use Rattle.fl_labels.specs.declared.name.Name.{Name}
use Rattle.fl_labels.specs.declared.pid.Pid.{Pid}
use Rattle.fl_ops.specs.OpOrder.{op_cmp}
use Rattle.fl_ops.specs.declared.op.Body.{Body}
use Rattle.fl_message.specs.declared.message.Data.{Data}
use Rattle.fl_jobs.specs.declared.answer.Reply.{Reply}
use Rattle.fl_jobs.specs.declared.job.Job.{Job}
use Rattle.fl_jobs.specs.declared.job.Job.TheVariants.{Proc, By, Member, Arrive}
use Rattle.fl_bench.specs.Bench.{BenchState}
use Rattle.fl_store.specs.Kept.{Kept, with_batch}
use Rattle.fl_system.specs.declared.answer.Answer.{Answer}
use Rattle.fl_system.specs.declared.answer.Fault.{Fault}
use Rattle.fl_system.specs.declared.state.Batch.{Batch}
use Rattle.fl_system.specs.declared.state.Batch.TheVariants.{Ordered, Received}
use Rattle.fl_system.specs.Arrives.{Arrives, delivered}
use Rattle.fl_system.specs.Begins.{Begins}
use Rattle.fl_system.specs.Jobs.{Jobs, procs_after, place_of}
use Rattle.fl_system.specs.Numbered.{with_item}
use Rattle.fl_system.specs.Publishes.{Publishes, told, given_to}
use Rattle.fl_system.specs.Receives.{Receives}
use Rattle.fl_system.specs.Saves.{Saves}
use Rattle.fl_system.specs.State.{NodeState, kept_of, ops_of}
use Rattle.fl_system.specs.Waiting.{IsRunning}
use Rattle.fl_system_laws.specs.laws.Numbered.{length-change, length-with}
use Rattle.fl_crew_model.specs.Woven.{placed}

-- so many desks and benches, on one of which the next process is born
pub record IsWide (size : ℕ) (n : NodeState) : Type 0 where
  pub desks : length n.views ≡ size
  pub places : length n.benches ≡ size
  pub births : n.procs < size
  pub running : IsRunning n.state

-- so it is behind a step, of the same boot
pub record Follows (size : ℕ) (n n' : NodeState) : Type 0 where
  pub wide : IsWide size n'
  pub boot : n'.boot ≡ n.boot

pub stays : {size : ℕ} {n : NodeState} → IsWide size n → Follows size n n
stays wide = record { wide = wide; boot = refl }

pub then_follows : {size : ℕ} {n mid n' : NodeState} → Follows size n mid → Follows size mid n'
    → Follows size n n'
then_follows h g = record { wide = g.wide; boot = g.boot ∙ h.boot }

-- ---- who asks for a new process is counted

pub births_wide : (count size procs : ℕ) (job : Job) → count ≡ size → procs < size
    → procs_after count procs job < size
births_wide count size procs Proc is low =
    subst (λ (c : ℕ). (procs + 1) % count < c) is
    (mod_below (procs + 1) count (omega (arith, is, low)))
births_wide count size procs (By pid act) is low = low
births_wide count size procs (Member root c) is low = low
births_wide count size procs (Arrive d) is low = low

pub placed_wide : (size : ℕ) (n : NodeState) (v : ℕ) → IsWide size n → 1 ≤ v → v ≤ size
    → IsWide size (placed n v)
placed_wide size n v wide some high = record {
  desks = wide.desks;
  places = wide.places;
  births = omega (arith, some, high);
  running = wide.running;
}

-- ---- the calls of a node

begins_wide : {size : ℕ} {n : NodeState} {body : Body} {maker : Option Pid} {desk : Option ℕ}
    {r : Result Name Fault} {n' : NodeState} → IsWide size n → Begins n body maker desk r n'
    → Follows size n n'
begins_wide wide (Begins.begins idle next) = record {
  wide = record { desks = wide.desks; places = wide.places; births = wide.births; running = tt };
  boot = refl;
}
begins_wide wide (Begins.taken why) = stays wide
begins_wide wide (Begins.spent idle last) = stays wide

worked_wide : (size : ℕ) (n : NodeState) (desk v k : ℕ) (job : Job) (left : BenchState)
    → IsWide size n
    → IsWide size (record n {
      views = with_item n.views desk v;
      procs = procs_after (length n.benches) n.procs job;
      benches = with_item n.benches k left;
    })
worked_wide size n desk v k job left wide = record {
  desks = length-with n.views desk v ∙ wide.desks;
  places = length-with n.benches k left ∙ wide.places;
  births = births_wide (length n.benches) size n.procs job wide.places wide.births;
  running = wide.running;
}

pub jobs_wide : {size : ℕ} {n : NodeState} {desk upto : ℕ} {job : Job} {r : Result Answer Fault}
    {n' : NodeState} → IsWide size n → Jobs n desk upto job r n' → Follows size n n'
jobs_wide wide (Jobs.stopped why) = stays wide
jobs_wide {size} {n} {desk} {upto} {job} wide (Jobs.no_room {v} {w} look more which) = record {
  wide = record {
    desks = length-with n.views desk w ∙ wide.desks;
    places = wide.places;
    births = births_wide (length n.benches) size n.procs job wide.places wide.births;
    running = wide.running;
  };
  boot = refl;
}
jobs_wide {size} {n} {desk} {upto} {job} wide (Jobs.refused {v} {refusal} {left} look d) = record {
  wide = worked_wide size n desk v _ job left wide;
  boot = refl;
}
jobs_wide {size} {n} {desk} {upto} {job} wide (Jobs.replied {v} {reply} {left} look d) = record {
  wide = worked_wide size n desk v _ job left wide;
  boot = refl;
}
jobs_wide {size} {n} {desk} {upto} {job} wide (Jobs.sent {v} {packet} {left} look d) = record {
  wide = worked_wide size n desk v _ job left wide;
  boot = refl;
}
jobs_wide {size} {n} {desk} {upto} {job} wide (Jobs.begun {v} {body} {pid} {left} look d begin) =
    let it = begins_wide (worked_wide size n desk v _ job left wide) begin in
    record { wide = it.wide; boot = it.boot }
jobs_wide {size} {n} {desk} {upto} {job} wide (Jobs.not_begun {v} look d begin) = record {
  wide = record {
    desks = length-with n.views desk v ∙ wide.desks;
    places = wide.places;
    births = wide.births;
    running = wide.running;
  };
  boot = refl;
}

came : (size : ℕ) (n : NodeState) (d : Data) (left : BenchState) → IsWide size n
    → Follows size n (delivered n d left)
came size n d left wide = record {
  wide = record {
    desks = wide.desks;
    places = length-with n.benches (place_of n (Arrive d)) left ∙ wide.places;
    births = wide.births;
    running = wide.running;
  };
  boot = refl;
}

pub arrives_wide : {size : ℕ} {n : NodeState} {d : Data} {r : Result Reply Fault} {n' : NodeState}
    → IsWide size n → Arrives n d r n' → Follows size n n' × (kept_of n' ≡ kept_of n)
arrives_wide wide (Arrives.stopped why) = (stays wide, refl)
arrives_wide {size} {n} {d} wide (Arrives.refused {refusal} {left} at) =
    (came size n d left wide, refl)
arrives_wide {size} {n} {d} wide (Arrives.arrives {reply} {left} at) =
    (came size n d left wide, refl)

-- it is saved: what is kept goes with what is saved
pub record Saved (size : ℕ) (n : NodeState) (k : Kept) (n' : NodeState) (k' : Kept) : Type 0 where
  pub on : Follows size n n'
  pub kept : k ≡ kept_of n → k' ≡ kept_of n'

saves_by : {size : ℕ} {n : NodeState} {k : Kept} {r : Result (Unit {0}) Fault} {n' : NodeState}
    {k' : Kept} → IsWide size n → Saves n k r n' k' → r ≡ Ok tt → Saved size n k n' k'
saves_by wide (Saves.saved {batch} is) fine = record {
  on = record {
    wide = record {
      desks = wide.desks;
      places = wide.places;
      births = wide.births;
      running = tt;
    };
    boot = refl;
  };
  kept = λ same. ap (λ (x : Kept). with_batch x (ops_of batch)) same;
}
saves_by wide (Saves.no_room is) fine = absurd (cc)
saves_by wide (Saves.failed is left) fine = absurd (cc)
saves_by wide (Saves.none why) fine = absurd (cc)

pub saves_wide : {size : ℕ} {n : NodeState} {k : Kept} {n' : NodeState} {k' : Kept}
    → IsWide size n → Saves n k (Ok tt) n' k' → Saved size n k n' k'
saves_wide wide h = saves_by wide h refl

-- the desk of an order is told, and its maker has what it gives
told_length : (batch : Batch) (count : ℕ) (views : List ℕ)
    → length (told batch count views) ≡ length views
told_length (Ordered op maker None) count views = refl
told_length (Ordered op maker (Some desk)) count views = length-with views desk count
told_length (Received ops) count views = refl

given_length : (batch : Batch) (benches : List BenchState)
    → length (given_to batch benches) ≡ length benches
given_length (Ordered op None desk) benches = refl
given_length (Ordered op (Some pid) desk) benches = length-change _ benches _
given_length (Received ops) benches = refl

pub publishes_wide : {size : ℕ} {n : NodeState} {r : Result ℕ Fault} {n' : NodeState}
    → IsWide size n → Publishes n r n' → Follows size n n' × (kept_of n' ≡ kept_of n)
publishes_wide {size} {n} wide (Publishes.published {batch} is) = (
  record {
    wide = record {
      desks = told_length batch _ n.views ∙ wide.desks;
      places = given_length batch n.benches ∙ wide.places;
      births = wide.births;
      running = tt;
    };
    boot = refl;
  },
  refl,
)
publishes_wide wide (Publishes.no_room is) = (stays wide, refl)
publishes_wide wide (Publishes.none why) = (stays wide, refl)

-- operations come, and what is on its way may be another
pub receives_wide : {size : ℕ} {n : NodeState} {ops : SetBy op_cmp} {r : Result ℕ Fault}
    {n' : NodeState} → IsWide size n → Receives n ops r n'
    → Follows size n n' × (kept_of n' ≡ kept_of n)
receives_wide wide (Receives.stopped why) = (stays wide, refl)
receives_wide wide (Receives.no_room on some) = (stays wide, refl)
receives_wide wide (Receives.impostor on first bad) = (stays wide, refl)
receives_wide wide (Receives.clash on first bad) = (stays wide, refl)
receives_wide wide (Receives.nothing_new on may all) = (stays wide, refl)
receives_wide wide (Receives.taken op on may there new why) = (stays wide, refl)
receives_wide wide (Receives.receives idle may lacking some) = (
  record {
    wide = record {
      desks = wide.desks;
      places = wide.places;
      births = wide.births;
      running = tt;
    };
    boot = refl;
  },
  refl,
)
