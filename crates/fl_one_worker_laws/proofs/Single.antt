-- What steps leave of a node with one desk and one bench.
use Rattle.std.proofs.Common.{◌≡◌, ℕ, zero, suc, ◌+◌, ◌≤◌, ◌%◌, List, [], ◌∷◌}
use Rattle.std.proofs.Common.{length, Option, Some, None, Result, Ok, refl, sym, ap, ◌∙◌}
use Rattle.std.proofs.Common.{arith, length-append}
use Rattle.fl_labels.specs.SetBy.{SetBy}
use Rattle.fl_labels.specs.declared.name.Name.{Name}
use Rattle.fl_labels.specs.declared.pid.Pid.{Pid}
use Rattle.fl_ops.specs.OpOrder.{op_cmp}
use Rattle.fl_ops.specs.declared.op.Body.{Body}
use Rattle.fl_message.specs.declared.message.Data.{Data}
use Rattle.fl_jobs.specs.declared.answer.Reply.{Reply}
use Rattle.fl_jobs.specs.declared.job.Job.{Job}
use Rattle.fl_jobs.specs.declared.job.Job.TheVariants.{Proc, By, Member, Arrive}
use Rattle.fl_bench.specs.Bench.{BenchState}
use Rattle.fl_store.specs.Kept.{Kept, with_batch}
use Rattle.fl_system.specs.declared.answer.Answer.{Answer}
use Rattle.fl_system.specs.declared.answer.Fault.{Fault}
use Rattle.fl_system.specs.declared.state.Batch.{Batch}
use Rattle.fl_system.specs.declared.state.Batch.TheVariants.{Ordered, Received}
use Rattle.fl_system.specs.Numbered.{item_at, with_item}
use Rattle.fl_system.specs.State.{NodeState, kept_of, ops_of}
use Rattle.fl_system.specs.Arrives.{Arrives, delivered}
use Rattle.fl_system.specs.Begins.{Begins}
use Rattle.fl_system.specs.Jobs.{Jobs, Looks, procs_after, place_of}
use Rattle.fl_system.specs.Receives.{Receives}
use Rattle.fl_system.specs.Saves.{Saves}
use Rattle.fl_system.specs.Publishes.{Publishes, told, given_to}
use Rattle.fl_system_laws.specs.laws.Numbered.{length-change, length-with}
use Rattle.fl_crew_model.specs.Woven.{placed}

-- one desk and one bench, on which the next process is born
pub record IsSingle (n : NodeState) : Type 0 where
  pub desks : length n.views ≡ 1
  pub places : length n.benches ≡ 1
  pub births : n.procs ≡ 0

-- so it is behind a step, of the same boot, and what is published is no less
pub record Follows (n n' : NodeState) : Type 0 where
  pub single : IsSingle n'
  pub boot : n'.boot ≡ n.boot
  pub longer : length n.published ≤ length n'.published

pub stays : {n : NodeState} → IsSingle n → Follows n n
stays one = record { single = one; boot = refl; longer = omega arith }

pub then_follows : {n mid n' : NodeState} → Follows n mid → Follows mid n' → Follows n n'
then_follows h g = record {
  single = g.single;
  boot = g.boot ∙ h.boot;
  longer = (let a = h.longer in let b = g.longer in omega arith);
}

-- ---- who asks for a new process is counted, of one bench

pub births_on : (count procs : ℕ) (job : Job) → count ≡ 1 → procs ≡ 0
    → procs_after count procs job ≡ 0
births_on count procs Proc one none =
    ap (λ c. (procs + 1) % c) one ∙ ap (λ p. (p + 1) % 1) none
births_on count procs (By pid act) one none = none
births_on count procs (Member root c) one none = none
births_on count procs (Arrive d) one none = none

-- ---- the calls of a node

begins_on : {n : NodeState} {body : Body} {maker : Option Pid} {desk : Option ℕ}
    {r : Result Name Fault} {n' : NodeState} → IsSingle n → Begins n body maker desk r n'
    → Follows n n'
begins_on one (Begins.begins idle next) = record {
  single = record { desks = one.desks; places = one.places; births = one.births };
  boot = refl;
  longer = omega arith;
}
begins_on one (Begins.taken why) = stays one
begins_on one (Begins.spent idle last) = stays one

-- the desk has looked
looked : (n : NodeState) (desk v : ℕ) → IsSingle n → length (with_item n.views desk v) ≡ 1
looked n desk v one = length-with n.views desk v ∙ one.desks

worked_on : (n : NodeState) (desk v k : ℕ) (job : Job) (left : BenchState) → IsSingle n
    → IsSingle (record n {
      views = with_item n.views desk v;
      procs = procs_after (length n.benches) n.procs job;
      benches = with_item n.benches k left;
    })
worked_on n desk v k job left one = record {
  desks = looked n desk v one;
  places = length-with n.benches k left ∙ one.places;
  births = births_on (length n.benches) n.procs job one.places one.births;
}

pub jobs_on : {n : NodeState} {desk upto : ℕ} {job : Job} {r : Result Answer Fault}
    {n' : NodeState} → IsSingle n → Jobs n desk upto job r n' → Follows n n'
jobs_on one (Jobs.stopped why) = stays one
jobs_on {n} {desk} {upto} {job} one (Jobs.no_room {v} {w} look more which) = record {
  single = record {
    desks = looked n desk w one;
    places = one.places;
    births = births_on (length n.benches) n.procs job one.places one.births;
  };
  boot = refl;
  longer = omega arith;
}
jobs_on {n} {desk} {upto} {job} one (Jobs.refused {v} {refusal} {left} look d) = record {
  single = worked_on n desk v _ job left one;
  boot = refl;
  longer = omega arith;
}
jobs_on {n} {desk} {upto} {job} one (Jobs.replied {v} {reply} {left} look d) = record {
  single = worked_on n desk v _ job left one;
  boot = refl;
  longer = omega arith;
}
jobs_on {n} {desk} {upto} {job} one (Jobs.sent {v} {packet} {left} look d) = record {
  single = worked_on n desk v _ job left one;
  boot = refl;
  longer = omega arith;
}
jobs_on {n} {desk} {upto} {job} one (Jobs.begun {v} {body} {pid} {left} look d begin) =
    let it = begins_on (worked_on n desk v _ job left one) begin in
    record { single = it.single; boot = it.boot; longer = it.longer }
jobs_on {n} {desk} {upto} {job} one (Jobs.not_begun {v} look d begin) = record {
  single = record { desks = looked n desk v one; places = one.places; births = one.births };
  boot = refl;
  longer = omega arith;
}

-- a job publishes nothing, and what is kept is not touched
pub jobs_list : {n : NodeState} {desk upto : ℕ} {job : Job} {r : Result Answer Fault}
    {n' : NodeState} → Jobs n desk upto job r n'
    → (length n'.published ≡ length n.published) × (kept_of n' ≡ kept_of n)
jobs_list (Jobs.stopped why) = (refl, refl)
jobs_list (Jobs.no_room look more w) = (refl, refl)
jobs_list (Jobs.refused look d) = (refl, refl)
jobs_list (Jobs.replied look d) = (refl, refl)
jobs_list (Jobs.sent look d) = (refl, refl)
jobs_list (Jobs.begun look d begin) = begins_list begin
  where
    begins_list : {n : NodeState} {body : Body} {maker : Option Pid} {desk : Option ℕ}
        {r : Result Name Fault} {n' : NodeState} → Begins n body maker desk r n'
        → (length n'.published ≡ length n.published) × (kept_of n' ≡ kept_of n)
    begins_list (Begins.begins idle next) = (refl, refl)
    begins_list (Begins.taken why) = (refl, refl)
    begins_list (Begins.spent idle last) = (refl, refl)
jobs_list (Jobs.not_begun look d begin) = (refl, refl)

-- the bench of the receiver is another
came : (n : NodeState) (d : Data) (left : BenchState) → IsSingle n → Follows n (delivered n d left)
came n d left one = record {
  single = record {
    desks = one.desks;
    places = length-with n.benches (place_of n (Arrive d)) left ∙ one.places;
    births = one.births;
  };
  boot = refl;
  longer = omega arith;
}

pub arrives_on : {n : NodeState} {d : Data} {r : Result Reply Fault} {n' : NodeState} → IsSingle n
    → Arrives n d r n' → Follows n n' × (kept_of n' ≡ kept_of n)
arrives_on one (Arrives.stopped why) = (stays one, refl)
arrives_on {n} {d} one (Arrives.refused {refusal} {left} at) = (came n d left one, refl)
arrives_on {n} {d} one (Arrives.arrives {reply} {left} at) = (came n d left one, refl)

pub arrives_list : {n : NodeState} {d : Data} {r : Result Reply Fault} {n' : NodeState}
    → Arrives n d r n' → length n'.published ≡ length n.published
arrives_list (Arrives.stopped why) = refl
arrives_list (Arrives.refused at) = refl
arrives_list (Arrives.arrives at) = refl

-- it is saved: what is kept goes with what is saved
pub record Saved (n : NodeState) (k : Kept) (n' : NodeState) (k' : Kept) : Type 0 where
  pub on : Follows n n'
  pub kept : k ≡ kept_of n → k' ≡ kept_of n'

saves_by : {n : NodeState} {k : Kept} {r : Result (Unit {0}) Fault} {n' : NodeState} {k' : Kept}
    → IsSingle n → Saves n k r n' k' → r ≡ Ok tt → Saved n k n' k'
saves_by one (Saves.saved {batch} is) fine = record {
  on = record {
    single = record { desks = one.desks; places = one.places; births = one.births };
    boot = refl;
    longer = omega arith;
  };
  kept = λ same. ap (λ (x : Kept). with_batch x (ops_of batch)) same;
}
saves_by one (Saves.no_room is) fine = absurd (cc)
saves_by one (Saves.failed is left) fine = absurd (cc)
saves_by one (Saves.none why) fine = absurd (cc)

pub saves_on : {n : NodeState} {k : Kept} {n' : NodeState} {k' : Kept} → IsSingle n
    → Saves n k (Ok tt) n' k' → Saved n k n' k'
saves_on one h = saves_by one h refl

-- the desk of an order is told, and its maker has what it gives
told_length : (batch : Batch) (count : ℕ) (views : List ℕ)
    → length (told batch count views) ≡ length views
told_length (Ordered op maker None) count views = refl
told_length (Ordered op maker (Some desk)) count views = length-with views desk count
told_length (Received ops) count views = refl

given_length : (batch : Batch) (benches : List BenchState)
    → length (given_to batch benches) ≡ length benches
given_length (Ordered op None desk) benches = refl
given_length (Ordered op (Some pid) desk) benches = length-change _ benches _
given_length (Received ops) benches = refl

pub publishes_on : {n : NodeState} {r : Result ℕ Fault} {n' : NodeState} → IsSingle n
    → Publishes n r n' → Follows n n' × (kept_of n' ≡ kept_of n)
publishes_on {n} one (Publishes.published {batch} is) = (
  record {
    single = record {
      desks = told_length batch _ n.views ∙ one.desks;
      places = given_length batch n.benches ∙ one.places;
      births = one.births;
    };
    boot = refl;
    longer = (let sum = length-append n.published (ops_of batch) in omega arith);
  },
  refl,
)
publishes_on one (Publishes.no_room is) = (stays one, refl)
publishes_on one (Publishes.none why) = (stays one, refl)

-- operations come, and what is on its way may be another
pub receives_on : {n : NodeState} {ops : SetBy op_cmp} {r : Result ℕ Fault} {n' : NodeState}
    → IsSingle n → Receives n ops r n' → Follows n n' × (kept_of n' ≡ kept_of n)
receives_on one (Receives.stopped why) = (stays one, refl)
receives_on one (Receives.no_room on some) = (stays one, refl)
receives_on one (Receives.impostor on first bad) = (stays one, refl)
receives_on one (Receives.clash on first bad) = (stays one, refl)
receives_on one (Receives.nothing_new on may all) = (stays one, refl)
receives_on one (Receives.taken op on may there new why) = (stays one, refl)
receives_on one (Receives.receives idle may lacking some) = (
  record {
    single = record { desks = one.desks; places = one.places; births = one.births };
    boot = refl;
    longer = omega arith;
  },
  refl,
)

-- ---- where the desk has seen all that is published, it may look as far as it will

far : {n : NodeState} {desk seen upto v : ℕ} → length n.published ≤ seen
    → length n.published ≤ upto → Looks n desk seen v → Looks n desk upto v
far {n} {desk} {seen} {upto} {v} all high look = record {
  running = look.running;
  seen = look.seen;
  has_seen = look.has_seen;
  sees = (let at = look.sees in omega arith);
}

pub jobs_far : {n : NodeState} {desk seen upto : ℕ} {job : Job} {r : Result Answer Fault}
    {n' : NodeState} → length n.published ≤ seen → length n.published ≤ upto
    → Jobs n desk seen job r n' → Jobs n desk upto job r n'
unfolding far
jobs_far all high (Jobs.stopped why) = Jobs.stopped why
jobs_far all high (Jobs.no_room look more which) = Jobs.no_room (far all high look) more which
jobs_far all high (Jobs.refused look d) = Jobs.refused (far all high look) d
jobs_far all high (Jobs.replied look d) = Jobs.replied (far all high look) d
jobs_far all high (Jobs.sent look d) = Jobs.sent (far all high look) d
jobs_far all high (Jobs.begun look d begin) = Jobs.begun (far all high look) d begin
jobs_far all high (Jobs.not_begun look d begin) = Jobs.not_begun (far all high look) d begin

-- the only worker's next process is born on the only bench in any case
pub same_place : (n : NodeState) (w : ℕ) → w ≡ 1 → IsSingle n → placed n w ≡ n
same_place n w is one = ap (λ x. placed n x) is ∙ ap (λ p. record n { procs = p }) (sym one.births)

-- the only desk is the first
pub only_one : (xs : List ℕ) (w v : ℕ) → length xs ≡ 1 → item_at xs w ≡ Some v → w ≡ 1
only_one [] w v one at = absurd (omega arith)
only_one (x ∷ xs) zero v one at = absurd (cc)
only_one (x ∷ xs) (suc zero) v one at = refl
only_one (x ∷ []) (suc (suc k)) v one at = absurd (cc)
only_one (x ∷ y ∷ xs) (suc (suc k)) v one at = absurd (omega arith)
