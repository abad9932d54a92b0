-- That all is answered.
use Rattle.std.proofs.Common.{◌≡◌, ◌∙◌, ◌⊎◌, inl, inr, ℕ, zero, suc, ◌<◌, ◌≤◌, ◌+◌, Bool, true, false, List, [], ◌∷◌, map, length, get_or, refl, sym, ap, subst, arith, if◌then◌else◌, eqb}
use Rattle.std.proofs.lemmas.Bool.{cases_lt}
use Rattle.std.proofs.lemmas.Bool.Decides.{eqb_tells}
use Rattle.fl_jobs.specs.declared.job.Job.{Job}
use Rattle.fl_jobs.specs.declared.job.Job.TheVariants.{Proc, By, Member, Arrive}
use Rattle.fl_system.specs.Jobs.{bench_for, procs_after}
use Rattle.fl_crew_model.specs.declared.record.Entry as inner
use Rattle.fl_crew_threads.specs.Receiving.{place_of}
use Rattle.fl_dealing.specs.Dealt.{owners_of, tasks_of, task_at, parcels_of}
use Rattle.fl_dealing.specs.Answered.{AreAnswered}
use Rattle.fl_dealing.specs.Shown.{shown, shown_taken}
use Rattle.fl_dealing.specs.declared.entry.Entry.{Entry}
use Rattle.fl_dealing.specs.declared.entry.Taken.{Taken}
use Rattle.fl_dealing.specs.declared.item.Item.{Item}
use Rattle.fl_dealing.specs.declared.item.Item.TheVariants as items
use Rattle.fl_settling.proofs.Choosing.{some_item}
use Rattle.fl_worker.specs.declared.task.Task.{Task}
use Rattle.fl_worker.specs.declared.worker.Worker.{Worker}
use Rattle.fl_worker.specs.Tasks.{AreOf}
use Rattle.fl_manning.specs.Ended.{said_of, shown_of}

jobs_taken : (ts : List Taken) → map (λ e. e.job) (map shown_taken ts) ≡ map place_of ts
jobs_taken [] = refl
jobs_taken (t ∷ ts) = ap (λ l. t.place ∷ l) (jobs_taken ts)

jobs_told : (ts : List Task) (es : List inner.Entry) → AreOf ts es
    → map (λ e. e.job) (map shown es) ≡ map (λ t. t.place) ts
jobs_told [] [] of = refl
jobs_told [] (e ∷ es) of = absurd of
jobs_told (t ∷ ts) [] of = absurd of
jobs_told (t ∷ ts) (e ∷ es) of =
    let here : e.place ≡ t.place = of.0.place in
    let rest = jobs_told ts es of.1 in
    cc

get_shown : (ws : List Worker) (k : ℕ) (d : Worker) → k < length ws
    → get_or (map shown_of ws) k [] ≡ shown_of (get_or ws k d)
get_shown [] k d below = absurd (omega arith)
get_shown (w ∷ ws) zero d below = refl
get_shown (w ∷ ws) (suc k) d below = get_shown ws k d (omega arith)

pub get_past : (ws : List Worker) (k : ℕ) → length ws ≤ k → get_or (map shown_of ws) k [] ≡ []
get_past [] zero past = refl
get_past [] (suc k) past = refl
get_past (w ∷ ws) zero past = absurd (omega arith)
get_past (w ∷ ws) (suc k) past = get_past ws k (omega arith)

-- an item is of one of so many workers, or of the registrar
owner_low : (n procs : ℕ) (job : Job) → procs < n → bench_for n procs job ≤ n
owner_low n procs Proc below = omega arith
owner_low n procs (By pid act) below = omega arith
owner_low n procs (Member root c) below = omega arith
owner_low n procs (Arrive d) below = omega arith

pub past_low : (n procs : ℕ) (job : Job) → procs < n → procs_after n procs job < n
past_low n procs Proc below = omega arith
past_low n procs (By pid act) below = below
past_low n procs (Member root c) below = below
past_low n procs (Arrive d) below = below

not_its : (test : Bool) (t : Task) (ts : List Task) → test ≡ false → ts ≡ []
    → (if test then t ∷ ts else ts) ≡ []
not_its true t ts wrong none = absurd (cc)
not_its false t ts wrong none = none

other_owner : (o w : ℕ) → o < w → eqb o w ≡ false
other_owner o w below = by (eqb_tells o w)
  where
    by : ((eqb o w ≡ true) × (o ≡ w)) ⊎ ((eqb o w ≡ false) × (o ≡ w → ⊥)) → eqb o w ≡ false
    by (inl same) = absurd (let e = same.1 in omega (arith, e))
    by (inr other) = other.0

no_tasks : (n procs w place : ℕ) (is : List Item) → procs < n → n < w
    → tasks_of w place (owners_of n procs is) is ≡ []
no_tasks n procs w place [] below past = refl
no_tasks n procs w place (items.Packet packet ∷ is) below past =
    no_tasks n procs w (place + 1) is below past
no_tasks n procs w place (items.Job job ∷ is) below past =
    let low = owner_low n procs job below in
    not_its (eqb (bench_for n procs job) w) (task_at place job)
    (tasks_of w (place + 1) (owners_of n (procs_after n procs job) is) is)
    (other_owner (bench_for n procs job) w (omega (arith, low)))
    (no_tasks n (procs_after n procs job) w (place + 1) is (past_low n procs job below) past)

module _ (n procs : ℕ) (is : List Item) (ws : List Worker) (taken : List Taken)
    (next : procs < n) (count : length ws ≡ n) where
  tasks_told : ((k : ℕ) (d : Worker) → k < n
      → AreOf (tasks_of (suc k) 0 (owners_of n procs is) is) (get_or ws k d).entries.items)
      → (i : ℕ) → (i < n) ⊎ (n ≤ i) → map (λ e. e.job) (said_of ws taken (suc i))
      ≡ map (λ t. t.place) (tasks_of (suc i) 0 (owners_of n procs is) is)
  tasks_told of i (inl below) =
      let within : i < length ws = omega (arith, count, below) in
      let d = some_item ws i within in
      ap (map (λ (e : Entry). e.job)) (get_shown ws i d within)
      ∙ jobs_told (tasks_of (suc i) 0 (owners_of n procs is) is) (get_or ws i d).entries.items
      (of i d below)
  tasks_told of i (inr past) =
      let beyond : length ws ≤ i = omega (arith, count, past) in
      ap (map (λ (e : Entry). e.job)) (get_past ws i beyond)
      ∙ sym (ap (map (λ (t : Task). t.place))
      (no_tasks n procs (suc i) 0 is next (omega arith)))

  pub all_answered : map place_of taken ≡ map (λ p. p.place) (parcels_of 0 is)
      → ((k : ℕ) (d : Worker) → k < n
      → AreOf (tasks_of (k + 1) 0 (owners_of n procs is) is) (get_or ws k d).entries.items)
      → AreAnswered n procs is (said_of ws taken)
  all_answered places of = record {
    parcels = jobs_taken taken ∙ places;
    tasks = λ i.
        tasks_told
        (λ k d below.
        let one : k + 1 ≡ suc k = omega arith in
        subst (λ (w : ℕ). AreOf (tasks_of w 0 (owners_of n procs is) is)
        (get_or ws k d).entries.items) one (of k d below))
        i (cases_lt i n);
  }
