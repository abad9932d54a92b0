-- The places of a batch, beside the entries of its workers.
use Rattle.std.proofs.Common.{◌≡◌, ◌==◌, ℕ, suc, ◌+◌, ◌-◌, ◌%◌, ◌<◌, Bool, true, false}
use Rattle.std.proofs.Common.{if◌then◌else◌, List, [], ◌∷◌, map, length, refl, sym, subst}
use Rattle.std.proofs.Common.{arith}
use Rattle.std.proofs.lemmas.Bool.{eq-eqb, ne_eqb}
use Rattle.std.proofs.lemmas.Nat.{mod_below}
use Rattle.fl_jobs.specs.declared.job.Job.{Job}
use Rattle.fl_jobs.specs.declared.job.Job.TheVariants.{Proc, By, Member, Arrive}
use Rattle.fl_system.specs.Jobs.{bench_for, procs_after}
use Rattle.fl_crew_model.specs.declared.record.Entry as told_entry
use Rattle.fl_crew_model.specs.Crews.{IsWorker}
use Rattle.fl_dealing.specs.Dealt.{owners_of, procs_behind, task_at, tasks_of}
use Rattle.fl_dealing.specs.Gathered.{select}
use Rattle.fl_dealing.specs.Shown.{shown}
use Rattle.fl_dealing.specs.declared.entry.Entry.{Entry}
use Rattle.fl_dealing.specs.declared.item.Item.{Item}
use Rattle.fl_dealing.specs.declared.item.Item.TheVariants as items
use Rattle.fl_worker.specs.Tasks.{AreOf}
use Rattle.fl_worker.specs.declared.task.Task.{Task}
use Rattle.fl_crew_worlds.proofs.Running.{AllOf}
use Rattle.fl_crew_worlds.proofs.Wide.{births_wide}

-- ---- births

pub births_behind : (size procs : ℕ) (is : List Item) → procs < size
    → procs_behind size procs is < size
births_behind size procs [] low = low
births_behind size procs (items.Job job ∷ is) low =
    births_behind size (procs_after size procs job) is (births_wide size size procs job refl low)
births_behind size procs (items.Packet packet ∷ is) low = births_behind size procs is low

-- some worker sees to each job
bench_worker : (size serial : ℕ) → 0 < size → IsWorker size (suc ((serial - 1) % size))
bench_worker size serial some =
    let low = mod_below (serial - 1) size some in
    record { low = omega arith; high = omega (arith, low) }

owner_worker : (size procs : ℕ) (job : Job) → procs < size
    → IsWorker size (bench_for size procs job)
owner_worker size procs Proc low = record { low = omega arith; high = omega (arith, low) }
owner_worker size procs (By pid act) low = bench_worker size pid.serial (omega (arith, low))
owner_worker size procs (Member root c) low =
    record { low = omega arith; high = omega (arith, low) }
owner_worker size procs (Arrive d) low = bench_worker size d.receiver.serial (omega (arith, low))

-- ---- what holds of each job holds of each task, and of each entry

abbrev pub AllJobs : (Job → Type 0) → List Item → Type 0
AllJobs R [] = Unit {0}
AllJobs R (items.Job job ∷ is) = R job × AllJobs R is
AllJobs R (items.Packet packet ∷ is) = AllJobs R is

task_or_not : (R : Job → Type 0) (t : Task) (ts : List Task) (mine : Bool) → R t.job
    → AllOf (λ (x : Task). R x.job) ts
    → AllOf (λ (x : Task). R x.job) (if mine then t ∷ ts else ts)
task_or_not R t ts true h all = (h, all)
task_or_not R t ts false h all = all

pub all_tasks : (R : Job → Type 0) (w place : ℕ) (owners : List ℕ) (is : List Item)
    → AllJobs R is → AllOf (λ (x : Task). R x.job) (tasks_of w place owners is)
all_tasks R w place [] is h = tt
all_tasks R w place (o ∷ os) [] h = tt
all_tasks R w place (o ∷ os) (items.Packet packet ∷ is) h = all_tasks R w (place + 1) os is h
all_tasks R w place (o ∷ os) (items.Job job ∷ is) h =
    task_or_not R (task_at place job) (tasks_of w (place + 1) os is) (o == w) h.0
    (all_tasks R w (place + 1) os is h.1)

pub all_entries : (R : Job → Type 0) (ts : List Task) (es : List told_entry.Entry) → AreOf ts es
    → AllOf (λ (x : Task). R x.job) ts → AllOf (λ (e : told_entry.Entry). R e.job.value) es
all_entries R [] [] of_them h = tt
all_entries R [] (e ∷ es) of_them h = absurd of_them
all_entries R (t ∷ ts) [] of_them h = absurd of_them
all_entries R (t ∷ ts) (e ∷ es) of_them h =
    (subst R (sym of_them.0.job) h.0, all_entries R ts es of_them.1 h.1)

-- ---- what is shown of each task

abbrev pub AllShown : (Job → Entry → Type 0) → List Task → List Entry → Type 0
AllShown P [] [] = Unit {0}
AllShown P (t ∷ ts) (e ∷ es) = P t.job e × AllShown P ts es
AllShown P [] (e ∷ es) = ⊥
AllShown P (t ∷ ts) [] = ⊥

-- the entry shows one of the worker's, which is so, of that job
pub record Shows (D : told_entry.Entry → Type 0) (job : Job) (e : Entry) : Type 0 where
  pub entry : told_entry.Entry
  pub of_job : entry.job.value ≡ job
  pub is_shown : e ≡ shown entry
  pub holds : D entry

pub all_shown : (D : told_entry.Entry → Type 0) (ts : List Task) (es : List told_entry.Entry)
    → AreOf ts es → AllOf D es → AllShown (Shows D) ts (map shown es)
all_shown D [] [] of_them h = tt
all_shown D [] (e ∷ es) of_them h = absurd of_them
all_shown D (t ∷ ts) [] of_them h = absurd of_them
all_shown D (t ∷ ts) (e ∷ es) of_them h = (
  record { entry = e; of_job = of_them.0.job; is_shown = refl; holds = h.0 },
  all_shown D ts es of_them.1 h.1,
)

-- ---- and so of each place

abbrev pub AllPaired : (Job → Entry → Type 0) → List Item → List Entry → Type 0
AllPaired P [] [] = Unit {0}
AllPaired P (items.Job job ∷ is) (e ∷ es) = P job e × AllPaired P is es
AllPaired P (items.Packet packet ∷ is) (e ∷ es) = AllPaired P is es
AllPaired P [] (e ∷ es) = ⊥
AllPaired P (items.Job job ∷ is) [] = ⊥
AllPaired P (items.Packet packet ∷ is) [] = ⊥

first_shown : (P : Job → Entry → Type 0) (t : Task) (ts : List Task) (e : Entry) (es : List Entry)
    (mine : Bool) → mine ≡ true
    → AllShown P (if mine then t ∷ ts else ts) (if mine then e ∷ es else es) → P t.job e
first_shown P t ts e es true is h = h.0
first_shown P t ts e es false is h = absurd (cc)

later_shown : (P : Job → Entry → Type 0) (t : Task) (ts : List Task) (e : Entry) (es : List Entry)
    (mine : Bool) → AllShown P (if mine then t ∷ ts else ts) (if mine then e ∷ es else es)
    → AllShown P ts es
later_shown P t ts e es true h = h.1
later_shown P t ts e es false h = h

other_shown : (P : Job → Entry → Type 0) (ts : List Task) (e : Entry) (es : List Entry)
    (mine : Bool) → mine ≡ false → AllShown P ts (if mine then e ∷ es else es) → AllShown P ts es
other_shown P ts e es true is h = absurd (cc)
other_shown P ts e es false is h = h

no_worker : (size w : ℕ) → IsWorker size w → (0 == w) ≡ false
no_worker size w is = let low = is.low in ne_eqb 0 w (λ zero_is. omega (arith, low, zero_is))

pub all_paired : (P : Job → Entry → Type 0) (size procs place : ℕ) (is : List Item)
    (es : List Entry) → procs < size → length es ≡ length is
    → ((w : ℕ) → IsWorker size w
    → AllShown P (tasks_of w place (owners_of size procs is) is)
    (select w (owners_of size procs is) es))
    → AllPaired P is es
all_paired P size procs place [] [] low count h = tt
all_paired P size procs place [] (e ∷ es) low count h = absurd (omega (arith, count))
all_paired P size procs place (items.Job job ∷ is) [] low count h = absurd (omega (arith, count))
all_paired P size procs place (items.Packet packet ∷ is) [] low count h =
    absurd (omega (arith, count))
all_paired P size procs place (items.Job job ∷ is) (e ∷ es) low count h =
    let owner = bench_for size procs job in
    let next = procs_after size procs job in
    let os = owners_of size next is in
    let t = task_at place job in (
      first_shown P t (tasks_of owner (place + 1) os is) e (select owner os es) (owner == owner)
          (eq-eqb owner owner refl) (h owner (owner_worker size procs job low)),
      all_paired P size next (place + 1) is es (births_wide size size procs job refl low)
          (omega (arith, count))
          (λ w worker. later_shown P t (tasks_of w (place + 1) os is) e (select w os es)
          (owner == w) (h w worker)),
    )
all_paired P size procs place (items.Packet packet ∷ is) (e ∷ es) low count h =
    let os = owners_of size procs is in
    all_paired P size procs (place + 1) is es low (omega (arith, count))
    (λ w worker. other_shown P (tasks_of w (place + 1) os is) e (select w os es) (0 == w)
    (no_worker size w worker) (h w worker))
