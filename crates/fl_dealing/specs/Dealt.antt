-- Whose item stands at which place of a batch.
use Rattle.std.specs.Prelude.{◌≡◌, ◌==◌, ℕ, ◌+◌, ◌≤◌, ◌<◌, List, [], ◌∷◌, if◌then◌else◌}
use Rattle.fl_jobs.specs.declared.job.Job.{Job}
use Rattle.fl_system.specs.Jobs.{bench_for, procs_after}
use Rattle.fl_crew_model.specs.Crews.{home_of}
use Rattle.fl_worker.specs.declared.task.Task.{Task}
use Rattle.fl_dealing.specs.declared.item.Item.{Item}
use Rattle.fl_dealing.specs.declared.item.Item.TheVariants as items
use Rattle.fl_dealing.specs.declared.dealing.Parcel.{Parcel}

-- Who sees to an item, after so many births: to a job the worker with the bench at which it is
-- done, to a packet the registrar, who has the number 0.
abbrev pub owner_of : ℕ → ℕ → Item → ℕ
owner_of workers procs (items.Job job) = bench_for workers procs job
owner_of workers procs (items.Packet packet) = 0

-- the births that are counted behind an item
abbrev pub procs_past : ℕ → ℕ → Item → ℕ
procs_past workers procs (items.Job job) = procs_after workers procs job
procs_past workers procs (items.Packet packet) = procs

-- and behind all of them
abbrev pub procs_behind : ℕ → ℕ → List Item → ℕ
procs_behind workers procs [] = procs
procs_behind workers procs (i ∷ is) = procs_behind workers (procs_past workers procs i) is

abbrev pub owners_of : ℕ → ℕ → List Item → List ℕ
owners_of workers procs [] = []
owners_of workers procs (i ∷ is) =
    owner_of workers procs i ∷ owners_of workers (procs_past workers procs i) is

abbrev pub task_at : ℕ → Job → Task
task_at place job = record { place = place; job = job }

-- the tasks of worker w among the items from this place on, which have these owners
abbrev pub tasks_of : ℕ → ℕ → List ℕ → List Item → List Task
tasks_of w place [] is = []
tasks_of w place (o ∷ os) [] = []
tasks_of w place (o ∷ os) (items.Packet packet ∷ is) = tasks_of w (place + 1) os is
tasks_of w place (o ∷ os) (items.Job job ∷ is) =
    if o == w then task_at place job ∷ tasks_of w (place + 1) os is
    else tasks_of w (place + 1) os is

-- the packets among the items from this place on
abbrev pub parcels_of : ℕ → List Item → List Parcel
parcels_of place [] = []
parcels_of place (items.Job job ∷ is) = parcels_of (place + 1) is
parcels_of place (items.Packet packet ∷ is) =
    record { place = place; packet = packet } ∷ parcels_of (place + 1) is

-- these tasks are at home at worker w
abbrev pub AreHome : ℕ → ℕ → List Task → Type 0
AreHome workers w [] = Unit {0}
AreHome workers w (t ∷ ts) = (home_of workers w t.job ≡ w) × AreHome workers w ts

-- their places rise, from `low` on and below `high`
abbrev pub Rise : ℕ → ℕ → List Task → Type 0
Rise low high [] = Unit {0}
Rise low high (t ∷ ts) = (low ≤ t.place) × (t.place < high) × Rise (t.place + 1) high ts
